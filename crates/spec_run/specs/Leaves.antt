-- What nodes without children do: a leaf calls its driver, a script node runs its code.
use Rattle.std.specs.Prelude.{ℕ, ℤ, List, [], ◌∷◌, map, find, slice_index_or, slice_set, if◌then◌else◌, Option, Some, None, option_map, Result, Ok, Err}
use Rattle.std.specs.Str.{bytes_eq}
use Rattle.spec_script.specs.declared.cells.Seen.{Seen}
use Rattle.spec_script.specs.declared.cells.Seen.TheVariants as seen
use Rattle.spec_script.specs.declared.syntax.Script.{Script}
use Rattle.spec_script.specs.declared.value.Value.{Value}
use Rattle.spec_script.specs.declared.value.Value.TheVariants.{Int, Text}
use Rattle.spec_run.specs.declared.fault.NodeFault.{NodeFault}
use Rattle.spec_run.specs.declared.leaf.Instance.{Instance}
use Rattle.spec_run.specs.declared.leaf.Phase.{Phase}
use Rattle.spec_run.specs.declared.leaf.Phase.TheVariants as phase
use Rattle.spec_run.specs.declared.leaf.Reply.{Reply}
use Rattle.spec_run.specs.declared.leaf.Reply.TheVariants as reply
use Rattle.spec_run.specs.declared.memory.Memo.TheVariants.{Nothing}
use Rattle.spec_run.specs.declared.memory.Memory.{Memory}
use Rattle.spec_run.specs.declared.note.Note.{Note}
use Rattle.spec_run.specs.declared.note.Note.TheVariants.{Started, Ran}
use Rattle.spec_run.specs.declared.status.Answer.{Answer}
use Rattle.spec_run.specs.declared.status.Answer.TheVariants.{Running, Success, Failure, Skipped}
use Rattle.spec_run.specs.declared.status.Status.{Status}
use Rattle.spec_run.specs.declared.status.Status.TheVariants as status
use Rattle.spec_tree.specs.declared.term.PortValue.{PortValue}
use Rattle.spec_tree.specs.declared.term.PortValue.TheVariants.{Key}
use Rattle.spec_world.specs.declared.world.Out.{Out}
use Rattle.spec_world.specs.declared.world.Row.{Row}
use Rattle.spec_world.specs.declared.world.ToldOut.{ToldOut}
use Rattle.spec_world.specs.Worlds.{outs_told}
use Rattle.spec_run.specs.Done.{Done, State, done, follow}
use Rattle.spec_run.specs.Leaf.{Answered, asked, fresh, leaf_rule, rule_of}
use Rattle.spec_run.specs.Ports.{given_at, value_at}
use Rattle.spec_run.specs.NodeScripts.{fault_of_node, script_holds, script_run}
use Rattle.spec_run.specs.Sites.{Site, slot_at}
use Rattle.spec_run.specs.Steps.{Given}

-- an answer of a node that keeps nothing
abbrev pub gives : Answer → List Memory → State → Done Given (List Memory)
gives answer ms s = done (record { answer = answer; memo = Nothing }) ms s

-- ---- Leaves with a driver

-- the row of an ID
abbrev pub row_of : List Row → List ℕ → Option Row
row_of rows id = find (λ (row : Row). bytes_eq row.id id) rows

-- the instance of a leaf by its uid
abbrev pub instance_at : State → ℕ → Instance
instance_at s uid = slice_index_or s.instances uid fresh

-- what a driver sees of a value: a text is seen as some text
abbrev pub sight : Option Value → Seen
sight (Some (Int n)) = seen.Int n
sight (Some (Text t)) = seen.Text
sight None = seen.Absent

-- the inputs of a row: what its ports hold at the node
abbrev pub values_of : Site → State → Row → List (Option Value)
values_of site s row = map (λ name. value_at site s name) row.ports

-- what its driver sees of them
abbrev pub inputs_of : Site → State → Row → List Seen
inputs_of site s row = map (λ name. sight (value_at site s name)) row.ports

-- the instance of a leaf that is called so
abbrev pub instance_asked : Site → Row → Phase → State → Instance
instance_asked site row phase s = asked (rule_of site.view.facts row).way phase (values_of site s row) (instance_at s site.uid)

-- a driver is called to go on where the leaf is RUNNING, and else to begin
abbrev pub phase_of : Status → Phase
phase_of status.Running = phase.Running
phase_of _ = phase.Start

-- an output is written where the node's port of its name is given a key
abbrev pub with_output : Site → Option PortValue → ℤ → List (Option Value) → List (Option Value)
with_output site (Some (Key key)) n board = slice_set board (slot_at site key) (Some (Int n))
with_output site _ n board = board

-- the outputs of a row are written in order
abbrev pub with_outputs : Site → List Out → List ℤ → List (Option Value) → List (Option Value)
with_outputs site (out ∷ outs) (n ∷ ns) board = with_outputs site outs ns (with_output site (given_at site out.port) n board)
with_outputs site _ _ board = board

-- the value that is told for an output of this name
abbrev pub told_for : List ToldOut → List ℕ → Option Value
told_for told name = option_map (λ (out : ToldOut). out.value) (find (λ (out : ToldOut). bytes_eq out.port name) told)

-- a value that is told is written where the node's port of its name is given a key
abbrev pub with_value : Site → Option PortValue → Option Value → List (Option Value) → List (Option Value)
with_value site (Some (Key key)) (Some value) board = slice_set board (slot_at site key) (Some value)
with_value site _ _ board = board

-- the values that are told for outputs of these names are written in order
abbrev pub with_told : Site → List (List ℕ) → List ToldOut → List (Option Value) → List (Option Value)
with_told site [] told board = board
with_told site (name ∷ names) told board = with_told site names told (with_value site (given_at site name) (told_for told name) board)

-- the answer that a reply gives, or the fault of the leaf
abbrev pub reply_answer : ℕ → Reply → Result Given NodeFault
reply_answer uid reply.Running = Ok (record { answer = Running; memo = Nothing })
reply_answer uid reply.Success = Ok (record { answer = Success; memo = Nothing })
reply_answer uid reply.Failure = Ok (record { answer = Failure; memo = Nothing })
reply_answer uid (reply.Broken cause) = Err (fault_of_node uid cause)

-- the note of a call with its answer; a call without an answer has none
abbrev pub called : Phase → ℕ → Answer → Note
called phase.Start uid answer = Started uid answer
called _ uid answer = Ran uid answer

-- the note of a call, by its reply
abbrev pub reply_notes : Phase → ℕ → Reply → List Note
reply_notes phase uid reply.Running = called phase uid Running ∷ []
reply_notes phase uid reply.Success = called phase uid Success ∷ []
reply_notes phase uid reply.Failure = called phase uid Failure ∷ []
reply_notes phase uid (reply.Broken cause) = []

-- on SUCCESS the outputs are written
abbrev pub reply_board : Site → Row → Answered → List (Option Value) → Reply → List (Option Value)
reply_board site row a board reply.Success = with_told site (outs_told row.sort) a.told (with_outputs site row.outs a.outputs board)
reply_board site row a board _ = board

-- what a call of a leaf's driver leaves
abbrev pub replied : Site → Row → Phase → List Memory → State → Answered → Done Given (List Memory)
replied site row phase ms s a = record {
  answer = reply_answer site.uid a.reply;
  memory = ms;
  state = record { board = reply_board site row a s.board a.reply; facts = a.facts; instances = slice_set s.instances site.uid a.instance; moment = s.moment };
  notes = reply_notes phase site.uid a.reply;
  calls = record { uid = site.uid; phase = phase; left = a.instance } ∷ [];
}

-- what a call of the driver of a leaf with this status leaves of what the driver keeps and changes
abbrev pub leaf_answered : Site → Row → Status → State → Answered
leaf_answered site row old s =
    leaf_rule site.view.facts row (phase_of old) (instance_asked site row (phase_of old) s) (inputs_of site s row) s.facts s.moment

-- one call of the driver of a leaf with this status; a leaf without a row, which no run has, is not called
abbrev pub leaf_call : Option Row → Site → Status → List Memory → State → Done Given (List Memory)
leaf_call (Some row) site old ms s = replied site row (phase_of old) ms s (leaf_answered site row old s)
leaf_call None site old ms s = gives Skipped ms s

-- ---- Script nodes

-- Script: its code runs, and it answers SUCCESS
abbrev pub script_node : Option Script → Site → List Memory → State → Done Given (List Memory)
script_node (Some code) site ms s = follow (script_run site code s) (λ _. ms) (λ value _ s1. gives Success ms s1)
script_node None site ms s = gives Skipped ms s

-- ScriptCondition: SUCCESS where its code is true, and else FAILURE
abbrev pub script_condition : Option Script → Site → List Memory → State → Done Given (List Memory)
script_condition (Some code) site ms s =
    follow (script_holds site code s) (λ _. ms) (λ b _ s1. gives (if b then Success else Failure) ms s1)
script_condition None site ms s = gives Skipped ms s
