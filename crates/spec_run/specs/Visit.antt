-- What a halt, a reset and a visit of a node do, and what a term means.
use Rattle.std.specs.Prelude.{ℕ, ◌+◌, List, [], ◌∷◌, ◌++◌, length, slice_set, Bool, true, false, Option, Some, None, Result, Ok, Err}
use Rattle.spec_run.specs.declared.fault.Cause.TheVariants.{BadPort}
use Rattle.spec_run.specs.declared.fault.NodeFault.{NodeFault}
use Rattle.spec_run.specs.declared.fault.NumericPort.{NumericPort}
use Rattle.spec_run.specs.declared.leaf.Phase.TheVariants as phase
use Rattle.spec_run.specs.declared.memory.Memo.{Memo}
use Rattle.spec_run.specs.declared.memory.Memo.TheVariants.{Nothing, Finished, Pace}
use Rattle.spec_run.specs.declared.memory.Memory.{Memory, out-Memory}
use Rattle.spec_run.specs.declared.moves.Span.TheVariants.{All}
use Rattle.spec_run.specs.declared.note.Note.{Note}
use Rattle.spec_run.specs.declared.note.Note.TheVariants.{Changed, Halted}
use Rattle.spec_run.specs.declared.status.Answer.{Answer}
use Rattle.spec_run.specs.declared.status.Answer.TheVariants as answer
use Rattle.spec_run.specs.declared.status.Status.{Status}
use Rattle.spec_run.specs.declared.status.Status.TheVariants.{Idle, Running, Success, Failure}
use Rattle.spec_tree.specs.declared.term.Kind.{Kind}
use Rattle.spec_tree.specs.declared.term.Kind.TheVariants.{RunOnce, AlwaysSuccess, AlwaysFailure, ScriptNode, ScriptCondition, Leaf}
use Rattle.spec_tree.specs.declared.term.Term.{Term, Term-F, fold-Term}
use Rattle.spec_tree.specs.BuiltIns.{has_rule}
use Rattle.spec_run.specs.Done.{Call, Done, State, following, done, ends, follow}
use Rattle.spec_run.specs.Leaf.{released}
use Rattle.spec_run.specs.Leaves.{gives, instance_at, leaf_call, row_of, script_condition, script_node}
use Rattle.spec_run.specs.Ports.{new_memo, picked}
use Rattle.spec_run.specs.Rules.Kinds.{rule}
use Rattle.spec_run.specs.NodeScripts.{fault_of_node, goes_on, guards_answer, posts, script_if_there}
use Rattle.spec_run.specs.Sites.{Meaning, Site, View, children_of, remembered, sizes}
use Rattle.spec_run.specs.Steps.{Given, resets}

-- the note of a change of a status to a different one
abbrev pub change : ℕ → Status → Status → List Note
change uid Idle Idle = []
change uid Running Running = []
change uid Success Success = []
change uid Failure Failure = []
change uid old new = Changed uid old new ∷ []

-- the status that an answer leaves
abbrev pub status_of : Answer → Status
status_of answer.Running = Running
status_of answer.Success = Success
status_of answer.Failure = Failure
status_of answer.Skipped = Idle

-- ---- Halt and reset

-- a memo is cleared, but the mark of a RunOnce stays
abbrev pub cleared : Memo → Memo
cleared (Finished (Some a)) = Finished (Some a)
cleared memo = Nothing

-- a leaf's driver is called `halted`, and its instance is no longer held
abbrev pub halt_state : Kind → ℕ → State → State
halt_state Leaf uid s = record s { instances = slice_set s.instances uid (released (instance_at s uid)) }
halt_state _ uid s = s

-- the note of that call
abbrev pub halt_notes : Kind → ℕ → List Note
halt_notes Leaf uid = Halted uid ∷ []
halt_notes _ uid = []

-- that call
abbrev pub halt_calls : Kind → ℕ → State → List Call
halt_calls Leaf uid s = record { uid = uid; phase = phase.Halted; left = released (instance_at s uid) } ∷ []
halt_calls _ uid s = []

-- the end of a halt: the memo is cleared, a leaf's driver is called, the status becomes IDLE, and then
-- `_onHalted` runs
abbrev pub halted : Site → Memory → State → Done (Unit {0}) Memory
halted site idle s =
    following (halt_notes site.node.kind site.uid ++ Changed site.uid Running Idle ∷ []) (halt_calls site.node.kind site.uid s)
    (follow (script_if_there site site.node.guards.on_halted (halt_state site.node.kind site.uid s)) (λ _. idle) (λ _ _ s1. done tt idle s1))

-- a halt of a RUNNING node: its children are reset in order first
abbrev pub halt : Site → Memory → State → Done (Unit {0}) Memory
halt site m s =
    follow (resets All (children_of site) 0 (out-Memory m).children s) (λ ms. remembered Running (out-Memory m).memo ms)
    (λ _ ms s1. halted site (remembered Idle (cleared (out-Memory m).memo) ms) s1)

-- a reset: a RUNNING node is halted; any other becomes IDLE, and nothing else of it changes
abbrev pub reset_by : Status → Site → Memory → State → Done (Unit {0}) Memory
reset_by Running site m s = halt site m s
reset_by old site m s =
    following (change site.uid old Idle) [] (done tt (remembered Idle (out-Memory m).memo (out-Memory m).children) s)

-- ---- The rule

-- a bad port is a fault of its node
abbrev pub or_bad_port : {A : Type 0} → ℕ → Result A NumericPort → Result A NodeFault
or_bad_port uid (Ok a) = Ok a
or_bad_port uid (Err port) = Err (fault_of_node uid (BadPort port))

-- a node with children follows the rule of its kind, with what is picked
abbrev pub kind_rule : Site → Memo → List Memory → State → Done Given (List Memory)
kind_rule site memo ms s =
    follow (ends (or_bad_port site.uid (picked site.node.kind site memo s)) ms s) (λ ms1. ms1)
    (λ place ms1 s1. rule site.node.kind (length site.node.children) memo place s1.moment (children_of site) ms1 s1)

-- what a node with this status and this memo does in a visit
abbrev pub node_rule : Kind → Site → Status → Memo → List Memory → State → Done Given (List Memory)
node_rule Leaf site status memo ms s = leaf_call (row_of site.view.rows site.node.id) site status ms s
node_rule ScriptNode site status memo ms s = script_node site.node.code site ms s
node_rule ScriptCondition site status memo ms s = script_condition site.node.code site ms s
node_rule AlwaysSuccess site status memo ms s = gives answer.Success ms s
node_rule AlwaysFailure site status memo ms s = gives answer.Failure ms s
node_rule _ site status memo ms s = kind_rule site memo ms s

-- ---- The visit

-- the end of a visit of a node with this status: the scripts after the answer run, and then the status
-- becomes the answer, or IDLE on SKIPPED
abbrev pub ended : Site → Status → Given → List Memory → State → Done Answer Memory
ended site old g ms s =
    follow (posts site g.answer s) (λ _. remembered old g.memo ms)
    (λ _ _ s1. following (change site.uid old (status_of g.answer)) [] (done g.answer (remembered (status_of g.answer) g.memo ms) s1))

-- the node's rule from this status and this memo on, and then the end
abbrev pub ruled : Site → Status → Memo → List Memory → State → Done Answer Memory
ruled site status memo ms s =
    follow (node_rule site.node.kind site status memo ms s) (λ ms1. remembered status memo ms1)
    (λ g ms1 s1. ended site status g ms1 s1)

-- what a node of this status that is not RUNNING remembers: a RateController that is IDLE has no pace
abbrev pub remembers : Status → Memo → Memo
remembers Idle (Pace p) = Nothing
remembers status memo = memo

-- whether a node starts: one with children does, but for a RunOnce with a mark
abbrev pub starts : Kind → Memo → Bool
starts RunOnce (Finished (Some a)) = false
starts kind memo = has_rule kind

-- the start: the status becomes RUNNING and the memo is new, or a numeric port is bad; then the rule
abbrev pub started : Site → Memory → State → Done Answer Memory
started site m s =
    following (change site.uid (out-Memory m).status Running) []
    (follow (ends (or_bad_port site.uid (new_memo site.node.kind site (remembers (out-Memory m).status (out-Memory m).memo) s)) (out-Memory m).children s)
    (λ ms. remembered Running (out-Memory m).memo ms) (λ memo ms s1. ruled site Running memo ms s1))

-- a node that is not RUNNING, where no guard has answered
abbrev pub begun : Bool → Site → Memory → State → Done Answer Memory
begun true site m s = started site m s
begun false site m s = ruled site (out-Memory m).status (out-Memory m).memo (out-Memory m).children s

-- the answer of a guard leaves what the node remembers as it is
abbrev pub guarded : Option Answer → Site → Memory → State → Done Answer Memory
guarded (Some a) site m s =
    ended site (out-Memory m).status (record { answer = a; memo = remembers (out-Memory m).status (out-Memory m).memo }) (out-Memory m).children s
guarded None site m s = begun (starts site.node.kind (out-Memory m).memo) site m s

-- a RUNNING node goes on, or it is halted and answers SKIPPED, and nothing more
abbrev pub continued : Bool → Site → Memory → State → Done Answer Memory
continued true site m s = ruled site Running (out-Memory m).memo (out-Memory m).children s
continued false site m s = follow (halt site m s) (λ m1. m1) (λ _ m1 s1. done answer.Skipped m1 s1)

-- a visit of a node with this status
abbrev pub visit_by : Status → Site → Memory → State → Done Answer Memory
visit_by Running site m s = follow (goes_on site s) (λ _. m) (λ b _ s1. continued b site m s1)
visit_by _ site m s = follow (guards_answer site s) (λ _. m) (λ a _ s1. guarded a site m s1)

-- ---- Terms

-- a node in its place
abbrev pub site_of : Term-F Meaning → View → ℕ → Site
site_of node view uid = record { node = node; uid = uid; view = view }

-- what one node means, with the meaning of each child in its place
abbrev pub meaning_of_node : Term-F Meaning → Meaning
meaning_of_node node = record {
  size = 1 + sizes node.children;
  reset = λ view uid m s. reset_by (out-Memory m).status (site_of node view uid) m s;
  visit = λ view uid m s. visit_by (out-Memory m).status (site_of node view uid) m s;
}

-- what a term means
abbrev pub meaning : Term → Meaning
meaning = fold-Term Meaning meaning_of_node

-- the memory of a term before its first visit, and after a fault
abbrev pub idle : Term → Memory
idle = fold-Term Memory (λ node. remembered Idle Nothing node.children)
