-- What a call of a leaf's driver needs, and what its outputs write.
use Rattle.std.specs.Prelude.{◌≡◌, ◌≤◌, ℕ, ℤ, List, [], ◌∷◌, length, map, slice_set, Bool, true, false, Option, Some, None, Result, Ok, Err, bytes_eq}
use Rattle.std.specs.List.{All, IsDistinct}
use Rattle.spec_script.specs.declared.cells.Seen.{Seen}
use Rattle.base_texts.specs.declared.stop.Stop.{Stop}
use Rattle.spec_script.specs.declared.value.Value.{Value}
use Rattle.spec_script.specs.declared.value.Value.TheVariants.{Int}
use Rattle.spec_run.specs.declared.fault.NodeFault.{NodeFault}
use Rattle.spec_run.specs.declared.leaf.Instance.{Instance}
use Rattle.spec_run.specs.declared.leaf.Phase.{Phase}
use Rattle.spec_run.specs.declared.leaf.Reply.{Reply}
use Rattle.spec_run.specs.declared.leaf.Reply.TheVariants.{Running, Success, Broken}
use Rattle.spec_run.specs.declared.memory.Memo.TheVariants.{Nothing}
use Rattle.spec_run.specs.declared.status.Answer.{Answer}
use Rattle.spec_run.specs.declared.status.Status.{Status}
use Rattle.spec_run.specs.declared.status.Status.TheVariants as status
use Rattle.spec_world.specs.declared.world.ToldOut.{ToldOut}
use Rattle.spec_run.specs.Drivers.{DriverState, roster_called}
use Rattle.base_tables.specs.DriverCalls.{IsHeldBy, instance_at, roster_answer}
use Rattle.base_tables.specs.Outputs.{Outputs}
use Rattle.spec_run.specs.Leaf.{Answered, asked, padded, rule_answer}
use Rattle.spec_run.specs.Leaves.{phase_of, sight, told_for}
use Rattle.spec_run.specs.Steps.{Given}
use Rattle.run_driver.specs.Ready.{is_ready_told, ready_told}
use Rattle.run_driver.specs.Rules.{rule}
use Rattle.run_arena.specs.declared.nodes.ReadyLeaf.{ReadyLeaf}
use Rattle.run_arena.specs.declared.source.Source.{Source}
use Rattle.run_arena.specs.declared.source.Source.TheVariants.{Slot}
use Rattle.run_arena.specs.declared.stage.Stage.{Stage}
use Rattle.run_arena.specs.Nodes.{kept_at, leaf_at}
use Rattle.run_arena.specs.Rosters.{IsServed}
use Rattle.run_arena.specs.Sources.{IsSourceOf, source_value}
use Rattle.run_arena.specs.Stages.{IsSame}

-- ---- Inputs and outputs

-- what the inputs of a leaf hold
abbrev pub values_held : List (Option Value) → List Source → List (Option Value)
values_held board inputs = map (λ (source : Source). source_value board source) inputs

-- what a driver sees of them
abbrev pub seen_inputs : List (Option Value) → List Source → List Seen
seen_inputs board inputs = map (λ (source : Source). sight (source_value board source)) inputs

-- a number is written where a slot is given
abbrev pub number_written : Source → ℤ → List (Option Value) → List (Option Value)
number_written (Slot slot) n board = slice_set board slot (Some (Int n))
number_written _ n board = board

-- outputs are written in order
abbrev pub outputs_written : List Source → List ℤ → List (Option Value) → List (Option Value)
outputs_written (source ∷ sources) (n ∷ ns) board = outputs_written sources ns (number_written source n board)
outputs_written _ _ board = board

-- a value that is told is written where a slot is given
abbrev pub value_written : Source → Option Value → List (Option Value) → List (Option Value)
value_written (Slot slot) (Some value) board = slice_set board slot (Some value)
value_written _ _ board = board

-- the values that are told for outputs of these names are written in order
abbrev pub told_written : List (List ℕ) → List Source → List ToldOut → List (Option Value) → List (Option Value)
told_written (name ∷ names) (source ∷ sources) told board = told_written names sources told (value_written source (told_for told name) board)
told_written _ _ told board = board

-- the outputs of a leaf are written: the values that are told where it has names for them, and else the numbers
abbrev pub leaf_written : List (List ℕ) → List Source → Outputs → List (Option Value) → List (Option Value)
leaf_written [] sources outputs board = outputs_written sources outputs.numbers board
leaf_written names sources outputs board = told_written names sources outputs.told board

-- ---- Calls

-- a driver is called to begin at an instance that is not held, and to go on at one that is held since a time not
-- later
abbrev pub IsInPhase : Status → Instance → ℕ → Type 0
IsInPhase status.Running instance now = IsHeldBy instance now
IsInPhase _ instance now = instance.since ≡ None

-- a leaf can be called over a board of this many slots and this many facts
pub record CanBeCalled (slots facts : ℕ) (drivers : List DriverState) (status : Status) (now : ℕ) (leaf : ReadyLeaf) : Type 0 where
  pub read : All (IsSourceOf slots) leaf.inputs
  pub few_inputs : is_ready_told leaf.row.sort ≡ false → length leaf.inputs ≤ 8
  pub written : All (IsSourceOf slots) leaf.outputs
  pub names : IsDistinct bytes_eq (ready_told leaf.row.sort)
  pub table : facts ≡ leaf.row.facts
  pub served : IsServed drivers leaf
  pub phase : IsInPhase status (instance_at drivers leaf.driver leaf.instance) now

-- the instance of a leaf of this status that is to be called: it keeps the inputs of a start where it is told what it
-- answers
abbrev pub instance_kept : ReadyLeaf → Status → List (Option Value) → List DriverState → Instance
instance_kept leaf status board drivers =
    asked (rule leaf.row).way (phase_of status) (values_held board leaf.inputs) (instance_at drivers leaf.driver leaf.instance)

-- what a call of a leaf of this status leaves
abbrev pub leaf_answer : ReadyLeaf → Status → List (Option Value) → List ℤ → List DriverState → ℕ → Answered
leaf_answer leaf status board facts drivers now =
    rule_answer (rule leaf.row) (phase_of status) (instance_kept leaf status board drivers) (padded (seen_inputs board leaf.inputs)) facts now

-- the board after a reply of a leaf with these outputs
abbrev pub board_left : Reply → ReadyLeaf → Outputs → List (Option Value) → List (Option Value)
board_left Success leaf outputs board = leaf_written (ready_told leaf.row.sort) leaf.outputs outputs board
board_left _ leaf outputs board = board

-- the mark of a leaf after a reply: it is held while it runs, and a fault changes nothing
abbrev pub mark_left : Reply → Bool → Bool
mark_left Running mark = true
mark_left (Broken cause) mark = mark
mark_left _ mark = false

-- the answer of a node that keeps nothing
abbrev pub as_given : Result Answer (Stop NodeFault) → Result Given (Stop NodeFault)
as_given (Ok answer) = Ok (record { answer = answer; memo = Nothing })
as_given (Err stop) = Err stop

-- ---- Calls on a stage

-- a leaf on a stage can be called to begin, or to go on, as its status says
abbrev pub PhaseOn : {D P : Type 0} → (D → List DriverState) → Stage D P → ℕ → Type 0
PhaseOn states s uid =
    (leaf : ReadyLeaf) → leaf_at s.nodes.now uid ≡ Some leaf →
    IsInPhase (kept_at s.kept.now uid).status (instance_at (states s.drivers.now) leaf.driver leaf.instance) s.moment

-- a leaf of this status can be called there
abbrev pub CallableOn : {D P : Type 0} → (D → List DriverState) → Stage D P → Status → ReadyLeaf → Type 0
CallableOn states s status leaf = CanBeCalled (length s.board.now) (length s.facts.now) (states s.drivers.now) status s.moment leaf

-- what a call of its driver with these inputs leaves
abbrev pub answer_to : {D P : Type 0} → (D → List DriverState) → Stage D P → Status → ReadyLeaf → List Seen → Answered
answer_to states s status leaf inputs =
    roster_answer (states s.drivers.now) leaf.driver leaf.instance (rule leaf.row) (phase_of status) inputs s.facts.now s.moment

-- what a call of its driver with its own inputs leaves
abbrev pub answer_on : {D P : Type 0} → (D → List DriverState) → Stage D P → Status → ReadyLeaf → Answered
answer_on states s status leaf = answer_to states s status leaf (padded (seen_inputs s.board.now leaf.inputs))

-- Its driver keeps the inputs of a start where it is to, and is otherwise as it was: what a call leaves of it is the same,
-- and nothing else has changed.
pub record IsReadied {D P : Type 0} (states : D → List DriverState) (status : Status) (leaf : ReadyLeaf) (old new : Stage D P) : Type 0 where
  pub same : IsSame old new
  pub kept : new.kept.now ≡ old.kept.now
  pub board : new.board.now ≡ old.board.now
  pub facts : new.facts.now ≡ old.facts.now
  pub notes : new.notes.now ≡ old.notes.now
  pub instance : instance_at (states new.drivers.now) leaf.driver leaf.instance ≡ instance_kept leaf status old.board.now (states old.drivers.now)
  pub served : IsServed (states new.drivers.now) leaf
  pub called : (phase : Phase) (left : Instance) →
      roster_called (states new.drivers.now) leaf.driver phase leaf.instance left ≡ roster_called (states old.drivers.now) leaf.driver phase leaf.instance left

-- Its driver was called and gave this answer: the facts and its instance are those after the call, and what nodes keep
-- and the notes are as they were.
pub record WasAsked {D P : Type 0} (states : D → List DriverState) (status : Status) (leaf : ReadyLeaf) (a : Answered) (old new : Stage D P)
    : Type 0 where
  pub same : IsSame old new
  pub kept : new.kept.now ≡ old.kept.now
  pub notes : new.notes.now ≡ old.notes.now
  pub facts : new.facts.now ≡ a.facts
  pub drivers : states new.drivers.now ≡ roster_called (states old.drivers.now) leaf.driver (phase_of status) leaf.instance a.instance
