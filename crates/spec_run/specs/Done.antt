-- What a part of an event leaves, and how one part follows another.
use Rattle.std.specs.Prelude.{ℕ, ℤ, List, [], ◌++◌, Option, Result, Ok, Err}
use Rattle.spec_script.specs.declared.value.Value.{Value}
use Rattle.spec_run.specs.declared.fault.NodeFault.{NodeFault}
use Rattle.spec_run.specs.declared.leaf.Instance.{Instance}
use Rattle.spec_run.specs.declared.leaf.Phase.{Phase}
use Rattle.spec_run.specs.declared.note.Note.{Note}

-- what a part of an event can change beside the nodes' memory: the runner's blackboard by slot, the facts
-- of the world, and the instances of the runner's leaves by their uid (place 0 is nobody's); and the
-- moment of the event, which no part changes
pub record State : Type 0 where
  pub board : List (Option Value)
  pub facts : List ℤ
  pub instances : List Instance
  pub moment : ℕ

-- a call of a leaf's driver, with what it leaves of the leaf's instance
pub record Call : Type 0 where
  pub uid : ℕ
  pub phase : Phase
  pub left : Instance

-- what a part of an event leaves: its answer or its fault, the memory, the state, the notes that it made
-- and the calls of drivers, in order
pub record Done (A M : Type 0) : Type 0 where
  pub answer : Result A NodeFault
  pub memory : M
  pub state : State
  pub notes : List Note
  pub calls : List Call

-- an answer or a fault, with no note and no call
abbrev pub ends : {A M : Type 0} → Result A NodeFault → M → State → Done A M
ends answer memory state = record { answer = answer; memory = memory; state = state; notes = []; calls = [] }

-- an answer, with no note and no call
abbrev pub done : {A M : Type 0} → A → M → State → Done A M
done a memory state = ends (Ok a) memory state

-- what a part leaves, with these notes and calls before its own
abbrev pub following : {A M : Type 0} → List Note → List Call → Done A M → Done A M
following notes calls d = record { answer = d.answer; memory = d.memory; state = d.state; notes = notes ++ d.notes; calls = calls ++ d.calls }

-- after a part another goes on with its answer; a fault ends it, and what was done before stands, its memory in its place
abbrev pub carried : {A M B N : Type 0} → Result A NodeFault → Done A M → (M → N) → (A → M → State → Done B N) → Done B N
carried (Ok a) d place go = following d.notes d.calls (go a d.memory d.state)
carried (Err f) d place go = record { answer = Err f; memory = place d.memory; state = d.state; notes = d.notes; calls = d.calls }

-- one part and then the next
abbrev pub follow : {A M B N : Type 0} → Done A M → (M → N) → (A → M → State → Done B N) → Done B N
follow d place go = carried d.answer d place go
