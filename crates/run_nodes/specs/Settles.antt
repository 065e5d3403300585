-- What a call leaves that can change the blackboard alone, compared with what the definition says of this part of an
-- event.
use Rattle.std.specs.Prelude.{◌≡◌, Bool, true, false, List, Option, Some, Result, Ok, Err}
use Rattle.base_texts.specs.declared.stop.Stop.{Stop}
use Rattle.base_texts.specs.declared.stop.Stop.TheVariants as stop
use Rattle.spec_script.specs.declared.value.Value.{Value}
use Rattle.spec_run.specs.declared.fault.NodeFault.{NodeFault}
use Rattle.spec_run.specs.declared.status.Answer.{Answer}
use Rattle.spec_run.specs.Done.{Done, State, done, ends}

-- a state with this blackboard in place of its own
abbrev pub on_board : List (Option Value) → State → State
on_board board s = record s { board = board }

-- The answer or the fault is that of the definition, and so is the state that is left, with this memory, no note and
-- no call. Want of memory (out of memory) may come anywhere.
abbrev pub SettlesWith : {A M : Type 0} → M → Result A (Stop NodeFault) → State → Done A M → Type 0
SettlesWith memory (Ok a) s d = d ≡ done a memory s
SettlesWith memory (Err (stop.Fault f)) s d = d ≡ ends (Err f) memory s
SettlesWith memory (Err stop.NoMemory) s d = Unit {0}

-- a part that leaves no memory, with the answer or the fault and the state of the definition
abbrev pub Settles : {A : Type 0} → Result A (Stop NodeFault) → State → Done A (Unit {0}) → Type 0
Settles r s d = SettlesWith tt r s d

-- A guard was tried: where it answers, this is the answer of all; else the next guards go on from the state that is
-- left.
abbrev pub Tries : Result Bool (Stop NodeFault) → Answer → (State → Done (Option Answer) (Unit {0})) → State →
    Done (Option Answer) (Unit {0}) → Type 0
Tries (Ok true) answer next s d = d ≡ done (Some answer) tt s
Tries (Ok false) answer next s d = d ≡ next s
Tries (Err (stop.Fault f)) answer next s d = d ≡ ends (Err f) tt s
Tries (Err stop.NoMemory) answer next s d = Unit {0}
