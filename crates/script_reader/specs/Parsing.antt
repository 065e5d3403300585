-- What a reader of scripts and expressions answers.
use Rattle.std.specs.Prelude.{ℕ, List, Result, Ok, Err}
use Rattle.spec_script.specs.declared.fault.ScriptFault.{ScriptFault}
use Rattle.base_texts.specs.declared.stop.Stop.{Stop}
use Rattle.base_texts.specs.declared.stop.Stop.TheVariants as stop

-- What reading answers: a value that the text reads as, or a fault that it has. Want of memory (out of memory) may come anywhere.
abbrev pub Answers : {X : Type 0} → (List ℕ → X → Type 0) → (List ℕ → ScriptFault → Type 0) → List ℕ → Result X (Stop ScriptFault) → Type 0
Answers Is Has text (Ok x) = Is text x
Answers Is Has text (Err (stop.Fault fault)) = Has text fault
Answers Is Has text (Err stop.NoMemory) = Unit {0}
