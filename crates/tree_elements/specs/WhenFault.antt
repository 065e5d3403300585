-- A fault, and where it comes.
use Rattle.std.specs.Prelude.{Result, Ok, Err}
use Rattle.base_texts.specs.declared.stop.Stop.{Stop}
use Rattle.base_texts.specs.declared.stop.Stop.TheVariants as stop

-- what is said of the fault that a call answers
abbrev pub WhenFault : {X F : Type 0} → Result X (Stop F) → (F → Type 0) → Type 0
WhenFault (Ok x) P = Unit {0}
WhenFault (Err stop.NoMemory) P = Unit {0}
WhenFault (Err (stop.Fault fault)) P = P fault
