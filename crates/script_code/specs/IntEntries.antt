-- Entries and answers that are numbers.
use Rattle.std.specs.Prelude.{Result, Ok, Err}
use Rattle.spec_script.specs.declared.value.Value.{Value}
use Rattle.spec_script.specs.declared.value.Value.TheVariants.{Int, Text}
use Rattle.base_texts.specs.declared.stop.Stop.{Stop}
use Rattle.base_texts.specs.declared.stop.Stop.TheVariants as stop

-- a value or a fault, and not want of memory
abbrev pub IsAnswered : {X F : Type 0} → Result X (Stop F) → Type 0
IsAnswered (Ok x) = Unit {0}
IsAnswered (Err (stop.Fault f)) = Unit {0}
IsAnswered (Err stop.NoMemory) = ⊥

-- a value that is a number
abbrev pub IsInt : Value → Type 0
IsInt (Int n) = Unit {0}
IsInt (Text t) = ⊥

-- a number or a fault, and not want of memory
abbrev pub GivesInt : {F : Type 0} → Result Value (Stop F) → Type 0
GivesInt (Ok value) = IsInt value
GivesInt (Err (stop.Fault f)) = Unit {0}
GivesInt (Err stop.NoMemory) = ⊥
