-- How one step of reading follows another.
use Rattle.std.specs.Prelude.{Result, Ok, Err}

-- what is read next from what was read, or the first fault
abbrev pub go_on : {A B F : Type 0} → (A → Result B F) → Result A F → Result B F
go_on next (Ok x) = next x
go_on next (Err fault) = Err fault
