-- Notes with a reserve, and the calls that notes name.
use Rattle.std.specs.Prelude.{ℕ, List, Bool, true, false, count_by}
use Rattle.spec_run.specs.declared.note.Note.{Note}
use Rattle.spec_run.specs.declared.note.Note.TheVariants.{Started, Ran, Halted}

-- some notes, how many more can be added without new memory, and how many can after a clear
pub record Noted : Type 0 where
  pub list : List Note
  pub reserve : ℕ
  pub full : ℕ

-- the note of a call of a leaf's driver
abbrev pub is_of_call : Note → Bool
is_of_call (Started uid answer) = true
is_of_call (Ran uid answer) = true
is_of_call (Halted uid) = true
is_of_call _ = false

-- how many calls these notes name
abbrev pub calls_named : List Note → ℕ
calls_named notes = count_by is_of_call notes
