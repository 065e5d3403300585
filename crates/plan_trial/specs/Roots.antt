-- Roots, and when they are told.
use Rattle.std.specs.Prelude.{◌≤◌, Bool, true, false, List, count_by}
use Rattle.spec_run.specs.declared.note.Note.{Note}
use Rattle.spec_run.specs.declared.note.Note.TheVariants as note

-- ---- What decides

-- whether a note tells the root's answer
abbrev pub is_root : Note → Bool
is_root (note.Root runner answer) = true
is_root _ = false

-- at most one of these notes tells the root's answer
abbrev pub TellRootOnce : List Note → Type 0
TellRootOnce notes = count_by is_root notes ≤ 1
