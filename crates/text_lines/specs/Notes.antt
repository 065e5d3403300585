-- Which notes have long lines.
use Rattle.std.specs.Prelude.{Bool, true, false}
use Rattle.spec_run.specs.declared.note.Note.{Note}
use Rattle.spec_run.specs.declared.note.Note.TheVariants as note

-- the lines of faults have names in them, and those of quenches two numbers
abbrev pub is_long : Note → Bool
is_long (note.Faulted _ _ _) = true
is_long (note.Quenched _ _) = true
is_long _ = false
