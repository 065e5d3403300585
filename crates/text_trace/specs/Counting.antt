-- What is counted, note by note.
use Rattle.spec_run.specs.declared.note.Note.{Note}
use Rattle.spec_run.specs.declared.note.Note.TheVariants.{Started, Ran, Halted, Root}
use Rattle.spec_run.specs.declared.status.Answer.TheVariants.{Success}
use Rattle.base_outside.specs.Counts.{next}
use Rattle.spec_output.specs.declared.counts.Counts.{Counts}

-- ---- On the way

-- the counts with one more note
abbrev pub with_note : Note → Counts → Counts
with_note (Started uid answer) c = record c { starts = next c.starts }
with_note (Ran uid answer) c = record c { runnings = next c.runnings }
with_note (Halted uid) c = record c { haltings = next c.haltings }
with_note (Root runner Success) c = record c { successes = next c.successes }
with_note _ c = c
