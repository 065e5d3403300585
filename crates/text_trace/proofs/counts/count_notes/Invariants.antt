use Rattle.std.proofs.Common.{◌≡◌, ◌++◌, List, take}
use Rattle.spec_run.specs.declared.note.Note.{Note}
use Rattle.spec_output.specs.Counts.{counts_in}
use Rattle.text_trace.proofs.counts.count_notes.Given as goal

-- the notes before this one are counted
abbrev pub invariant-loop-note : goal.invariant-loop-note
invariant-loop-note l = (earlier : List Note) → l.initial.counts ≡ counts_in earlier → l.counts ≡ counts_in (earlier ++ take l.note-index l.notes)
