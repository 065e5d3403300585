use Rattle.std.proofs.Common.{◌≡◌, drop}
use Rattle.expect_watch.specs.States.{notes_taken, seen}
use Rattle.expect_watch.specs.Valid.{IsFit}
use Rattle.expect_watch.proofs.watching.Watching.take_notes.Given as goal

abbrev pub invariant-loop-note : goal.invariant-loop-note
invariant-loop-note l = record {
  taken : notes_taken l.at l.runner (drop l.note-index l.notes) (seen l.self) ≡ notes_taken l.at l.runner l.notes (seen l.initial.self);
  fit : IsFit (seen l.self);
}
