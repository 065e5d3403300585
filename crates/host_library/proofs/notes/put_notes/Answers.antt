use Rattle.std.proofs.Common.{List, set, ap, ◌∙◌, arith}
use Rattle.host_library.proofs.Putting.{put_more}
use Rattle.host_library.specs.declared.notes.NoteTold.{NoteTold}
use Rattle.host_library.specs.Notes.{notes_in}
use Rattle.host_library.proofs.notes.put_notes.Goals as goal

pub loop-place-preserved : goal.loop-place-preserved
loop-place-preserved c =
    let notes = c.args.notes.now in
    let room = c.args.room.now in
    let place = c.loop-place.place in
    ap (λ (held : List NoteTold). set held place c.note_told.result) c.loop-place.invariant
    ∙ ap (λ (told : NoteTold). set (notes_in place notes room) place told) c.note_told.ensures
    ∙ put_more notes room place _ (omega (arith, c.loop-place-test.true, c.min-count.ensures)) (omega (arith, c.loop-place-test.true, c.min-count.ensures))
