use Rattle.std.proofs.Common.{◌++◌, ◌∙◌, List, ◌≤◌, length, ap, arith}
use Rattle.std.proofs.lemmas.List.{take_all}
use Rattle.spec_run.specs.declared.note.Note.{Note}
use Rattle.spec_output.specs.Counts.{counts_in}
use Rattle.text_trace.proofs.Notes.{next_note}
use Rattle.text_trace.proofs.counts.count_notes.Goals as goal

pub loop-note-preserved : goal.loop-note-preserved
loop-note-preserved c = λ earlier was.
    next_note c.loop-note.counts c.count_note.new.counts earlier c.args.notes.now c.loop-note.note-index _ (omega arith) (c.loop-note.invariant earlier was) c.count_note.ensures

pub returns : goal.returns
returns c = λ earlier was.
    let all : length c.args.notes.now ≤ c.loop-note.note-index = omega arith in
    c.loop-note.invariant earlier was ∙ ap (λ (ys : List Note). counts_in (earlier ++ ys)) (take_all c.loop-note.note-index c.args.notes.now all)
