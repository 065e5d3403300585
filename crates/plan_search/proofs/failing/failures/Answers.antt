use Rattle.std.proofs.Common.{◌∙◌, arith}
use Rattle.plan_search.proofs.Marks.{failed_on}
use Rattle.plan_search.proofs.failing.failures.Goals as goal

pub loop-note-preserved : goal.loop-note-preserved
loop-note-preserved c = record {
  many = c.mark_failure.ensures.many ∙ c.loop-note.invariant.many;
  marks = λ uid low.
      let many = c.loop-note.invariant.many in
      failed_on c.args.notes.now c.loop-note.note-index _ uid c.loop-note-test.true _ _ (c.mark_failure.ensures.marks uid (omega (arith, low, many))) (c.loop-note.invariant.marks uid low);
}
