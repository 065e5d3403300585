use Rattle.run_moves.proofs.Counted.{parallel_here}
use Rattle.run_moves.proofs.parallels.parallel_to.Goals as goal

pub returns-then-place-n-clause-next : goal.returns-then-place-n-clause-next
returns-then-place-n-clause-next c = rw c.visit.ensures (parallel_here c.args.n c.args.place c.args.counts c.if-place-n.true)

pub returns-else-place-n-clause-onward : goal.returns-else-place-n-clause-onward
returns-else-place-n-clause-onward c = λ memo. c.end.ensures.onward memo _
