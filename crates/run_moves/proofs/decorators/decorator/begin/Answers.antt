use Rattle.run_moves.proofs.decorators.decorator.begin.Goals as goal

pub returns-in-Timeout-clause-onward : goal.returns-in-Timeout-clause-onward
returns-in-Timeout-clause-onward c = rw c.in-Timeout.is (c.timeout_begun.ensures.onward c.args.memo.now)

pub returns-in-Delay-clause-onward : goal.returns-in-Delay-clause-onward
returns-in-Delay-clause-onward c = rw c.in-Delay.is (c.delay_begun.ensures.onward c.args.memo.now)

pub returns-in-RunOnce-clause-onward : goal.returns-in-RunOnce-clause-onward
returns-in-RunOnce-clause-onward c = rw c.in-RunOnce.is (c.run_once_begun.ensures.onward c.args.memo.now)

pub returns-in-RateController-clause-next : goal.returns-in-RateController-clause-next
returns-in-RateController-clause-next c = rw (c.in-RateController.is, ← c.pace_kept.ensures) c.rate_begun.ensures.next

pub returns-in-RateController-clause-onward : goal.returns-in-RateController-clause-onward
returns-in-RateController-clause-onward c = rw c.in-RateController.is (c.rate_begun.ensures.onward c.args.memo.now)
