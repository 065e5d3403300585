use Rattle.run_moves.proofs.decorators.decorator.answered.Goals as goal

pub returns-in-KeepRunningUntilFailure-clause-onward : goal.returns-in-KeepRunningUntilFailure-clause-onward
returns-in-KeepRunningUntilFailure-clause-onward c = rw c.in-KeepRunningUntilFailure.is (c.keep_running.ensures.onward c.args.memo.now _)

pub returns-in-RunOnce-clause-onward : goal.returns-in-RunOnce-clause-onward
returns-in-RunOnce-clause-onward c = rw c.in-RunOnce.is (c.run_once_answered.ensures.onward c.args.memo.now _)

pub returns-in-RateController-clause-onward : goal.returns-in-RateController-clause-onward
returns-in-RateController-clause-onward c = rw c.in-RateController.is (c.rate_answered.ensures.onward c.args.memo.now _)
