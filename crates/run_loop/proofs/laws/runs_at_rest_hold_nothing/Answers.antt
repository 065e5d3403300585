use Rattle.run_loop.proofs.Resting.{resting_hold_nothing}
use Rattle.run_loop.proofs.laws.runs_at_rest_hold_nothing.Goals as goal

pub returns : goal.returns
returns c = resting_hold_nothing
