use Rattle.plan_search.proofs.StepNames.{named_plainly}
use Rattle.plan_search.proofs.laws.steps_are_named_plainly.Goals as goal

pub returns : goal.returns
returns c = λ world limits planned trials last valid run. named_plainly world valid limits planned trials last run
