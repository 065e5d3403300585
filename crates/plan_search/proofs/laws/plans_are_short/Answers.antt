use Rattle.plan_search.proofs.ShortPlans.{ends_short}
use Rattle.plan_search.proofs.laws.plans_are_short.Goals as goal

pub returns : goal.returns
returns c = λ world limits planned trials last valid range run. ends_short world valid limits planned trials last range run
