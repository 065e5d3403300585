use Rattle.std.proofs.Common.{length}
use Rattle.plan_search.proofs.Reaching.{ends_reach}
use Rattle.plan_search.proofs.laws.plans_reach.Goals as goal

pub returns : goal.returns
returns c = λ world limits planned trials last run. ends_reach world limits (length planned.steps) last planned.end run.tried run.ends
