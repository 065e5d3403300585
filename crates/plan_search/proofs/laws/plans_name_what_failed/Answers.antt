use Rattle.plan_search.proofs.Named.{ends_name}
use Rattle.plan_search.proofs.laws.plans_name_what_failed.Goals as goal

pub returns : goal.returns
returns c = λ world limits planned trials last valid run. ends_name world valid limits planned trials last run
