use Rattle.plan_search.proofs.Causes.{ends_alike}
use Rattle.plan_search.proofs.laws.causes_of_plans_have_no_names.Goals as goal

pub returns : goal.returns
returns c = λ world limits planned trials last names other valid run. ends_alike world valid limits planned trials last names other run
