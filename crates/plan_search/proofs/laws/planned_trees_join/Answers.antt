use Rattle.plan_search.proofs.LeavesJoin.{ends_join}
use Rattle.plan_search.proofs.laws.planned_trees_join.Goals as goal

pub returns : goal.returns
returns c = λ world limits planned trials last drivers valid served run. ends_join world valid limits drivers served planned trials last run
