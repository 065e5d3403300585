use Rattle.plan_search.proofs.OneWay.{one_way}
use Rattle.plan_search.proofs.laws.plans_run_one_way.Goals as goal

pub returns : goal.returns
returns c = λ world limits before valid after other planned again p q. one_way world limits before after other planned again p q
