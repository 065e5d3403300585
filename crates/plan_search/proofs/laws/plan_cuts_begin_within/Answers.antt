use Rattle.plan_search.proofs.Beginnings.{cut_begins_within}
use Rattle.plan_search.proofs.laws.plan_cuts_begin_within.Goals as goal

pub returns : goal.returns
returns c = λ world limits before now after planned valid cut whole. cut_begins_within world limits before now after planned cut whole
