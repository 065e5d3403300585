use Rattle.run_moves.proofs.Visits.{no_other_visit, one_visit}
use Rattle.run_moves.proofs.whole_visits.each_visit_has_one_list.Goals as goal

pub returns : goal.returns
returns c = record { one = one_visit; no_other = no_other_visit; one_heard = one_visit; no_other_heard = no_other_visit }
