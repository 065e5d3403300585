use Rattle.run_moves.proofs.RobinVisits.{robin_hears}
use Rattle.run_moves.proofs.whole_visits.robin_over_a_visit.Goals as goal

pub returns : goal.returns
returns c = robin_hears
