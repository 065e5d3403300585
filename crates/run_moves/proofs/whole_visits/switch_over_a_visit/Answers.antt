use Rattle.run_moves.proofs.ChoiceVisits.{switch_hears}
use Rattle.run_moves.proofs.whole_visits.switch_over_a_visit.Goals as goal

pub returns : goal.returns
returns c = switch_hears
