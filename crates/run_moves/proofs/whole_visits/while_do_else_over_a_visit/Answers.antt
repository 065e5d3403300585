use Rattle.run_moves.proofs.ChoiceVisits.{loop_hears}
use Rattle.run_moves.proofs.whole_visits.while_do_else_over_a_visit.Goals as goal

pub returns : goal.returns
returns c = loop_hears
