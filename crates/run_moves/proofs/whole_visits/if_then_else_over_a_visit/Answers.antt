use Rattle.run_moves.proofs.ChoiceVisits.{branch_hears, condition_hears}
use Rattle.run_moves.proofs.whole_visits.if_then_else_over_a_visit.Goals as goal

pub returns : goal.returns
returns c = record { branch = branch_hears; condition = condition_hears }
