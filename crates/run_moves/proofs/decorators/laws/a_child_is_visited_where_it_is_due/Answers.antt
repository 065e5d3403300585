use Rattle.run_moves.proofs.RateVisits.{due_hears, early_hears}
use Rattle.run_moves.proofs.decorators.laws.a_child_is_visited_where_it_is_due.Goals as goal

pub returns : goal.returns
returns c = record { due = due_hears; early = early_hears }
