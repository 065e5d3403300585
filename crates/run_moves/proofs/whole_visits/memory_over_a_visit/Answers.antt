use Rattle.run_moves.proofs.OrderedRows.{memory_hears}
use Rattle.run_moves.proofs.whole_visits.memory_over_a_visit.Goals as goal

pub returns : goal.returns
returns c = memory_hears
