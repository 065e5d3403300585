use Rattle.run_moves.proofs.ParallelVisits.{parallel_row}
use Rattle.run_moves.proofs.whole_visits.parallel_over_a_visit.Goals as goal

pub returns : goal.returns
returns c = λ n now picked counts heard unskipped visit. parallel_row n counts unskipped now picked heard visit
