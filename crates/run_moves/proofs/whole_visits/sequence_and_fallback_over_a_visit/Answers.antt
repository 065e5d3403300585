use Rattle.run_moves.proofs.OrderedRows.{fallback_hears, sequence_hears}
use Rattle.run_moves.proofs.whole_visits.sequence_and_fallback_over_a_visit.Goals as goal

pub returns : goal.returns
returns c = record { sequence = sequence_hears; fallback = fallback_hears }
