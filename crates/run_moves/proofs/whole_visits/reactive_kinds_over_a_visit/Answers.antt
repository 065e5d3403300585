use Rattle.run_moves.proofs.OrderedRows.{reactive_fallback_hears, reactive_sequence_hears}
use Rattle.run_moves.proofs.whole_visits.reactive_kinds_over_a_visit.Goals as goal

pub returns : goal.returns
returns c = record { sequence = reactive_sequence_hears; fallback = reactive_fallback_hears }
