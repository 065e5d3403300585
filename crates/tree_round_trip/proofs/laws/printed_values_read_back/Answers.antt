use Rattle.tree_round_trip.proofs.Values.{value_between, value_says}
use Rattle.tree_round_trip.proofs.laws.printed_values_read_back.Goals as goal

pub returns : goal.returns
returns c = record { stands = value_between; says = value_says }
