use Rattle.tree_round_trip.proofs.Elements.{element_spelled}
use Rattle.tree_round_trip.proofs.laws.printed_elements_read_back.Goals as goal

pub returns : goal.returns
returns c = element_spelled
