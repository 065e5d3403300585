use Rattle.tree_round_trip.proofs.Writable.{tree_spelled}
use Rattle.tree_round_trip.proofs.laws.printed_trees_spell_their_elements.Goals as goal

pub returns : goal.returns
returns c = tree_spelled
