use Rattle.tree_round_trip.proofs.Remarks.{alike_after, lone_after}
use Rattle.tree_round_trip.proofs.laws.printed_trees_read_back_after_comments.Goals as goal

pub returns : goal.returns
returns c = record { alike = alike_after; lone = lone_after }
