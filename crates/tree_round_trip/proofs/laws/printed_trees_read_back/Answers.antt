use Rattle.tree_round_trip.proofs.ReadBack.{alike_read_back, lone_read_back, read_back}
use Rattle.tree_round_trip.proofs.laws.printed_trees_read_back.Goals as goal

pub returns : goal.returns
returns c = record { alike = alike_read_back; lone = lone_read_back; read = read_back }
