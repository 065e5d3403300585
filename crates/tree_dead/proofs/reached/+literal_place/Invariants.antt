use Rattle.std.proofs.Common.{length}
use Rattle.tree_dead.proofs.reached.+literal_place.Given as goal

abbrev pub decreases-literal_place : goal.decreases-literal_place
decreases-literal_place l = length l.cases.now
