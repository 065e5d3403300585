use Rattle.std.proofs.Common.{length}
use Rattle.world_ground.proofs.sizes.+mark_size.Given as goal

abbrev pub decreases-mark_size : goal.decreases-mark_size
decreases-mark_size l = length l.around.now
