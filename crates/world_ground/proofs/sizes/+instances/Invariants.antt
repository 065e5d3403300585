use Rattle.std.proofs.Common.{length}
use Rattle.world_ground.proofs.sizes.+instances.Given as goal

abbrev pub decreases-instances : goal.decreases-instances
decreases-instances l = length l.around.now
