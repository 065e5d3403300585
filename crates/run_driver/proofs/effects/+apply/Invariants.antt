use Rattle.std.proofs.Common.{length}
use Rattle.run_driver.proofs.effects.+apply.Given as goal

-- there are fewer effects in each call
abbrev pub decreases-apply : goal.decreases-apply
decreases-apply l = length l.sets.now
