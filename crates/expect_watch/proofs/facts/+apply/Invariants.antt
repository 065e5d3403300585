use Rattle.std.proofs.Common.{length}
use Rattle.expect_watch.proofs.facts.+apply.Given as goal

abbrev pub decreases-apply : goal.decreases-apply
decreases-apply l = length l.sets.now
