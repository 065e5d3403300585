use Rattle.std.proofs.Common.{length, ◌≡◌, ◌+◌}
use Rattle.world_ground.specs.Sizes.{instances, line_size, mark_size, scan}
use Rattle.world_ground.proofs.sizes.line_size.Given as goal

abbrev pub invariant-bytes : goal.invariant-bytes
invariant-bytes l = l.size + scan (instances l.sorts l.around) (mark_size l.sorts l.around) l.rest ≡ line_size l.sorts l.around l.text

abbrev pub decreases-bytes : goal.decreases-bytes
decreases-bytes l = length l.rest
