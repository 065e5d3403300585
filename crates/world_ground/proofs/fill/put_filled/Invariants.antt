use Rattle.std.proofs.Common.{length, ◌≡◌, ◌++◌}
use Rattle.spec_world_file.specs.Blocks.{filled}
use Rattle.world_ground.proofs.fill.put_filled.Given as goal

abbrev pub invariant-bytes : goal.invariant-bytes
invariant-bytes l = l.out.items ++ filled l.variable l.value l.place l.rest ≡ l.initial.out.items ++ filled l.variable l.value l.place l.text

abbrev pub decreases-bytes : goal.decreases-bytes
decreases-bytes l = length l.rest
