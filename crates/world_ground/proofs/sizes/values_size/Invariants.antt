use Rattle.std.proofs.Common.{◌≡◌, ◌+◌, ◌*◌, ◌≤◌, drop}
use Rattle.world_ground.specs.Sizes.{values_size}
use Rattle.world_ground.proofs.sizes.values_size.Given as goal

abbrev pub invariant-loop-i : goal.invariant-loop-i
invariant-loop-i l = record {
  counted : l.size + values_size l.mark (l.i + 1) (drop l.i l.values) ≡ values_size l.mark 1 l.values;
  small : l.size ≤ 64 * l.i;
}
