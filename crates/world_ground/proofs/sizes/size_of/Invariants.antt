use Rattle.std.proofs.Common.{◌≡◌, ◌+◌, ◌*◌, ◌^◌, ◌≤◌, drop, length, map}
use Rattle.world_ground.specs.Seen.{seen_item}
use Rattle.world_ground.specs.Sizes.{nothing_sized}
use Rattle.world_ground.specs.Sound.{Laid}
use Rattle.world_ground.proofs.Totals.{sized_items}
use Rattle.world_ground.proofs.sizes.size_of.Given as goal

abbrev pub invariant-loop-item : goal.invariant-loop-item
invariant-loop-item l = record {
  sized : sized_items l.sorts l.sizing (map seen_item (drop l.item-index l.items)) ≡ sized_items l.sorts nothing_sized (map seen_item l.items);
  laid : Laid (length l.sizing.around) (map seen_item (drop l.item-index l.items)) 0;
  small : l.sizing.size ≤ 11 + 2 ^ 39 * l.item-index;
}
