use Rattle.std.proofs.Common.{◌≡◌, drop, map}
use Rattle.world_ground.specs.Making.{nothing_made}
use Rattle.world_ground.specs.Seen.{seen_item}
use Rattle.world_ground.proofs.Flat.{made_items}
use Rattle.world_ground.proofs.make.lines_of.Given as goal

abbrev pub invariant-loop-item : goal.invariant-loop-item
invariant-loop-item l = made_items l.sorts l.making (map seen_item (drop l.item-index l.items)) ≡ made_items l.sorts nothing_made (map seen_item l.items)
