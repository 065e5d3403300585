use Rattle.std.proofs.Common.{ap, length, ◌∙◌}
use Rattle.std.specs.List.{list_all}
use Rattle.world_ground.specs.Sound.{is_item}
use Rattle.world_ground.proofs.Soundness.{items_laid}
use Rattle.world_ground.proofs.read.closed.Goals as goal

pub lines_of-requires : goal.lines_of-requires
lines_of-requires c = ap (list_all is_item) c.items-2.ensures ∙ items_laid 0 c.args.reading.now.items (length c.args.reading.now.blocks) c.requires.laid
