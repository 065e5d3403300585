-- What contracts see of the code's items.
use Rattle.spec_world_file.specs.Blocks as blocks
use Rattle.world_ground.specs.declared.items.Item.{Item}
use Rattle.world_ground.specs.declared.items.Item.TheVariants.{Body, End, Forall}

-- an item of the code as the definition has it
abbrev pub seen_item : Item → blocks.Item
seen_item (Body line text) = blocks.Body (record { origin = line; text = text.now })
seen_item (Forall variable sort) = blocks.Forall variable sort
seen_item End = blocks.End
