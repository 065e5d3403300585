-- How the text of a block is made: from the inside, once its end is there.
use Rattle.std.specs.Prelude.{ℕ, List, [], ◌∷◌}
use Rattle.spec_world_file.specs.Blocks.{Body, End, Forall, Item, values_at}
use Rattle.world_ground.specs.Flat.{FlatLines, flat_each, flat_lines, with_flat_line}
use Rattle.world_ground.specs.declared.make.Block.{Block}
use Rattle.spec_world_file.specs.declared.sort.Sort.{Sort}

-- the lines of the innermost block so far, and the blocks that are not at their ends, the innermost first
pub record Making : Type 0 where
  pub lines : FlatLines
  pub blocks : List Block

abbrev pub nothing_made : Making
nothing_made = record { lines = flat_lines []; blocks = [] }

-- the innermost of these blocks ends, where one is open
abbrev pub made_block : List Sort → FlatLines → List Block → Making
made_block sorts lines [] = record { lines = lines; blocks = [] }
made_block sorts lines (block ∷ blocks) =
    record { lines = flat_each block.variable 1 (values_at sorts block.sort) lines block.before; blocks = blocks }

-- a block begins
abbrev pub begun : (variable sort : ℕ) → Making → Making
begun variable sort m = record { lines = flat_lines []; blocks = record { before = m.lines; variable = variable; sort = sort } ∷ m.blocks }

-- after one more item
abbrev pub made_item : List Sort → Making → Item → Making
made_item sorts m (Body line) = record m { lines = with_flat_line line m.lines }
made_item sorts m (Forall variable sort) = begun variable sort m
made_item sorts m End = made_block sorts m.lines m.blocks
