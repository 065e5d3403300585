-- The text of blocks.
use Rattle.std.specs.Prelude.{ℕ, List}
use Rattle.std.specs.List.{concat, flat_map}
use Rattle.spec_run.specs.declared.block.Block.{Block}
use Rattle.spec_output.specs.Lines.{LineNames, lines_of}

-- the lines of a block
abbrev pub block_text : LineNames → Block → List ℕ
block_text names block = concat (lines_of names block)

-- the lines of blocks, one after another
abbrev pub text_of : LineNames → List Block → List ℕ
text_of names blocks = flat_map (block_text names) blocks
