-- What a block of an event shows.
use Rattle.spec_run.specs.declared.block.Block.{Block as Shown}
use Rattle.run_arena.specs.declared.block.Block.{Block}

-- a block, without its room for notes
abbrev pub seen : Block → Shown
seen block = record { header = block.header; notes = block.notes.list; facts = block.facts.items; entries = block.entries.items }
