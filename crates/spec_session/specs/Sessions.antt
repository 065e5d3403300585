-- Sessions: what a host and its session have of a run.
use Rattle.std.specs.Prelude.{Bool, List}
use Rattle.spec_run.specs.declared.block.Block.{Block}
use Rattle.spec_run.specs.Run.{RunState}
use Rattle.spec_tree.specs.declared.term.Tree.{Tree}
use Rattle.spec_world.specs.declared.world.Event.{Event}
use Rattle.spec_world.specs.declared.world.World.{World}

-- what a session keeps: a tree in a world, without the world's own events; the own events that were not made yet; the
-- state of the run; the block of the last event; and whether an event is taken, as one is until one ends in a fault or
-- for want of memory
pub record Sitting : Type 0 where
  pub tree : Tree
  pub world : World
  pub own : List Event
  pub state : RunState
  pub block : Block
  pub usable : Bool
