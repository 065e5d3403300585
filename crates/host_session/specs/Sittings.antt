-- What a session keeps, by its fields.
use Rattle.std.specs.Prelude.{◌≡◌, ◌+◌, List, length, true}
use Rattle.std.specs.List.{All}
use Rattle.spec_tree.specs.declared.term.Tree.{Tree}
use Rattle.spec_world.specs.declared.world.Event.{Event}
use Rattle.spec_world.specs.declared.world.World.{World}
use Rattle.spec_world.specs.Runnable.{IsRunnableWorld}
use Rattle.base_tables.specs.Runnable.{IsRunnable}
use Rattle.base_tables.specs.SlotTables.{slot_table}
use Rattle.spec_tree.specs.Terms.{node_count}
use Rattle.run_arena.specs.declared.nodes.Node.{Node}
use Rattle.run_arena.specs.Blocks.{seen}
use Rattle.run_loop.specs.Runs.{AreRuns, arenas_of, state_of_runs}
use Rattle.run_loop.specs.Steps.{EventSide, HaveRoom, event_side}
use Rattle.spec_run.specs.Served.{Setup}
use Rattle.spec_session.specs.Labels.{labels}
use Rattle.spec_session.specs.Sessions.{Sitting}
use Rattle.host_session.specs.Five.{states_of}
use Rattle.host_session.specs.declared.session.Session.TheInside.{Inside}

-- what is kept of a tree in a world, with these runs, drivers and block
abbrev pub sitting : Tree → World → List Event → EventSide → Sitting
sitting tree world own side = record {
  tree = tree;
  world = world;
  own = own;
  state = state_of_runs tree.term side.drivers side.runs;
  block = seen side.block;
  usable = side.runs.usable;
}

-- the runs, the drivers and the block of a session
abbrev pub side_of : Inside → EventSide
side_of s = event_side (states_of s.five) s.runs s.block

abbrev pub sitting_of : Inside → Sitting
sitting_of s = sitting s.tree s.world s.own.items (side_of s)

-- what holds of every session: its tree and its world can be run, its slots and its labels are those of its tree,
-- each runner has the nodes of its tree beside place 0, its block has room for a quench, and as long as events are taken
-- its runs are those of its tree in its world
pub record IsReady (s : Inside) : Type 0 where
  pub tree : IsRunnable s.tree
  pub world : IsRunnableWorld s.world
  pub slots : s.slots ≡ slot_table s.tree
  pub labels : s.labels.items ≡ labels s.tree
  pub nodes : All (λ (nodes : List Node). length nodes ≡ 1 + node_count s.tree.term) (arenas_of s.runs)
  pub room : HaveRoom (arenas_of s.runs) s.block.notes
  pub runs : s.runs.usable ≡ true → AreRuns s.tree s.world (states_of s.five) s.runs

-- what is run in a session
abbrev pub setup_of : Sitting → Setup
setup_of s = record { tree = s.tree; world = s.world }
