-- What holds of an arena that was made for a runner.
use Rattle.std.specs.Prelude.{◌≡◌, ℕ, ◌+◌, ◌<◌, max, List, [], length, replicate}
use Rattle.std.specs.Vec.{vec_capacity}
use Rattle.spec_tree.specs.declared.term.Tree.{Tree}
use Rattle.spec_world.specs.declared.world.World.{World}
use Rattle.spec_run.specs.Drivers.{DriverState}
use Rattle.spec_run.specs.Run.{root_view}
use Rattle.spec_tree.specs.Terms.{depth_of, leaf_ids, node_count}
use Rattle.run_arena.specs.declared.arena.Arena.{Arena}
use Rattle.spec_run.specs.Joins.{leaves_served}
use Rattle.run_arena.specs.Nodes.{at_rest, node_at, nobody}
use Rattle.run_arena.specs.Rosters.{AreNumbered, served}
use Rattle.run_arena.specs.Stands.{Stands}

-- The tree stands there in the view of its root, with nobody at place 0 and nothing else; all is at rest; its leaves have
-- their drivers and their instances; each driver serves as many of them as the tree has leaves for it; no visit is under
-- way; and there is room for the visits that can be, one below the other, and for 32 at least.
pub record IsArenaOf (tree : Tree) (world : World) (drivers : List DriverState) (number : ℕ) (arena : Arena) : Type 0 where
  pub runner : arena.runner ≡ number
  pub stands : Stands tree.term arena.nodes.items (root_view tree world) 1
  pub nobody : node_at arena.nodes.items 0 ≡ nobody
  pub size : length arena.nodes.items ≡ 1 + node_count tree.term
  pub kept : arena.kept.items ≡ replicate (1 + node_count tree.term) at_rest
  pub numbered : AreNumbered drivers number arena.nodes.items
  pub serves : (place : ℕ) → place < length drivers → served place arena.nodes.items ≡ leaves_served world.rows drivers place (leaf_ids tree.term)
  pub no_visits : arena.frames.items ≡ []
  pub room : vec_capacity arena.frames ≡ max 32 (depth_of tree.term)
