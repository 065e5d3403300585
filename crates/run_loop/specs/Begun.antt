-- Runs before their first event, with drivers that were prepared for them.
use Rattle.std.specs.Prelude.{◌≡◌, ℕ, List, take}
use Rattle.spec_tree.specs.declared.term.Tree.{Tree}
use Rattle.spec_world.specs.declared.world.World.{World}
use Rattle.spec_run.specs.Drivers.{DriverState, driver_at, roster_prepared}
use Rattle.spec_run.specs.Run.{RunnerCall, opening}
use Rattle.run_loop.specs.declared.runs.Runs.{Runs}
use Rattle.run_loop.specs.Runs.{AreRuns, arenas_of, roster_over, state_of_runs}
use Rattle.spec_run.specs.Served.{instances_wanted}
use Rattle.spec_run.specs.Served.{calls_made, serving_places}

-- The runs of a tree in a world, before their first event: each driver has new instances, one for each leaf of each
-- runner that it serves, and the calls of their leaves are those that the tree and the world give.
pub record AreBegun (tree : Tree) (world : World) (before after : List DriverState) (made : Runs) : Type 0 where
  pub runs : AreRuns tree world after made
  pub opening : state_of_runs tree.term after made ≡ opening tree world
  pub prepared : after ≡ roster_prepared before (instances_wanted tree world before)
  pub calls : (calls : List RunnerCall) (now : List DriverState) →
      roster_over (arenas_of made) calls now ≡ calls_made world.runners (serving_places tree world before) calls now

-- so many of the drivers were prepared, and the others are as before
pub record ArePartlyPrepared (tree : Tree) (world : World) (before after : List DriverState) : Type 0 where
  pub done : ℕ
  pub prepared : after ≡ roster_prepared before (take done (instances_wanted tree world before))

-- no call was counted
abbrev pub HaveSameTotals : List DriverState → List DriverState → Type 0
HaveSameTotals before after = (place : ℕ) → (driver_at after place).totals ≡ (driver_at before place).totals
