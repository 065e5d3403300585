-- The world of a modelled run, and its task.
use Rattle.std.proofs.Common.{arith}
use Rattle.base_tables.proofs.Runnable.{runnable_world}
use Rattle.spec_world.specs.declared.world.World.{World}
use Rattle.spec_world.specs.Runnable.{IsRunnableWorld}
use Rattle.spec_world.specs.Worlds.{IsValidWorld}
use Rattle.spec_plan.specs.Modelled.{modelled}

-- .. can be run where the world of the plan is valid
pub modelled_runs : (world : World) → IsValidWorld world → IsRunnableWorld (modelled world)
modelled_runs world valid = let can = runnable_world world valid in record {
  facts = can.facts;
  openings = can.openings;
  ids = can.ids;
  rows = can.rows;
  goals = can.goals;
  wanted = can.wanted;
  some_runner = omega arith;
  few_runners = omega arith;
  few_events = omega arith;
  events = λ i d within. absurd (omega (arith, within));
  in_order = λ i j d low within. absurd (omega (arith, within));
}
