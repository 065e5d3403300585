-- An end that is reached.
use Rattle.std.specs.Prelude.{◌≡◌, ◌≤◌, ◌<◌, ℕ, true, false, None}
use Rattle.spec_tree.specs.declared.term.Tree.{Tree}
use Rattle.spec_world.specs.declared.world.World.{World}
use Rattle.run_loop.specs.Held.Prefixes.{after_events}
use Rattle.spec_plan.specs.Modelled.{ReachedAt, goals_hold, modelled, ticks}
use Rattle.spec_plan.specs.declared.ending.End.{End}
use Rattle.spec_plan.specs.declared.ending.End.TheVariants.{Reached}
use Rattle.spec_plan.specs.declared.ending.Limits.{Limits}

-- the limits are in their ranges
pub record AreInRange (limits : Limits) : Type 0 where
  pub expand : limits.expand ≤ 120
  pub some_tick : 1 ≤ limits.ticks
  pub ticks : limits.ticks ≤ 10000
  pub period : limits.period ≤ 1000000

-- where the goals were reached, the tree's own run shows it
abbrev pub IsReached : World → Limits → End → Type 0
IsReached world limits (Reached tree tick) = ReachedAt tree world limits.period tick
IsReached world limits end = Unit {0}

-- In the run of the engine over ticks, one each period, none of the first k faults; every goal is true in the state that
-- these leave, and not all are in the state that fewer of them leave.
pub record IsReachedInRun (tree : Tree) (world : World) (period k : ℕ) : Type 0 where
  pub first : 1 ≤ k
  pub unbroken : (after_events tree (modelled world) (ticks period k)).fault ≡ None
  pub reached : goals_hold world (after_events tree (modelled world) (ticks period k)).state.facts ≡ true
  pub not_before : (n : ℕ) → 1 ≤ n → n < k → goals_hold world (after_events tree (modelled world) (ticks period n)).state.facts ≡ false
