-- What a run that was cut off leaves of the drivers.
use Rattle.std.specs.Prelude.{◌≡◌, ◌≤◌, ◌<◌, ◌^◌, ◌++◌, ℕ, List}
use Rattle.std.specs.List.{AllByRecursion}
use Rattle.spec_run.specs.declared.leaf.Phase.TheVariants as phase
use Rattle.spec_run.specs.declared.leaf.Totals.{Totals}
use Rattle.spec_run.specs.Drivers.{DriverState, driver_at}
use Rattle.spec_run.specs.Run.{RunnerCall}
use Rattle.spec_run.specs.Served.{roster_after_run}
use Rattle.spec_tree.specs.declared.term.Tree.{Tree}
use Rattle.spec_world.specs.declared.world.World.{World}

-- ---- Calls

-- calls that halt what is held
abbrev pub AreHalts : List RunnerCall → Type 0
AreHalts calls = AllByRecursion (λ (c : RunnerCall). c.call.phase ≡ phase.Halted) calls

-- the drivers were prepared for the run of a tree in a world, had the first of its calls, which are these, and then calls
-- alone that halt
pub record IsCutOff (tree : Tree) (world : World) (calls : List RunnerCall) (old new : List DriverState) : Type 0 where
  pub made : List RunnerCall
  pub unmade : List RunnerCall
  pub halts : List RunnerCall
  pub all : made ++ unmade ≡ calls
  pub are : AreHalts halts
  pub drivers : new ≡ roster_after_run tree world old (made ++ halts)

-- ---- Counts

-- a count of 64 bits has come no further than another one
abbrev pub IsWithin : ℕ → ℕ → ℕ → Type 0
IsWithin old now whole = old < 2 ^ 64 → now ≤ whole

-- a driver was asked to start and to go on no more often than another one
pub record HasBegunWithin (old now whole : Totals) : Type 0 where
  pub starts : IsWithin old.starts now.starts whole.starts
  pub runnings : IsWithin old.runnings now.runnings whole.runnings

-- .. so each of these drivers
abbrev pub HaveBegunWithin : List DriverState → List DriverState → List DriverState → Type 0
HaveBegunWithin old now whole = (place : ℕ) → HasBegunWithin (driver_at old place).totals (driver_at now place).totals (driver_at whole place).totals
