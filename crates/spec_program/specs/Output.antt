-- What a command writes, how it ends, and what it leaves of the drivers.
use Rattle.std.specs.Prelude.{ℕ, ◌≡◌, List, ◌++◌, codes}
use Rattle.spec_program.specs.declared.exit.Exit.{Exit}
use Rattle.spec_tree.specs.declared.term.Tree.{Tree}
use Rattle.spec_world.specs.declared.world.World.{World}
use Rattle.spec_run.specs.Drivers.{DriverState, driver_at}
use Rattle.spec_run.specs.Run.{RunnerCall}
use Rattle.spec_outside.specs.Moments.{Moments}

-- how often the clock was asked: never, so many times, or once for each round at these moments up to the one that faults
pub data Asked : Type 0 where
  Never : Asked
  Times : (times : ℕ) → Asked
  UpToFault : (tree : Tree) (world : World) (moments : List ℕ) → Asked

-- the calls of drivers: none; those of the run of a tree in a world; or those of the modelled runs of a plan, which leave
-- these drivers
pub data Calls : Type 0 where
  NoCalls : Calls
  OfRun : (tree : Tree) (world : World) (calls : List RunnerCall) → Calls
  OfPlan : (after : List DriverState) → Calls

-- the bytes that are written, the exit, the calls of drivers, and how often the clock was asked
pub record Output : Type 0 where
  pub bytes : List ℕ
  pub exit : Exit
  pub calls : Calls
  pub asked : Asked

-- no driver was called
abbrev pub AreUncalled : List DriverState → List DriverState → Type 0
AreUncalled old new = (place : ℕ) → (driver_at new place).totals ≡ (driver_at old place).totals

-- what may have become of the drivers before an output is known
abbrev pub Begun : Type 1
Begun = List DriverState → List DriverState → Type 0

-- one line is written, and no tree was run
abbrev pub line_of : List ℕ → Exit → Output
line_of line exit = record { bytes = line; exit = exit; calls = NoCalls; asked = Never }

-- a refusal is one line
abbrev pub refused : List ℕ → Exit → Output
refused line exit = line_of (line ++ codes "\n") exit

-- what moments and drivers have for outputs
abbrev pub Ending : Type 1
Ending = Moments → List DriverState → Output → Type 0
