-- The output of a plan over the bytes of its file.
use Rattle.std.specs.Prelude.{ℕ, ◌≡◌, List, length, Result, Ok, Err, ◌≤◌, ◌⊎◌}
use Rattle.spec_program.specs.declared.file.File.TheVariants as file
use Rattle.spec_world.specs.declared.world.World.{World}
use Rattle.spec_world_file.specs.declared.world_fault.WorldFault.{WorldFault}
use Rattle.spec_run.specs.Drivers.{DriverState}
use Rattle.spec_tree.specs.Limits.{most_file_bytes}
use Rattle.spec_world_file.specs.WorldFile.{ReadsWorld}
use Rattle.spec_program.specs.PlanOutputs.{WorldBegun, WorldPlans}
use Rattle.spec_program.specs.Output.{AreUncalled, Begun, Output}
use Rattle.spec_program.specs.Gives.{Beginning, Giving, OrTooLong}
use Rattle.spec_program.specs.RefusalOutputs.{too_long, world_refused}
use Rattle.spec_plan.specs.declared.ending.Limits.{Limits}

-- ---- A plan

-- the output of what a world file reads as
abbrev pub ReadPlans : Result World WorldFault → Limits → List DriverState → Output → Type 0
ReadPlans (Ok world) limits drivers output = WorldPlans world limits drivers output
ReadPlans (Err fault) limits drivers output = output ≡ world_refused fault

-- the output of a plan over the bytes of its file
abbrev pub PlanGives : Limits → List ℕ → List DriverState → Output → Type 0
PlanGives limits world drivers output =
    OrTooLong world (too_long file.World) output
    ((described : Result World WorldFault) × ReadsWorld world described × ReadPlans described limits drivers output)

abbrev pub Plans : Limits → Giving
Plans limits = λ files moments. PlanGives limits files.world

-- ---- A plan that was cut off

-- planning had begun for the world that a file describes
pub record FileBegun (limits : Limits) (file : List ℕ) (old new : List DriverState) : Type 0 where
  pub short : length file ≤ most_file_bytes
  pub world : World
  pub described : ReadsWorld file (Ok world)
  pub begun : WorldBegun world limits old new

-- no driver was called, or planning had begun
abbrev pub PlanBegins : Limits → List ℕ → Begun
PlanBegins limits file = λ old new. AreUncalled old new ⊎ FileBegun limits file old new

abbrev pub Begins : Limits → Beginning
Begins limits = λ files. PlanBegins limits files.world
