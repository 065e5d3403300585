-- The output of a ground file, and of a plan for the world script that it stands for.
use Rattle.std.specs.Prelude.{ℕ, ◌≡◌, List, length, Result, Ok, Err, ◌≤◌, ◌⊎◌}
use Rattle.spec_program.specs.declared.file.File.TheVariants as file
use Rattle.spec_world_file.specs.declared.ground_fault.GroundFault.{GroundFault}
use Rattle.spec_world.specs.declared.world.World.{World}
use Rattle.spec_run.specs.Drivers.{DriverState}
use Rattle.spec_tree.specs.Limits.{most_file_bytes}
use Rattle.spec_program.specs.PlanOutputs.{WorldBegun, WorldPlans}
use Rattle.spec_program.specs.Output.{AreUncalled, Begun, Output}
use Rattle.spec_program.specs.Gives.{Beginning, Giving, OrTooLong}
use Rattle.spec_program.specs.RefusalOutputs.{too_long, ground_refused}
use Rattle.spec_plan.specs.declared.ending.Limits.{Limits}
use Rattle.spec_world_file.specs.GroundFile.{Grounded, MakesWorld, reads_ground}
use Rattle.spec_program.specs.Printed.{ground_output}

-- what a ground file gives, over its bytes
abbrev pub GroundGives : List ℕ → Output → Type 0
GroundGives bytes output = OrTooLong bytes (too_long file.World) output (output ≡ ground_output (reads_ground bytes))

abbrev pub Grounds : Giving
Grounds = λ files moments drivers. GroundGives files.world

-- a plan for the world that the text describes
abbrev pub SaidPlans : Result World GroundFault → Limits → List DriverState → Output → Type 0
SaidPlans (Ok world) limits drivers output = WorldPlans world limits drivers output
SaidPlans (Err fault) limits drivers output = output ≡ ground_refused fault

abbrev pub GroundedPlans : Result Grounded GroundFault → Limits → List DriverState → Output → Type 0
GroundedPlans (Ok g) limits drivers output = (said : Result World GroundFault) × MakesWorld g said × SaidPlans said limits drivers output
GroundedPlans (Err fault) limits drivers output = output ≡ ground_refused fault

-- .. over the bytes of the file
abbrev pub GroundPlanGives : Limits → List ℕ → List DriverState → Output → Type 0
GroundPlanGives limits bytes drivers output = OrTooLong bytes (too_long file.World) output (GroundedPlans (reads_ground bytes) limits drivers output)

abbrev pub GroundPlans : Limits → Giving
GroundPlans limits = λ files moments. GroundPlanGives limits files.world

-- ---- A plan that was cut off

-- planning had begun for the world that the text of a file describes
pub record GroundBegun (limits : Limits) (file : List ℕ) (old new : List DriverState) : Type 0 where
  pub short : length file ≤ most_file_bytes
  pub text : Grounded
  pub grounded : reads_ground file ≡ Ok text
  pub world : World
  pub described : MakesWorld text (Ok world)
  pub begun : WorldBegun world limits old new

-- no driver was called, or planning had begun
abbrev pub GroundPlanBegins : Limits → List ℕ → Begun
GroundPlanBegins limits file = λ old new. AreUncalled old new ⊎ GroundBegun limits file old new

abbrev pub GroundBegins : Limits → Beginning
GroundBegins limits = λ files. GroundPlanBegins limits files.world
