-- A plan that is printed by a call that has the sink alone.
use Rattle.std.specs.Prelude.{ℕ, List, Option}
use Rattle.spec_program.specs.declared.exit.Exit.{Exit}
use Rattle.spec_run.specs.Drivers.{DriverState}
use Rattle.spec_outside.specs.Moments.{Moments}
use Rattle.spec_plan.specs.declared.ending.PlanEnd.{PlanEnd}
use Rattle.spec_program.specs.Answers.{side, Gave}
use Rattle.spec_program.specs.PlanOutputs.{plan_output}

-- the output of a plan was given so, whatever its modelled runs leave of the drivers
abbrev pub PlanPrinted : PlanEnd → Exit → Option (List ℕ) → ℕ → Option (List ℕ) → ℕ → Type 0
PlanPrinted planned result written faults written_after faults_after =
    (clock : Option Moments) (old after : List DriverState)
    → Gave (plan_output planned after) result (side written faults clock old) (side written_after faults_after clock after)
