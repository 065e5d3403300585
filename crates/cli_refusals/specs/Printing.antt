-- What is printed by a call that has the sink alone.
use Rattle.std.specs.Prelude.{ℕ, List, Option}
use Rattle.spec_program.specs.declared.exit.Exit.{Exit}
use Rattle.spec_run.specs.Drivers.{DriverState}
use Rattle.spec_outside.specs.Moments.{Moments}
use Rattle.spec_program.specs.Output.{AreUncalled, Output}
use Rattle.spec_program.specs.Answers.{side, Gave}
use Rattle.spec_program.specs.declared.exit.Exit.TheVariants as exit

-- the exits with which some output was written whole
abbrev pub IsSpoken : Exit → Type 0
IsSpoken exit.Write = ⊥
IsSpoken exit.Memory = ⊥
IsSpoken _ = Unit {0}

-- the output was given by a call that has the sink alone: no driver was called, and the clock was not asked
abbrev pub Printed : Output → Exit → Option (List ℕ) → ℕ → Option (List ℕ) → ℕ → Type 0
Printed o result written faults written_after faults_after =
    (clock : Option Moments) (old new : List DriverState) → AreUncalled old new
    → Gave o result (side written faults clock old) (side written_after faults_after clock new)
