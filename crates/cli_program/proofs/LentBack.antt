-- What is said of what a command was lent, said of it when it has been given back.
use Rattle.std.proofs.Common.{◌≡◌, ℕ, List, Option, sym, subst}
use Rattle.spec_outside.specs.Counts.{Rose}
use Rattle.spec_outside.specs.Moments.{Moments}
use Rattle.spec_program.specs.Answered.{WordsAnswered}
use Rattle.spec_program.specs.Answers.{Side, side}
use Rattle.spec_program.specs.Reads.{Reading}
use Rattle.spec_program.specs.Words.{Command}
use Rattle.spec_program.specs.declared.exit.Exit.{Exit}
use Rattle.spec_run.specs.Drivers.{DriverState}
use Rattle.spec_run.specs.Rosters.{IsSameRoster}

-- what is seen of a sink, a clock and drivers is what was seen of them
pub side_as : {written written1 : Option (List ℕ)} {faults faults1 : ℕ} {clock clock1 : Option Moments} {drivers drivers1 : List DriverState} →
    written ≡ written1 → faults ≡ faults1 → clock ≡ clock1 → drivers ≡ drivers1 → side written faults clock drivers ≡ side written1 faults1 clock1 drivers1
side_as wrote failed asked called = λ i. side (wrote i) (failed i) (asked i) (called i)

-- the words were answered, over the shelf that is given back
pub answered_as : {Shelf : Type 0} (read_gives : Reading Shelf) (holds : Option (List ℕ → List ℕ)) (command : Option Command) (faults : Shelf → ℕ) (old : Shelf) (result : Exit) (found : Side)
    {last given : Shelf} {left seen : Side} → given ≡ last → seen ≡ left →
    WordsAnswered read_gives holds command (Rose (faults old) (faults last)) old last result found left →
    WordsAnswered read_gives holds command (Rose (faults old) (faults given)) old given result found seen
answered_as {Shelf} read_gives holds command faults old result found {last} {given} {left} {seen} back same answered =
    subst (λ (s : Side). WordsAnswered read_gives holds command (Rose (faults old) (faults given)) old given result found s) (sym same)
    (subst (λ (s : Shelf). WordsAnswered read_gives holds command (Rose (faults old) (faults s)) old s result found left) (sym back) answered)

-- the drivers that are given back are the same roster
pub roster_as : (old : List DriverState) {last given : List DriverState} → given ≡ last → IsSameRoster old last → IsSameRoster old given
roster_as old back same = subst (λ (drivers : List DriverState). IsSameRoster old drivers) (sym back) same
