-- What a command finds and leaves, and how both belong to an output.
use Rattle.std.specs.Prelude.{ℕ, ◌≡◌, List, [], Option, Some, None, ◌≤◌, ◌⊎◌, option_map}
use Rattle.spec_program.specs.declared.exit.Exit.{Exit}
use Rattle.spec_run.specs.Drivers.{DriverState}
use Rattle.spec_run.specs.Run.{opening}
use Rattle.spec_run.specs.Served.{roster_after_run}
use Rattle.spec_outside.specs.Moments.{Moments}
use Rattle.spec_output.specs.Rounds.{AreBegun, CanBegin, moments_after}
use Rattle.spec_program.specs.Output.{AreUncalled, Asked, Begun, Calls, Never, NoCalls, OfPlan, OfRun, Output, Times, UpToFault}
use Rattle.spec_outside.specs.Appending.{Appended, AppendedPrefix}
use Rattle.spec_outside.specs.Counts.{Rose}
use Rattle.spec_outside.specs.Writes.{Writing, WroteLines, WroteSome}
use Rattle.spec_output.specs.Cuts.{HaveBegunWithin, IsCutOff}
use Rattle.spec_program.specs.declared.exit.Exit.TheVariants as exit

-- what a command finds and what it leaves: the bytes of the sink, where it tells them, with its count of failures; the
-- moments of the clock, where it tells them; and the drivers
pub record Side : Type 0 where
  pub written : Option (List ℕ)
  pub faults : ℕ
  pub clock : Option Moments
  pub drivers : List DriverState

abbrev pub side : Option (List ℕ) → ℕ → Option Moments → List DriverState → Side
side written faults clock drivers = record { written = written; faults = faults; clock = clock; drivers = drivers }

-- the drivers had all of these calls
abbrev pub DriversLeft : Calls → List DriverState → List DriverState → Type 0
DriversLeft NoCalls old new = AreUncalled old new
DriversLeft (OfRun tree world calls) old new = new ≡ roster_after_run tree world old calls
DriversLeft (OfPlan after) old new = new ≡ after

-- A write failed, and so the drivers had the first of these calls, and then calls alone that halt. A plan is made before its
-- first line is written: they had all of its calls.
abbrev pub DriversCutOff : Calls → Side → Side → Type 0
DriversCutOff NoCalls old new = AreUncalled old.drivers new.drivers
DriversCutOff (OfRun tree world calls) old new = IsCutOff tree world calls old.drivers new.drivers
DriversCutOff (OfPlan after) old new = new.drivers ≡ after

-- Memory ran out: so it was too; or nothing was written yet, and no call of a run was made, or no more was begun than by
-- the modelled runs of a plan.
abbrev pub DriversRanOut : Calls → Side → Side → Type 0
DriversRanOut NoCalls old new = AreUncalled old.drivers new.drivers
DriversRanOut (OfRun tree world calls) old new =
    IsCutOff tree world calls old.drivers new.drivers ⊎ ((new.written ≡ old.written) × AreUncalled old.drivers new.drivers)
DriversRanOut (OfPlan after) old new =
    (new.drivers ≡ after) ⊎ ((new.written ≡ old.written) × HaveBegunWithin old.drivers new.drivers after)

-- the clock was asked so often
abbrev pub ClockLeft : Asked → Option Moments → Option Moments → Type 0
ClockLeft Never old new = new ≡ old
ClockLeft (Times times) old new = new ≡ option_map (moments_after times) old
ClockLeft (UpToFault tree world moments) None new = Unit {0}
ClockLeft (UpToFault tree world moments) (Some old) new =
    (begun : ℕ) × AreBegun tree world 0 moments (opening tree world) begun × (new ≡ Some (moments_after begun old))

-- no driver was asked to start and to go on more often than by these calls
abbrev pub DriversWithin : Calls → List DriverState → List DriverState → Type 0
DriversWithin NoCalls old new = AreUncalled old new
DriversWithin (OfRun tree world calls) old new = HaveBegunWithin old new (roster_after_run tree world old calls)
DriversWithin (OfPlan after) old new = HaveBegunWithin old new after

-- the clock was asked no more often than in the run: once for each round, and for none after the one that faults
abbrev pub ClockWithin : Asked → Option Moments → Option Moments → Type 0
ClockWithin Never old new = new ≡ old
ClockWithin (Times times) old new = (asked : ℕ) × (asked ≤ times) × (new ≡ option_map (moments_after asked) old)
ClockWithin (UpToFault tree world moments) None new = Unit {0}
ClockWithin (UpToFault tree world moments) (Some old) new =
    (begun : ℕ) × CanBegin tree world 0 moments (opening tree world) begun × (new ≡ Some (moments_after begun old))

-- this is the exit of the output, whose bytes were written whole, and the drivers and the clock are as it leaves them
abbrev pub IsWhole : Output → Exit → Side → Side → Type 0
IsWhole o result old new =
    (o.exit ≡ result) × Appended old.written new.written o.bytes
    × DriversLeft o.calls old.drivers new.drivers × ClockLeft o.asked old.clock new.clock

-- a part of the output was given: a prefix of its bytes was written, this is so of the calls of the drivers, and the clock
-- was asked no more often than in its run
pub record IsPart (HadCalls : Calls → Side → Side → Type 0) (o : Output) (old new : Side) : Type 0 where
  pub written : AppendedPrefix old.written new.written o.bytes
  pub drivers : HadCalls o.calls old new
  pub clock : ClockWithin o.asked old.clock new.clock

-- the output was given: whole; or a part of it, with Write where the sink's count of failures rose, or with Memory
abbrev pub Gave : Output → Exit → Side → Side → Type 0
Gave o exit.Write old new = Rose old.faults new.faults × IsPart DriversCutOff o old new
Gave o exit.Memory old new = IsPart DriversRanOut o old new
Gave o other old new = IsWhole o other old new

-- memory ran out before an output was known: nothing was written, the clock was not asked, and no more was begun than this
pub record RanOut (HaveBegun : List DriverState → List DriverState → Type 0) (result : Exit) (old new : Side) : Type 0 where
  pub exit : result ≡ exit.Memory
  pub written : new.written ≡ old.written
  pub clock : new.clock ≡ old.clock
  pub drivers : HaveBegun old.drivers new.drivers

-- one of these outputs was given, or memory ran out before one was known
abbrev pub Answers : (Output → Type 0) → Begun → Exit → Side → Side → Type 0
Answers IsOutput HaveBegun result old new =
    ((o : Output) × IsOutput o × Gave o result old new) ⊎ RanOut HaveBegun result old new

-- a fact of the moments that a clock tells, where it does
abbrev pub IfTold : Option Moments → (Moments → Type 0) → Type 0
IfTold (Some told) P = P told
IfTold None P = Unit {0}

-- a fact of the moments that a clock tells, or of some where it tells none
pub record AtMoments (clock : Option Moments) (P : Moments → Type 0) : Type 0 where
  pub moments : Moments
  pub told : IfTold clock (λ told. moments ≡ told)
  pub holds : P moments

-- no moments at all
abbrev pub no_moments : Moments
no_moments = record { ahead = []; last = 0 }

-- whole lines were written by a command with this exit: no write has failed but the last one, and that only at Write and Memory
abbrev pub WritesAt : {Sink Fault : Type 0} → Writing Sink Fault → Exit → Sink → Sink → Type 0
WritesAt gives exit.Write old new = WroteSome gives old new
WritesAt gives exit.Memory old new = WroteSome gives old new
WritesAt gives _ old new = WroteLines gives old new
