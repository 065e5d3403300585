-- What a command gives that reads a ground file.
use Rattle.std.proofs.Common.{◌≡◌, ℕ, ◌≤◌, List, inl, inr, Option, length, refl, sym, ap, subst, Result, Ok, Err}
use Rattle.spec_program.specs.declared.exit.Exit.{Exit}
use Rattle.spec_world_file.specs.declared.ground_fault.GroundFault.{GroundFault}
use Rattle.spec_world_file.specs.GroundFile.{Grounded, MakesWorld, reads_ground}
use Rattle.spec_world.specs.declared.world.World.{World}
use Rattle.spec_run.specs.Drivers.{DriverState}
use Rattle.spec_tree.specs.Limits.{most_file_bytes}
use Rattle.cli_refusals.specs.declared.refusal.Refusal.{Refusal}
use Rattle.cli_refusals.specs.declared.refusal.Refusal.TheVariants as refusal
use Rattle.cli_refusals.specs.Printing.{Printed}
use Rattle.spec_program.specs.Answers.{Side, side}
use Rattle.cli_refusals.specs.Ends.{Ends, EndsAt}
use Rattle.spec_program.specs.Grounds.{GroundGives, GroundPlanBegins, GroundPlanGives, GroundPlans, GroundedPlans, Grounds}
use Rattle.spec_program.specs.Printed.{ground_output}
use Rattle.spec_program.specs.Output.{AreUncalled, Ending, Output}
use Rattle.spec_program.specs.RefusalOutputs.{ground_refused}
use Rattle.cli_refusals.specs.Refusing.{stopped_as}
use Rattle.spec_program.specs.PlanOutputs.{WorldBegun, WorldPlans}
use Rattle.cli_commands.proofs.Files.{LongAlone, long_is, match_false, match_true, short_is}
use Rattle.cli_refusals.proofs.AboutLent.Moments.{at_any, at_more}
use Rattle.cli_refusals.proofs.Ends.{ends_more, refused_ends}
use Rattle.spec_plan.specs.declared.ending.Limits.{Limits}
use Rattle.base_texts.specs.declared.stop.Stop.{Stop}
use Rattle.base_texts.specs.declared.stop.Stop.TheVariants as stop
use Rattle.world_reader.specs.Readings.{Gives}

-- ---- Files

pub long_ground : LongAlone Grounds
long_ground bytes moments drivers long = match_true _ _ _ (long_is bytes long) refl

pub long_ground_plan : (limits : Limits) → LongAlone (GroundPlans limits)
long_ground_plan limits bytes moments drivers long = match_true _ _ _ (long_is bytes long) refl

-- ---- Texts

-- the bytes of a ground file that is not too long
module _ (bytes : List ℕ) (short : length bytes ≤ most_file_bytes) where
  abbrev pub Told : Ending
  Told moments drivers output = GroundGives bytes output

  ground_gives : (read : Result Grounded GroundFault) → read ≡ reads_ground bytes → GroundGives bytes (ground_output read)
  ground_gives read said = match_false _ _ _ (short_is bytes short) (ap ground_output said)

  -- the file has a fault
  pub ground_stopped : (stopped : Stop GroundFault) (a : Side) → (let r : Result Grounded (Stop GroundFault) = Err stopped in Gives r (λ said. said ≡ reads_ground bytes))
      → EndsAt Told AreUncalled (Err (stopped_as refusal.Ground stopped)) a a
  ground_stopped (stop.Fault f) a said = refused_ends Told AreUncalled (refusal.Ground f) a (λ moments. ground_gives (Err f) said)
  ground_stopped stop.NoMemory a said = refused_ends Told AreUncalled refusal.NoMemory a (λ moments. tt)

  -- its text was written
  pub ground_written : (g : Grounded) (exit : Exit) (written : Option (List ℕ)) (faults : ℕ) (a : Side) → (let r : Result Grounded (Stop GroundFault) = Ok g in Gives r (λ said. said ≡ reads_ground bytes))
      → Printed (ground_output (Ok g)) exit a.written a.faults written faults → EndsAt Told AreUncalled (Ok exit) a (side written faults a.clock a.drivers)
  ground_written g exit written faults a said printed =
      at_any a.clock (λ moments. Ends (GroundGives bytes) AreUncalled (Ok exit) a (side written faults a.clock a.drivers))
      (λ moments. inl (ground_output (Ok g), ground_gives (Ok g) said, printed a.clock a.drivers a.drivers (λ place. refl)))

-- ---- Plans

-- .. on which a plan is made
module _ (limits : Limits) (bytes : List ℕ) (short : length bytes ≤ most_file_bytes) where
  plan_gives : (read : Result Grounded GroundFault) (drivers : List DriverState) (o : Output) → read ≡ reads_ground bytes → GroundedPlans read limits drivers o → GroundPlanGives limits bytes drivers o
  plan_gives read drivers o said plans = match_false _ _ _ (short_is bytes short) (subst (λ (r : Result Grounded GroundFault). GroundedPlans r limits drivers o) said plans)

  -- the file has a fault
  pub plan_stopped_at_file : (stopped : Stop GroundFault) (a : Side) → (let r : Result Grounded (Stop GroundFault) = Err stopped in Gives r (λ said. said ≡ reads_ground bytes))
      → EndsAt (λ moments. GroundPlanGives limits bytes) (GroundPlanBegins limits bytes) (Err (stopped_as refusal.Ground stopped)) a a
  plan_stopped_at_file (stop.Fault f) a said =
      refused_ends (λ moments. GroundPlanGives limits bytes) (GroundPlanBegins limits bytes) (refusal.Ground f) a (λ moments. plan_gives (Err f) a.drivers (ground_refused f) said refl)
  plan_stopped_at_file stop.NoMemory a said = refused_ends (λ moments. GroundPlanGives limits bytes) (GroundPlanBegins limits bytes) refusal.NoMemory a (λ moments. tt)

  -- the world script that it stands for has a fault
  pub plan_stopped_at_text : (g : Grounded) (stopped : Stop GroundFault) (a : Side) → (let r : Result Grounded (Stop GroundFault) = Ok g in Gives r (λ said. said ≡ reads_ground bytes))
      → (let r : Result World (Stop GroundFault) = Err stopped in Gives r (MakesWorld g)) → EndsAt (λ moments. GroundPlanGives limits bytes) (GroundPlanBegins limits bytes) (Err (stopped_as refusal.Ground stopped)) a a
  plan_stopped_at_text g (stop.Fault f) a said makes =
      refused_ends (λ moments. GroundPlanGives limits bytes) (GroundPlanBegins limits bytes) (refusal.Ground f) a (λ moments. plan_gives (Ok g) a.drivers (ground_refused f) said (Err f, makes, refl))
  plan_stopped_at_text g stop.NoMemory a said makes = refused_ends (λ moments. GroundPlanGives limits bytes) (GroundPlanBegins limits bytes) refusal.NoMemory a (λ moments. tt)

  -- it describes a world
  pub plan_of_text : (g : Grounded) (w : World) (result : Result Exit Refusal) (a b : Side) → (let r : Result Grounded (Stop GroundFault) = Ok g in Gives r (λ said. said ≡ reads_ground bytes))
      → MakesWorld g (Ok w) → EndsAt (λ moments. WorldPlans w limits) (WorldBegun w limits) result a b → EndsAt (λ moments. GroundPlanGives limits bytes) (GroundPlanBegins limits bytes) result a b
  plan_of_text g w result a b said makes ends =
      at_more a.clock (λ moments. Ends (WorldPlans w limits a.drivers) (WorldBegun w limits) result a b) (λ moments. Ends (GroundPlanGives limits bytes a.drivers) (GroundPlanBegins limits bytes) result a b)
      (λ moments. ends_more (WorldPlans w limits a.drivers) (GroundPlanGives limits bytes a.drivers) (WorldBegun w limits) (GroundPlanBegins limits bytes)
      (λ o is. plan_gives (Ok g) a.drivers o said (Ok w, makes, is)) (λ old new begun. inr (record { short = short; text = g; grounded = sym said; world = w; described = makes; begun = begun })) result a b) ends
