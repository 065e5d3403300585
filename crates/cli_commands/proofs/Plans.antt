-- What a command gives that plans.
use Rattle.std.proofs.Common.{ℕ, ◌≤◌, List, inr, length, refl, Result, Ok, Err}
use Rattle.spec_program.specs.declared.exit.Exit.{Exit}
use Rattle.spec_world.specs.declared.world.World.{World}
use Rattle.spec_world_file.specs.declared.world_fault.WorldFault.{WorldFault}
use Rattle.spec_run.specs.Drivers.{DriverState}
use Rattle.spec_tree.specs.Limits.{most_file_bytes}
use Rattle.spec_world_file.specs.WorldFile.{ReadsWorld}
use Rattle.cli_refusals.specs.declared.refusal.Refusal.{Refusal}
use Rattle.cli_refusals.specs.declared.refusal.Refusal.TheVariants as refusal
use Rattle.spec_program.specs.Answers.{Side}
use Rattle.cli_refusals.specs.Refusing.{stopped_as}
use Rattle.spec_program.specs.RefusalOutputs.{world_refused}
use Rattle.cli_refusals.specs.Ends.{Ends, EndsAt}
use Rattle.spec_program.specs.Output.{Output}
use Rattle.world_reader.specs.Readings.{Gives}
use Rattle.base_texts.specs.declared.stop.Stop.{Stop}
use Rattle.base_texts.specs.declared.stop.Stop.TheVariants as stop
use Rattle.spec_program.specs.PlanOutputs.{WorldBegun, WorldPlans}
use Rattle.spec_program.specs.Plans.{PlanBegins, PlanGives, Plans, ReadPlans}
use Rattle.cli_commands.proofs.Files.{LongAlone, long_is, match_false, match_true, short_is}
use Rattle.cli_refusals.proofs.AboutLent.Moments.{at_more}
use Rattle.cli_refusals.proofs.Ends.{ends_more, refused_ends}
use Rattle.spec_plan.specs.declared.ending.Limits.{Limits}

-- ---- Bytes

-- the bytes of a world file that is not too long
module _ (limits : Limits) (world : List ℕ) (short : length world ≤ most_file_bytes) where
  plan_gives : (described : Result World WorldFault) (drivers : List DriverState) (o : Output) → ReadsWorld world described → ReadPlans described limits drivers o → PlanGives limits world drivers o
  plan_gives described drivers o reads plans = match_false _ _ _ (short_is world short) (described, reads, plans)

  -- the script could not be parsed
  pub script_stopped : (stopped : Stop WorldFault) (a : Side) → (let r : Result World (Stop WorldFault) = Err stopped in Gives r (ReadsWorld world))
      → EndsAt (λ moments. PlanGives limits world) (PlanBegins limits world) (Err (stopped_as refusal.World stopped)) a a
  script_stopped (stop.Fault f) a described =
      refused_ends (λ moments. PlanGives limits world) (PlanBegins limits world) (refusal.World f) a (λ moments. plan_gives (Err f) a.drivers (world_refused f) described refl)
  script_stopped stop.NoMemory a described = refused_ends (λ moments. PlanGives limits world) (PlanBegins limits world) refusal.NoMemory a (λ moments. tt)

  -- it was parsed
  pub script_parsed : (w : World) (result : Result Exit Refusal) (a b : Side) → ReadsWorld world (Ok w) → EndsAt (λ moments. WorldPlans w limits) (WorldBegun w limits) result a b → EndsAt (λ moments. PlanGives limits world) (PlanBegins limits world) result a b
  script_parsed w result a b described ends =
      at_more a.clock (λ moments. Ends (WorldPlans w limits a.drivers) (WorldBegun w limits) result a b) (λ moments. Ends (PlanGives limits world a.drivers) (PlanBegins limits world) result a b)
      (λ moments. ends_more (WorldPlans w limits a.drivers) (PlanGives limits world a.drivers) (WorldBegun w limits) (PlanBegins limits world)
      (λ o is. plan_gives (Ok w) a.drivers o described is) (λ old new begun. inr (record { short = short; world = w; described = described; begun = begun })) result a b) ends

-- ---- Files

pub long_plan : (limits : Limits) → LongAlone (Plans limits)
long_plan limits bytes moments drivers long = match_true _ _ _ (long_is bytes long) refl
