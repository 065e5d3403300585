-- How a plan run goes on from one of its trees.
use Rattle.std.specs.Prelude.{◌≡◌, ◌⊎◌, List, [], ◌∷◌, length, Option, Some, Result, Ok, Err}
use Rattle.base_texts.specs.declared.stop.NoMemory.{NoMemory}
use Rattle.base_texts.specs.declared.stop.Stop.{Stop}
use Rattle.base_texts.specs.declared.stop.Stop.TheVariants as stop
use Rattle.spec_run.specs.declared.fault.RunFault.{RunFault}
use Rattle.spec_world.specs.declared.world.World.{World}
use Rattle.spec_run.specs.Drivers.{DriverState}
use Rattle.run_loop.specs.Begun.{HaveSameTotals}
use Rattle.spec_output.specs.Cuts.{HaveBegunWithin}
use Rattle.plan_tree.specs.declared.tree.PlanTree.{PlanTree}
use Rattle.spec_plan.specs.Forests.{Forest}
use Rattle.plan_trial.specs.Tasks.{IsTaskOf}
use Rattle.spec_plan.specs.declared.ending.End.{End}
use Rattle.spec_plan.specs.declared.ending.End.TheVariants.{Faulted}
use Rattle.spec_plan.specs.declared.ending.Limits.{Limits}
use Rattle.spec_plan.specs.declared.ending.Step.{Step}
use Rattle.plan_search.specs.declared.task.PlanTask.{PlanTask}
use Rattle.spec_plan.specs.PlanAnswers.{drivers_after}
use Rattle.plan_search.specs.Grown.{GoesOrEnds}
use Rattle.plan_search.specs.Reached.{AreInRange}
use Rattle.spec_plan.specs.PlanRuns.{IsTried, Trial, pace_of}

-- what stays the same in all steps of a plan for this world
pub record IsPlanTask (world : World) (task : PlanTask) : Type 0 where
  pub runs : IsTaskOf world task.runs
  pub limits : AreInRange task.limits
  pub pace : task.runs.pace ≡ pace_of task.limits

-- what a stopped run makes of a plan run: it ends with the fault, or memory was wanting
abbrev pub IsStopped : Stop RunFault → Result (Option End) NoMemory → Type 0
IsStopped (stop.Fault fault) result = result ≡ Ok (Some (Faulted fault.uid fault.cause))
IsStopped stop.NoMemory (Err e) = Unit {0}
IsStopped stop.NoMemory (Ok end) = ⊥

-- how a plan run goes on from a tree: it was tried, and a step or an end followed; or memory was wanting, before its run
-- or later
abbrev pub GoesFrom : Result (Option End) NoMemory → Forest → PlanTree → World → Limits → List Step → List Step → List DriverState → List DriverState → Type 0
GoesFrom (Ok end) tree t world limits steps now before after =
    (trial : Trial) × (trial.tree ≡ tree) × IsTried world limits trial × GoesOrEnds t world limits (length steps) trial steps now end
    × (after ≡ drivers_after world limits (trial ∷ []) before)
GoesFrom (Err e) tree t world limits steps now before after =
    HaveSameTotals before after
    ⊎ ((trial : Trial) × (trial.tree ≡ tree) × IsTried world limits trial × HaveBegunWithin before after (drivers_after world limits (trial ∷ []) before))
