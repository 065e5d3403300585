-- What planning leaves of the drivers, and what it answers.
use Rattle.std.specs.Prelude.{◌≡◌, ◌⊎◌, List, [], ◌∷◌, ◌++◌}
use Rattle.spec_world.specs.declared.world.World.{World}
use Rattle.spec_run.specs.Drivers.{DriverState}
use Rattle.spec_tree.specs.Terms.{scope_count}
use Rattle.spec_tree.specs.Trees.{IsValid}
use Rattle.spec_plan.specs.Forests.{Forest}
use Rattle.spec_run.specs.Served.{roster_after_run}
use Rattle.spec_output.specs.Cuts.{HaveBegunWithin}
use Rattle.spec_plan.specs.Modelled.{modelled}
use Rattle.spec_plan.specs.declared.ending.End.{End}
use Rattle.spec_plan.specs.declared.ending.End.TheVariants.{Reached}
use Rattle.spec_plan.specs.declared.ending.Limits.{Limits}
use Rattle.spec_plan.specs.declared.ending.PlanEnd.{PlanEnd}
use Rattle.spec_plan.specs.declared.ending.Step.{Step}
use Rattle.spec_plan.specs.PlanRuns.{IsFirst, IsTried, Lead, PlanRun, Trial, run_of, tree_of}

-- ---- Drivers

-- the drivers after the modelled runs of some trials; they were prepared anew for each
abbrev pub drivers_after : World → Limits → List Trial → List DriverState → List DriverState
drivers_after world limits [] drivers = drivers
drivers_after world limits (t ∷ trials) drivers =
    drivers_after world limits trials (roster_after_run (tree_of world.rows t.tree) (modelled world) drivers (run_of world limits t).calls)

-- the trials with which a plan run begins: some that lead to a tree, and maybe the trial of this tree
pub record Begins (world : World) (limits : Limits) (trials : List Trial) : Type 0 where
  pub first : Forest
  pub is_first : IsFirst world first
  pub done : List Trial
  pub steps : List Step
  pub tree : Forest
  pub lead : Lead world limits 0 first done steps tree
  pub last : (trials ≡ done) ⊎ ((t : Trial) × (t.tree ≡ tree) × IsTried world limits t × (trials ≡ done ++ t ∷ []))

-- ---- What planning answers

-- the steps, the tree and the end are those of a plan run, and the drivers had the calls of its modelled runs
pub record IsPlan (world : World) (limits : Limits) (before after : List DriverState) (planned : PlanEnd) : Type 0 where
  pub trials : List Trial
  pub last : Trial
  pub run : PlanRun world limits planned trials last
  pub drivers : after ≡ drivers_after world limits (trials ++ last ∷ []) before

-- no driver was asked to start and to go on more often than by the modelled runs with which a plan run begins
pub record IsPlanCut (world : World) (limits : Limits) (before after : List DriverState) : Type 0 where
  pub trials : List Trial
  pub begins : (trials ≡ []) ⊎ Begins world limits trials
  pub within : HaveBegunWithin before after (drivers_after world limits trials before)

-- a tree that reaches the goals is valid and opens no other one
abbrev pub StandsAlone : End → Type 0
StandsAlone (Reached tree tick) = IsValid tree × (scope_count tree.term ≡ 0)
StandsAlone end = Unit {0}
