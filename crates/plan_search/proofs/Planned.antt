-- A plan run on its way: trials and steps have led to a tree.
use Rattle.std.proofs.Common.{◌≡◌, inl, inr, ◌+◌, ◌≤◌, List, [], ◌∷◌, ◌++◌, length, Option, Some, None, Result, Ok, Err, OnErr, refl, sym, ap, subst, ◌∙◌, arith}
use Rattle.std.proofs.lemmas.List.{length-append}
use Rattle.base_texts.specs.declared.stop.NoMemory.{NoMemory}
use Rattle.spec_run.specs.declared.leaf.Totals.{Totals}
use Rattle.spec_world.specs.declared.world.World.{World}
use Rattle.spec_run.specs.Drivers.{DriverState, NothingHeld, driver_at}
use Rattle.spec_run.specs.Rosters.{IsSameRoster}
use Rattle.run_loop.proofs.Rising.{roster_both, same_roster}
use Rattle.spec_output.specs.Cuts.{HaveBegunWithin}
use Rattle.plan_tree.specs.declared.tree.PlanTree.{PlanTree}
use Rattle.spec_plan.specs.Forests.{Forest}
use Rattle.plan_tree.specs.Sizes.{subtrees}
use Rattle.plan_tree.specs.Stands.{StandsFor}
use Rattle.plan_tree.proofs.Expands.{first_many}
use Rattle.spec_plan.specs.declared.ending.End.{End}
use Rattle.spec_plan.specs.declared.ending.Limits.{Limits}
use Rattle.spec_plan.specs.declared.ending.PlanEnd.{PlanEnd}
use Rattle.spec_plan.specs.declared.ending.Step.{Step}
use Rattle.spec_plan.specs.PlanAnswers.{IsPlan, IsPlanCut, drivers_after}
use Rattle.spec_plan.specs.PlanRuns.{Ends, IsFirst, Lead, Trial}
use Rattle.plan_search.specs.Going.{GoesFrom}
use Rattle.plan_search.proofs.Leading.{lead_on}

drivers_both : (world : World) (limits : Limits) (xs ys : List Trial) (drivers : List DriverState) → drivers_after world limits (xs ++ ys) drivers ≡ drivers_after world limits ys (drivers_after world limits xs drivers)
drivers_both world limits [] ys drivers = refl
drivers_both world limits (x ∷ xs) ys drivers = drivers_both world limits xs ys _

-- these steps were made, and led to the plan tree
pub record UnderWay (world : World) (limits : Limits) (t : PlanTree) (steps : List Step) (before now : List DriverState) : Type 0 where
  pub first : Forest
  pub is_first : IsFirst world first
  pub done : List Trial
  pub tree : Forest
  pub lead : Lead world limits 0 first done steps tree
  pub stands : StandsFor t world tree
  pub many : subtrees tree ≡ length steps
  pub few : length steps ≤ limits.expand
  pub drivers : now ≡ drivers_after world limits done before
  pub none : NothingHeld now
  pub roster : IsSameRoster before now

-- before the first trial
pub no_step : (world : World) (limits : Limits) (t : PlanTree) (drivers : List DriverState) (first : Forest) → IsFirst world first → StandsFor t world first → NothingHeld drivers → UnderWay world limits t [] drivers drivers
no_step world limits t drivers first is st quiet = record {
  first = first;
  is_first = is;
  done = [];
  tree = first;
  lead = refl;
  stands = st;
  many = ap subtrees is.is ∙ first_many is.root is.keys world.goals;
  few = omega arith;
  drivers = refl;
  none = quiet;
  roster = same_roster drivers;
}

module _ (world : World) (limits : Limits) (t : PlanTree) (steps : List Step) (before now : List DriverState) (p : UnderWay world limits t steps before now) (new : PlanTree) (more : List Step) (after : List DriverState) where
  abbrev Goes : Result (Option End) NoMemory → Type 0
  Goes result = GoesFrom result p.tree new world limits steps more now after

  -- the drivers after one trial more
  drivers_more : (trial : Trial) → after ≡ drivers_after world limits (trial ∷ []) now → after ≡ drivers_after world limits (p.done ++ trial ∷ []) before
  drivers_more trial is = is ∙ ap (drivers_after world limits (trial ∷ [])) p.drivers ∙ sym (drivers_both world limits p.done (trial ∷ []) before)

  -- after one step more
  pub step_made : Goes (Ok None) → NothingHeld after → IsSameRoster now after → (UnderWay world limits new more before after) × (length more ≡ length steps + 1)
  step_made (trial, same, tried, goes, drivers) none roster =
      let s = goes.1 in
      let room = goes.0 in
      let longer : length more ≡ length steps + 1 = ap length s.steps ∙ length-append steps (s.step ∷ []) ∙ omega arith in
      let one : subtrees trial.tree ≡ subtrees p.tree = ap subtrees same in (
        record {
          first = p.first;
          is_first = p.is_first;
          done = p.done ++ trial ∷ [];
          tree = s.tree;
          lead = subst (λ (l : List Step). Lead world limits 0 p.first (p.done ++ trial ∷ []) l s.tree) (sym s.steps)
              (lead_on world limits 0 p.first p.done steps p.tree trial s.step s.tree p.lead same tried (omega (arith, room)) s.is);
          stands = s.stands;
          many = (let added = s.many in let so_far = p.many in omega (arith, added, one, so_far, longer));
          few = omega (arith, room, longer);
          drivers = drivers_more trial drivers;
          none = none;
          roster = roster_both before now after p.roster roster;
        },
        longer,
      )

  -- the plan run has ended
  pub plan_ended : (end : End) (planned : PlanEnd) → Goes (Ok (Some end)) → planned.steps ≡ more → planned.end ≡ end → IsPlan world limits before after planned
  plan_ended end planned (trial, same, tried, goes, drivers) steps_are end_is =
      let all : planned.steps ≡ steps = steps_are ∙ goes.1 in
      record {
        trials = p.done;
        last = trial;
        run = record {
          first = p.first;
          is_first = p.is_first;
          lead = subst (λ (l : List Step). Lead world limits 0 p.first p.done l trial.tree) (sym all) (subst (Lead world limits 0 p.first p.done steps) (sym same) p.lead);
          tried = tried;
          ends = subst (λ (x : End). Ends world limits (length planned.steps) trial x) (sym end_is) (subst (λ (l : List Step). Ends world limits (length l) trial end) (sym all) goes.0);
        };
        drivers = drivers_more trial drivers;
      }

  -- memory was wanting
  pub plan_cut : (e : NoMemory) → Goes (Err e) → IsPlanCut world limits before after
  plan_cut e (inl same) = record {
    trials = p.done;
    begins = inr (record { first = p.first; is_first = p.is_first; done = p.done; steps = steps; tree = p.tree; lead = p.lead; last = inl refl });
    within = λ place.
        let now_is : (driver_at now place).totals ≡ (driver_at (drivers_after world limits p.done before) place).totals = ap (λ (ds : List DriverState). (driver_at ds place).totals) p.drivers in
        let e = same place ∙ now_is in
        record { starts = λ few. (let s = ap (λ (t : Totals). t.starts) e in omega (arith, s)); runnings = λ few. (let s = ap (λ (t : Totals). t.runnings) e in omega (arith, s)) };
  }
  plan_cut e (inr (trial, same, tried, within)) = record {
    trials = p.done ++ trial ∷ [];
    begins = inr (record { first = p.first; is_first = p.is_first; done = p.done; steps = steps; tree = p.tree; lead = p.lead; last = inr (trial, same, tried, refl) });
    within =
        let whole : drivers_after world limits (trial ∷ []) now ≡ drivers_after world limits (p.done ++ trial ∷ []) before =
        ap (drivers_after world limits (trial ∷ [])) p.drivers ∙ sym (drivers_both world limits p.done (trial ∷ []) before) in
        subst (HaveBegunWithin before after) whole (λ place. record {
          starts = λ few. (within place).starts ((p.roster.totals place).starts few).1;
          runnings = λ few. (within place).runnings ((p.roster.totals place).runnings few).1;
        });
  }

-- memory was wanting before the first trial
pub nothing_planned : (world : World) (limits : Limits) (drivers : List DriverState) → IsPlanCut world limits drivers drivers
nothing_planned world limits drivers = record { trials = []; begins = inl refl; within = λ place. record { starts = λ few. omega arith; runnings = λ few. omega arith } }

pub on_err : {A E P : Type 0} (r : Result A E) → P → OnErr r P
on_err (Ok a) p = tt
on_err (Err e) p = p
