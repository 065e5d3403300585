-- A tree and its modelled run, as the plan run goes on from it.
use Rattle.std.proofs.Common.{◌≡◌, inl, inr, ℕ, ◌+◌, List, [], ◌∷◌, length, Option, Some, Result, Ok, Err, IfOk, IfSome, refl, sym, ap, subst, ◌∙◌, arith}
use Rattle.std.specs.Prelude.{codes, slice_index_or}
use Rattle.base_texts.specs.declared.stop.NoMemory.{NoMemory}
use Rattle.base_texts.specs.declared.stop.Stop.{Stop}
use Rattle.base_texts.specs.declared.stop.Stop.TheVariants as stop
use Rattle.spec_run.specs.declared.block.Block.{Block as Shown}
use Rattle.spec_run.specs.declared.fault.RunFault.{RunFault}
use Rattle.spec_tree.specs.declared.term.Kind.TheVariants.{ReactiveSequence}
use Rattle.spec_tree.specs.declared.term.Term.{Term, roll-Term}
use Rattle.spec_tree.specs.declared.term.Tree.{Tree as Planned}
use Rattle.spec_run.specs.declared.leaf.Totals.{Totals}
use Rattle.spec_world.specs.declared.world.World.{World}
use Rattle.spec_run.specs.Drivers.{DriverState, driver_at}
use Rattle.spec_run.specs.Served.{roster_after_run}
use Rattle.spec_output.specs.Cuts.{HaveBegunWithin}
use Rattle.plan_tree.specs.declared.tree.PlanTree.{PlanTree}
use Rattle.spec_plan.specs.Forests.{Forest}
use Rattle.plan_tree.specs.Planned.{IsPlanned}
use Rattle.spec_plan.specs.Planned.{plain_node, terms_of}
use Rattle.spec_plan.specs.declared.pace.Pace.{Pace}
use Rattle.plan_trial.specs.declared.trying.Tried.{Tried}
use Rattle.spec_plan.specs.declared.verdict.Verdict.{Verdict}
use Rattle.spec_plan.specs.declared.verdict.Verdict.TheVariants.{Reaches, GoesOn}
use Rattle.spec_plan.specs.Modelled.{modelled}
use Rattle.plan_trial.specs.Tried.{RunEnds}
use Rattle.plan_trial.proofs.Faults.{only_runner}
use Rattle.spec_plan.specs.declared.ending.End.{End}
use Rattle.spec_plan.specs.declared.ending.End.TheVariants.{Reached, StillRunning, Faulted}
use Rattle.spec_plan.specs.declared.ending.Limits.{Limits}
use Rattle.spec_plan.specs.declared.ending.Step.{Step}
use Rattle.spec_plan.specs.PlanAnswers.{StandsAlone, drivers_after}
use Rattle.plan_search.specs.Grown.{GoesOrEnds}
use Rattle.plan_search.specs.Going.{GoesFrom, IsStopped}
use Rattle.spec_plan.specs.PlanRuns.{Decides, IsTried, Trial, last_notes, pace_of, tree_of}

-- ---- Trees

-- a planned tree is that of its plan tree
pub planned_is : (world : World) (f : Forest) (tree : Planned) → IsPlanned world.rows f tree → tree ≡ tree_of world.rows f
planned_is world f tree p =
    let term : slice_index_or (terms_of world.rows f) 0 (roll-Term (plain_node ReactiveSequence (codes "ReactiveSequence") [])) ≡ tree.term =
    ap (λ (terms : List Term). slice_index_or terms 0 (roll-Term (plain_node ReactiveSequence (codes "ReactiveSequence") []))) p.term in
    (λ i. record { main = p.main i; term = sym term i })

-- ---- Totals

-- drivers that had all calls of a run
pub within_whole : (before after whole : List DriverState) → after ≡ whole → HaveBegunWithin before after whole
within_whole before after whole is place =
    let e : (driver_at after place).totals ≡ (driver_at whole place).totals = ap (λ (ds : List DriverState). (driver_at ds place).totals) is in
    record { starts = λ few. (let s = ap (λ (t : Totals). t.starts) e in omega (arith, s)); runnings = λ few. (let s = ap (λ (t : Totals). t.runnings) e in omega (arith, s)) }

-- ---- After a run

-- a run in a world under another name, at the pace of these limits
pub runs_as : (world of : World) → world ≡ of → (limits : Limits) (pace : Pace) → pace ≡ pace_of limits → (tree : Planned) (before after : List DriverState) (result : Result Tried (Stop RunFault)) →
    RunEnds result (record { tree = tree; world = of }) pace (roster_after_run tree (modelled of) before) before after →
    RunEnds result (record { tree = tree; world = world }) (pace_of limits) (roster_after_run tree (modelled world) before) before after
runs_as world of same limits pace paced tree before after result ends =
    subst (λ (w : World). RunEnds result (record { tree = tree; world = w }) (pace_of limits) (roster_after_run tree (modelled w) before) before after) (sym same)
    (subst (λ (p : Pace). RunEnds result (record { tree = tree; world = of }) p (roster_after_run tree (modelled of) before) before after) paced ends)

-- a plan run that was stopped has no tree
pub stopped_alone : (e : Stop RunFault) (result : Result (Option End) NoMemory) → IsStopped e result → IfOk result (λ end. IfSome end StandsAlone)
stopped_alone (stop.Fault fault) result is = subst (λ (r : Result (Option End) NoMemory). IfOk r (λ end. IfSome end StandsAlone)) (sym is) tt
stopped_alone stop.NoMemory (Err e) is = tt
stopped_alone stop.NoMemory (Ok end) is = absurd is

module _ (world : World) (limits : Limits) (f : Forest) (tree : Planned) (planned : IsPlanned world.rows f tree) (before after : List DriverState) where
  abbrev Ends : Result Tried (Stop RunFault) → Planned → Type 0
  Ends result p = RunEnds result (record { tree = p; world = world }) (pace_of limits) (roster_after_run p (modelled world) before) before after

  ends_of : (result : Result Tried (Stop RunFault)) → Ends result tree → Ends result (tree_of world.rows f)
  ends_of result ends = subst (Ends result) (planned_is world f tree planned) ends

  -- the trial after so many ticks
  abbrev pub trial_of : ℕ → Trial
  trial_of n = record { tree = f; before = n }

  -- the run faulted
  goes_faulted : (t : PlanTree) (steps : List Step) (fault : RunFault) → Ends (Err (stop.Fault fault)) tree → GoesFrom (Ok (Some (Faulted fault.uid fault.cause))) f t world limits steps steps before after
  goes_faulted t steps fault ends =
      let e = ends_of (Err (stop.Fault fault)) ends in
      let only : fault.runner ≡ 1 = only_runner (tree_of world.rows f) world fault limits.period (e.0 + 1) e.1.ends in
      (trial_of e.0, refl, e.1.last, (e.1.ends ∙ (λ i. Some (record { runner = only i; uid = fault.uid; cause = fault.cause })), refl), e.1.drivers)

  -- memory was wanting in the run
  goes_cut : (t : PlanTree) (steps : List Step) (e : NoMemory) → Ends (Err stop.NoMemory) tree → GoesFrom (Err e) f t world limits steps steps before after
  goes_cut t steps e ends = elim (ends_of (Err stop.NoMemory) ends) [
    | inl same ↦ inl same
    | inr cut ↦ inr (trial_of cut.0, refl, cut.1, cut.2)
  ]

  -- the run was stopped
  pub goes_stopped : (t : PlanTree) (steps : List Step) (e : Stop RunFault) (result : Result (Option End) NoMemory) → Ends (Err e) tree → IsStopped e result → GoesFrom result f t world limits steps steps before after
  goes_stopped t steps (stop.Fault fault) result ends is =
      subst (λ (r : Result (Option End) NoMemory). GoesFrom r f t world limits steps steps before after) (sym is) (goes_faulted t steps fault ends)
  goes_stopped t steps stop.NoMemory (Err e) ends is = goes_cut t steps e ends
  goes_stopped t steps stop.NoMemory (Ok end) ends is = absurd is

  module _ (tried : Tried) (ends : Ends (Ok tried) tree) where
    abbrev own : Trial
    own = trial_of tried.before

    pub was_tried : IsTried world limits own
    was_tried = (ends_of (Ok tried) ends).0.last

    pub decides : (verdict : Verdict) → tried.verdict ≡ verdict → Decides world limits own verdict
    decides verdict is = let e = ends_of (Ok tried) ends in record { unbroken = e.0.ends; last = e.1 ∙ ap (λ (v : Verdict). Some v) is }

    pub notes_are : tried.blocks.ticked.notes.list ≡ last_notes world limits own
    notes_are = ap (λ (b : Shown). b.notes) (ends_of (Ok tried) ends).2

    pub drivers_are : after ≡ drivers_after world limits (own ∷ []) before
    drivers_are = (ends_of (Ok tried) ends).0.drivers

    -- the goals were reached
    pub goes_reached : (t : PlanTree) (steps : List Step) → tried.verdict ≡ Reaches → GoesFrom (Ok (Some (Reached tree (tried.before + 1)))) f t world limits steps steps before after
    goes_reached t steps is = (own, refl, was_tried, ((decides Reaches is, planned_is world f tree planned, refl), refl), drivers_are)

    -- the run went on as long as it may
    pub goes_running : (t : PlanTree) (steps : List Step) (n : ℕ) → n ≡ limits.ticks → tried.verdict ≡ GoesOn → GoesFrom (Ok (Some (StillRunning n))) f t world limits steps steps before after
    goes_running t steps n most is = (own, refl, was_tried, ((decides GoesOn is, most), refl), drivers_are)

    -- the tree failed
    pub goes_grown : (t : PlanTree) (steps now : List Step) (end : Option End) → GoesOrEnds t world limits (length steps) own steps now end → GoesFrom (Ok end) f t world limits steps now before after
    goes_grown t steps now end goes = (own, refl, was_tried, goes, drivers_are)

    -- .. and memory was wanting then
    pub goes_short : (t : PlanTree) (steps now : List Step) (e : NoMemory) → GoesFrom (Err e) f t world limits steps now before after
    goes_short t steps now e = inr (own, refl, was_tried, within_whole before after _ drivers_are)

    -- the tree failed, whatever was answered then
    pub goes_fails : (t : PlanTree) (steps now : List Step) (r : Result (Option End) NoMemory) → IfOk r (λ end. GoesOrEnds t world limits (length steps) own steps now end) → GoesFrom r f t world limits steps now before after
    goes_fails t steps now (Ok end) goes = goes_grown t steps now end goes
    goes_fails t steps now (Err e) goes = goes_short t steps now e
