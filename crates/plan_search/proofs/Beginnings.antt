-- The trials with which a plan run begins are alike to the first ones of the whole run.
use Rattle.std.proofs.Common.{◌≡◌, ◌⊎◌, inl, inr, ℕ, ◌+◌, List, [], ◌∷◌, ◌++◌, refl, sym, ap, subst, ◌∙◌, append-nil, arith}
use Rattle.spec_world.specs.declared.world.World.{World}
use Rattle.spec_run.specs.Drivers.{DriverState}
use Rattle.spec_plan.specs.Forests.{Forest}
use Rattle.spec_run.specs.Served.{roster_after_run}
use Rattle.spec_run.specs.Rosters.{IsSameRoster}
use Rattle.run_loop.proofs.Preparing.{run_same}
use Rattle.run_loop.proofs.Rising.{roster_both, same_roster}
use Rattle.spec_output.specs.Cuts.{HaveBegunWithin}
use Rattle.spec_plan.specs.Modelled.{modelled}
use Rattle.spec_plan.specs.declared.ending.End.{End}
use Rattle.spec_plan.specs.declared.ending.Limits.{Limits}
use Rattle.spec_plan.specs.declared.ending.PlanEnd.{PlanEnd}
use Rattle.spec_plan.specs.declared.ending.Step.{Step}
use Rattle.spec_plan.specs.PlanAnswers.{Begins, IsPlan, IsPlanCut, drivers_after}
use Rattle.spec_plan.specs.PlanRuns.{Ends, IsTried, Lead, Trial, run_of, tree_of}
use Rattle.plan_search.proofs.Alike.{Same}
use Rattle.plan_search.proofs.AlikeTried.{drivers_equal, step_or_end, stepped_alike}
use Rattle.plan_search.proofs.OneWay.{Goes, firsts_alike, run_goes, tried_alike}

-- counts that rose further
within_later : (old now whole later : List DriverState) → HaveBegunWithin old now whole → IsSameRoster old whole → IsSameRoster whole later → HaveBegunWithin old now later
within_later old now whole later within first then place = record {
  starts = λ few. let a = (within place).starts few in let b = ((first.totals place).starts few).1 in let c = ((then.totals place).starts b).0 in omega (arith, a, c);
  runnings = λ few. let a = (within place).runnings few in let b = ((first.totals place).runnings few).1 in let c = ((then.totals place).runnings b).0 in omega (arith, a, c);
}

module _ (world : World) (limits : Limits) where
  abbrev after_trial : Trial → List DriverState → List DriverState
  after_trial t drivers = roster_after_run (tree_of world.rows t.tree) (modelled world) drivers (run_of world limits t).calls

  trials_same : (trials : List Trial) (drivers : List DriverState) → IsSameRoster drivers (drivers_after world limits trials drivers)
  trials_same [] drivers = same_roster drivers
  trials_same (t ∷ trials) drivers =
      roster_both drivers (after_trial t drivers) (drivers_after world limits (t ∷ trials) drivers) (run_same (tree_of world.rows t.tree) (modelled world) drivers (run_of world limits t).calls) (trials_same trials (after_trial t drivers))

  -- all trials leave of drivers what some and then these do
  record GoesFurther (some all : List Trial) : Type 0 where
    rest : List Trial
    drivers : (ds : List DriverState) → drivers_after world limits all ds ≡ drivers_after world limits rest (drivers_after world limits some ds)

  further : (t u : Trial) (some all : List Trial) → ((ds : List DriverState) → after_trial t ds ≡ after_trial u ds) → GoesFurther some all → GoesFurther (t ∷ some) (u ∷ all)
  further t u some all same more = record {
    rest = more.rest;
    drivers = λ ds. ap (drivers_after world limits all) (sym (same ds)) ∙ more.drivers (after_trial t ds);
  }

  -- the trial of this tree, or none
  abbrev MaybeTried : Forest → List Trial → Type 0
  MaybeTried tree [] = Unit {0}
  MaybeTried tree (t ∷ []) = (t.tree ≡ tree) × IsTried world limits t
  MaybeTried tree _ = ⊥

  go_further : (done extra others : List Trial) (steps more : List Step) (added : ℕ) (f g tree : Forest) (final : Trial) (end : End) → Same f g →
      Lead world limits added f done steps tree → MaybeTried tree extra → Goes world limits added g others more final end → GoesFurther (done ++ extra) (others ++ final ∷ [])
  go_further [] [] others [] more added f g tree final end same lead maybe q = record { rest = others ++ final ∷ []; drivers = λ ds. refl }
  go_further [] (t ∷ []) [] [] [] added f g tree final end same lead maybe q =
      further t final [] [] (drivers_equal world limits t final (tried_alike world limits f g t final same (maybe.0 ∙ sym lead) (sym q.lead) maybe.1 q.tried)) (record { rest = []; drivers = λ ds. refl })
  go_further [] (t ∷ []) (u ∷ others) [] (z ∷ more) added f g tree final end same lead maybe q =
      let twin = q.lead in
      further t u [] (others ++ final ∷ []) (drivers_equal world limits t u (tried_alike world limits f g t u same (maybe.0 ∙ sym lead) twin.0 maybe.1 twin.1)) (record { rest = others ++ final ∷ []; drivers = λ ds. refl })
  go_further (t ∷ done) extra [] (s ∷ steps) [] added f g tree final end same lead maybe q =
      let a = tried_alike world limits f g t final same lead.0 (sym q.lead) lead.1 q.tried in
      absurd (step_or_end world limits t final a s lead.3.0 added end lead.3.1 lead.2 (subst (λ (n : ℕ). Ends world limits n final end) (omega arith) q.ends))
  go_further (t ∷ done) extra (u ∷ others) (s ∷ steps) (z ∷ more) added f g tree final end same lead maybe q =
      let twin = q.lead in
      let a = tried_alike world limits f g t u same lead.0 twin.0 lead.1 twin.1 in
      let stepped = stepped_alike world limits t u a s z lead.3.0 twin.3.0 lead.3.1 twin.3.1 in
      further t u (done ++ extra) (others ++ final ∷ []) (drivers_equal world limits t u a) (go_further done extra others steps more (added + 1) lead.3.0 twin.3.0 tree final end stepped.same lead.3.2 maybe
      (record { lead = twin.3.2; tried = q.tried; ends = subst (λ (n : ℕ). Ends world limits n final end) (omega arith) q.ends }))
  go_further [] (t ∷ v ∷ extra) others steps more added f g tree final end same lead maybe q = absurd maybe
  go_further [] extra others (s ∷ steps) more added f g tree final end same lead maybe q = absurd lead
  go_further (t ∷ done) extra others [] more added f g tree final end same lead maybe q = absurd lead
  go_further done extra [] steps (z ∷ more) added f g tree final end same lead maybe q = absurd q.lead
  go_further done extra (u ∷ others) steps [] added f g tree final end same lead maybe q = absurd q.lead

  module _ (before after : List DriverState) (planned : PlanEnd) (q : IsPlan world limits before after planned) where
    abbrev whole : List Trial
    whole = q.trials ++ q.last ∷ []

    lead_further : (trials : List Trial) (b : Begins world limits trials) (extra : List Trial) → MaybeTried b.tree extra → trials ≡ b.done ++ extra → GoesFurther trials whole
    lead_further trials b extra maybe are =
        subst (λ (l : List Trial). GoesFurther l whole) (sym are)
        (go_further b.done extra q.trials b.steps planned.steps 0 b.first q.run.first b.tree q.last planned.end (firsts_alike world limits b.first q.run.first b.is_first q.run.is_first)
        b.lead maybe (run_goes world limits planned q.trials q.last q.run))

    begins_further : (trials : List Trial) → Begins world limits trials → GoesFurther trials whole
    begins_further trials b = elim b.last [
      | inl are ↦ lead_further trials b [] tt (are ∙ sym (append-nil b.done))
      | inr last ↦ lead_further trials b (last.0 ∷ []) (last.1, last.2) last.3
    ]

    cut_further : (trials : List Trial) → (trials ≡ []) ⊎ Begins world limits trials → GoesFurther trials whole
    cut_further trials (inl none) = subst (λ (l : List Trial). GoesFurther l whole) (sym none) (record { rest = whole; drivers = λ ds. refl })
    cut_further trials (inr b) = begins_further trials b

  pub cut_begins_within : (before now after : List DriverState) (planned : PlanEnd) → IsPlanCut world limits before now → IsPlan world limits before after planned → HaveBegunWithin before now after
  cut_begins_within before now after planned p q =
      let begun : List DriverState = drivers_after world limits p.trials before in
      let more = cut_further before after planned q p.trials p.begins in
      within_later before now begun after p.within (trials_same p.trials before)
      (subst (IsSameRoster begun) (sym (q.drivers ∙ more.drivers before)) (trials_same more.rest begun))
