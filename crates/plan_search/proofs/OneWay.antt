-- All plan runs of a world are one, since their trees differ by keys alone.
use Rattle.std.proofs.Common.{◌≡◌, ℕ, ◌+◌, List, [], ◌∷◌, ◌++◌, length, refl, sym, ap, subst, ◌∙◌, arith}
use Rattle.spec_world.specs.declared.world.World.{World}
use Rattle.spec_run.specs.Drivers.{DriverState}
use Rattle.spec_plan.specs.Expansion.{goal_tree}
use Rattle.spec_plan.specs.Forests.{AreApart, Forest}
use Rattle.spec_plan.specs.declared.ending.End.{End}
use Rattle.spec_plan.specs.declared.ending.Limits.{Limits}
use Rattle.spec_plan.specs.declared.ending.PlanEnd.{PlanEnd}
use Rattle.spec_plan.specs.declared.ending.Step.{Step}
use Rattle.spec_plan.specs.PlanAnswers.{IsPlan, drivers_after}
use Rattle.spec_plan.specs.PlanRuns.{Ends, IsFirst, IsTried, Lead, PlanRun, Trial}
use Rattle.plan_search.proofs.Alike.{Same, same_back}
use Rattle.plan_search.proofs.AlikeGrown.{goals_same}
use Rattle.plan_search.proofs.AlikeTried.{TriedAlike, drivers_equal, ends_alike, step_or_end, stepped_alike}

plan_same : (planned again : PlanEnd) → planned.steps ≡ again.steps → planned.end ≡ again.end → planned ≡ again
plan_same planned again steps end = ap {B = PlanEnd} (λ (l : List Step). record planned { steps = l }) steps ∙ ap {B = PlanEnd} (λ (e : End). record again { end = e }) end

module _ (world : World) (limits : Limits) where
  -- from a tree, to which so many sequences were added, a plan run goes on so and ends
  pub record Goes (added : ℕ) (tree : Forest) (trials : List Trial) (steps : List Step) (last : Trial) (end : End) : Type 0 where
    pub lead : Lead world limits added tree trials steps last.tree
    pub tried : IsTried world limits last
    pub ends : Ends world limits (added + length steps) last end

  record GoesAlike (trials others : List Trial) (steps more : List Step) (last final : Trial) (end other : End) : Type 0 where
    steps_are : steps ≡ more
    end_is : end ≡ other
    drivers : (ds : List DriverState) → drivers_after world limits (trials ++ last ∷ []) ds ≡ drivers_after world limits (others ++ final ∷ []) ds

  pub tried_alike : (f g : Forest) (t u : Trial) → Same f g → t.tree ≡ f → u.tree ≡ g → IsTried world limits t → IsTried world limits u → TriedAlike world limits t u
  tried_alike f g t u same is are tried again = record {
    same = subst (λ (x : Forest). Same x u.tree) (sym is) (subst (Same f) (sym are) same);
    tried = tried;
    again = again;
  }

  go_alike : (trials others : List Trial) (steps more : List Step) (added : ℕ) (f g : Forest) (last final : Trial) (end other : End) → Same f g →
      Goes added f trials steps last end → Goes added g others more final other → GoesAlike trials others steps more last final end other
  go_alike [] [] [] [] added f g last final end other same p q =
      let a = tried_alike f g last final same (sym p.lead) (sym q.lead) p.tried q.tried in
      record {
        steps_are = refl;
        end_is = ends_alike world limits last final a (added + 0) end other p.ends q.ends;
        drivers = drivers_equal world limits last final a;
      }
  go_alike [] (u ∷ others) [] (z ∷ more) added f g last final end other same p q =
      let lead = q.lead in
      let a = tried_alike g f u last (same_back f g same) lead.0 (sym p.lead) lead.1 p.tried in
      absurd (step_or_end world limits u last a z lead.3.0 added end lead.3.1 lead.2 (subst (λ (n : ℕ). Ends world limits n last end) (omega arith) p.ends))
  go_alike (t ∷ trials) [] (s ∷ steps) [] added f g last final end other same p q =
      let lead = p.lead in
      let a = tried_alike f g t final same lead.0 (sym q.lead) lead.1 q.tried in
      absurd (step_or_end world limits t final a s lead.3.0 added other lead.3.1 lead.2 (subst (λ (n : ℕ). Ends world limits n final other) (omega arith) q.ends))
  go_alike (t ∷ trials) (u ∷ others) (s ∷ steps) (z ∷ more) added f g last final end other same p q =
      let lead = p.lead in
      let twin = q.lead in
      let a = tried_alike f g t u same lead.0 twin.0 lead.1 twin.1 in
      let stepped = stepped_alike world limits t u a s z lead.3.0 twin.3.0 lead.3.1 twin.3.1 in
      let rest = go_alike trials others steps more (added + 1) lead.3.0 twin.3.0 last final end other stepped.same
      (record { lead = lead.3.2; tried = p.tried; ends = subst (λ (n : ℕ). Ends world limits n last end) (omega arith) p.ends })
      (record { lead = twin.3.2; tried = q.tried; ends = subst (λ (n : ℕ). Ends world limits n final other) (omega arith) q.ends }) in
      record {
        steps_are = ap (λ (x : Step). x ∷ steps) stepped.step ∙ ap (λ (l : List Step). z ∷ l) rest.steps_are;
        end_is = rest.end_is;
        drivers = λ ds. ap (drivers_after world limits (trials ++ last ∷ [])) (drivers_equal world limits t u a ds) ∙ rest.drivers _;
      }
  go_alike [] others (s ∷ steps) more added f g last final end other same p q = absurd p.lead
  go_alike (t ∷ trials) others [] more added f g last final end other same p q = absurd p.lead
  go_alike trials [] steps (z ∷ more) added f g last final end other same p q = absurd q.lead
  go_alike trials (u ∷ others) steps [] added f g last final end other same p q = absurd q.lead

  pub firsts_alike : (f g : Forest) → IsFirst world f → IsFirst world g → Same f g
  firsts_alike f g is other =
      subst (λ (x : Forest). Same x g) (sym is.is) (subst (Same (goal_tree is.root is.keys world.goals)) (sym other.is)
      (goals_same is.root other.root is.keys other.keys world.goals is.all other.all (subst AreApart is.is is.apart) (subst AreApart other.is other.apart)))

  pub run_goes : (planned : PlanEnd) (trials : List Trial) (last : Trial) (run : PlanRun world limits planned trials last) → Goes 0 run.first trials planned.steps last planned.end
  run_goes planned trials last run = record { lead = run.lead; tried = run.tried; ends = subst (λ (n : ℕ). Ends world limits n last planned.end) (omega arith) run.ends }

  pub one_way : (before after other : List DriverState) (planned again : PlanEnd) → IsPlan world limits before after planned → IsPlan world limits before other again → (planned ≡ again) × (after ≡ other)
  one_way before after other planned again p q =
      let alike = go_alike p.trials q.trials planned.steps again.steps 0 p.run.first q.run.first p.last q.last planned.end again.end (firsts_alike p.run.first q.run.first p.run.is_first q.run.is_first)
      (run_goes planned p.trials p.last p.run) (run_goes again q.trials q.last q.run) in
      (plan_same planned again alike.steps_are alike.end_is, p.drivers ∙ alike.drivers before ∙ sym q.drivers)
