-- What holds of the rows of the goals, of what each action needs, and of each first untried template, holds of the rows of
-- every tree of a plan run.
use Rattle.std.proofs.Common.{◌≡◌, ℕ, zero, suc, ◌+◌, List, [], ◌∷◌, Some, sym, subst}
use Rattle.std.specs.Prelude.{slice_get}
use Rattle.std.specs.List.{AllByRecursion}
use Rattle.spec_world.specs.declared.world.World.{World}
use Rattle.spec_plan.specs.declared.domain.Template.{Template}
use Rattle.spec_plan.specs.declared.ending.Limits.{Limits}
use Rattle.spec_plan.specs.declared.ending.Step.{Step}
use Rattle.spec_plan.specs.Achievers.{needs_of}
use Rattle.spec_plan.specs.Expansion.{untried}
use Rattle.spec_plan.specs.Forests.{Forest}
use Rattle.spec_plan.specs.PlanRuns.{IsFirst, IsStep, Lead, Trial}
use Rattle.spec_plan.specs.Settling.{AreRaises}
use Rattle.plan_search.proofs.PartRows.{OfRows, expanded_of, goals_of, raised_of}

module _ (R : ℕ → Type 0) (world : World) (goals : AllByRecursion R world.goals) (needs : (n : ℕ) → AllByRecursion R (needs_of world.rows n))
    (templates : (k : ℕ) (f : Forest) (t : Template) → slice_get (untried world.rows k f) 0 ≡ Some t → R t.row)
  where
    pub first_rows : (first : Forest) → IsFirst world first → OfRows R first
    first_rows first is = subst (OfRows R) (sym is.is) (goals_of R is.root is.keys world.goals goals)

    raises_rows : (n sequence : ℕ) (f after : Forest) → OfRows R f → AreRaises world.rows sequence n f after → OfRows R after
    raises_rows zero sequence f after own raises = subst (OfRows R) raises own
    raises_rows (suc n) sequence f after own (pair, next, conflict, is, raises) = raises_rows n sequence next after (raised_of R sequence f next own is) raises

    step_rows : (limits : Limits) (t : Trial) (s : Step) (next : Forest) → OfRows R t.tree → IsStep world limits t s next → OfRows R next
    step_rows limits t s next own is =
        let grown : OfRows R is.grown = subst (OfRows R) (sym is.grows.is)
        (expanded_of R world.rows is.grows.keys is.place.key is.template.row t.tree (needs is.template.row) (templates is.place.key t.tree is.template is.grows.untried) own) in
        raises_rows s.raises is.sequence is.grown next grown is.settles.raised

    pub lead_rows : (limits : Limits) (trials : List Trial) (steps : List Step) (added : ℕ) (f after : Forest) → OfRows R f → Lead world limits added f trials steps after → OfRows R after
    lead_rows limits [] [] added f after own lead = subst (OfRows R) lead own
    lead_rows limits (t ∷ trials) (s ∷ steps) added f after own lead =
        let next = lead.3 in
        lead_rows limits trials steps (added + 1) next.0 after (step_rows limits t s next.0 (subst (OfRows R) (sym lead.0) own) next.1) next.2
    lead_rows limits [] (s ∷ steps) added f after own lead = absurd lead
    lead_rows limits (t ∷ trials) [] added f after own lead = absurd lead
