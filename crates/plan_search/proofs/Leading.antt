-- One trial and step more.
use Rattle.std.proofs.Common.{◌≡◌, ℕ, ◌+◌, ◌<◌, List, [], ◌∷◌, ◌++◌, length, refl, sym, ◌∙◌, arith}
use Rattle.spec_world.specs.declared.world.World.{World}
use Rattle.spec_plan.specs.Forests.{Forest}
use Rattle.spec_plan.specs.declared.ending.Limits.{Limits}
use Rattle.spec_plan.specs.declared.ending.Step.{Step}
use Rattle.spec_plan.specs.PlanRuns.{IsStep, IsTried, Lead, Trial}

module _ (world : World) (limits : Limits) where
  pub lead_on : (added : ℕ) (tree : Forest) (trials : List Trial) (steps : List Step) (mid : Forest) (t : Trial) (s : Step) (after : Forest) → Lead world limits added tree trials steps mid →
      t.tree ≡ mid → IsTried world limits t → added + length steps < limits.expand → IsStep world limits t s after → Lead world limits added tree (trials ++ t ∷ []) (steps ++ s ∷ []) after
  lead_on added tree [] [] mid t s after lead same tried few step =
      let end : after ≡ after = refl in
      (same ∙ sym lead, tried, omega (arith, few), (after, step, end))
  lead_on added tree (u ∷ trials) (r ∷ steps) mid t s after (first, own, room, (next, is, rest)) same tried few step =
      (first, own, room, (next, is, lead_on (added + 1) next trials steps mid t s after rest same tried (omega (arith, few)) step))
  lead_on added tree [] (r ∷ steps) mid t s after lead same tried few step = absurd lead
  lead_on added tree (u ∷ trials) [] mid t s after lead same tried few step = absurd lead
