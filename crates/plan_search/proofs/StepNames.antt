-- The steps of a plan run name rows.
use Rattle.std.proofs.Common.{ℕ, ◌+◌, List, [], ◌∷◌, ap, ◌∙◌}
use Rattle.std.specs.List.{AllByRecursion, list_all}
use Rattle.spec_script.specs.Identifiers.{is_identifier_continue}
use Rattle.spec_world.specs.declared.world.World.{World}
use Rattle.spec_world.specs.Worlds.{IsValidWorld}
use Rattle.spec_plan.specs.declared.ending.Limits.{Limits}
use Rattle.spec_plan.specs.declared.ending.PlanEnd.{PlanEnd}
use Rattle.spec_plan.specs.declared.ending.Step.{Step}
use Rattle.spec_plan.specs.Forests.{Forest}
use Rattle.spec_plan.specs.PlanRuns.{IsStep, Lead, PlanRun, Trial}
use Rattle.plan_search.specs.Joining.{IsNamedPlainly}
use Rattle.plan_search.proofs.RowsThere.{id_plain}

module _ (world : World) (valid : IsValidWorld world) (limits : Limits) where
  step_plain : (t : Trial) (s : Step) (next : Forest) → IsStep world limits t s next → IsNamedPlainly s
  step_plain t s next is = record {
    condition = ap (list_all is_identifier_continue) is.condition ∙ id_plain world valid is.place.row;
    action = ap (list_all is_identifier_continue) is.action ∙ id_plain world valid is.template.row;
  }

  steps_plain : (trials : List Trial) (steps : List Step) (added : ℕ) (f after : Forest) → Lead world limits added f trials steps after → AllByRecursion IsNamedPlainly steps
  steps_plain [] [] added f after lead = tt
  steps_plain (t ∷ trials) (s ∷ steps) added f after lead = let next = lead.3 in (step_plain t s next.0 next.1, steps_plain trials steps (added + 1) next.0 after next.2)
  steps_plain [] (s ∷ steps) added f after lead = absurd lead
  steps_plain (t ∷ trials) [] added f after lead = absurd lead

  -- .. by letters, digits and `_` alone
  pub named_plainly : (planned : PlanEnd) (trials : List Trial) (last : Trial) → PlanRun world limits planned trials last → AllByRecursion IsNamedPlainly planned.steps
  named_plainly planned trials last run = steps_plain trials planned.steps 0 run.first last.tree run.lead
