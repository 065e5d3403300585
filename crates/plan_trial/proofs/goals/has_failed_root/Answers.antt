use Rattle.std.proofs.Common.{◌∙◌, ap, subst, sym}
use Rattle.std.specs.List.{list_any}
use Rattle.plan_trial.specs.Roots.{TellRootOnce, is_root}
use Rattle.spec_plan.specs.Modelled.{is_failed_root}
use Rattle.plan_trial.proofs.RootAnswers.{not_failed, root_decides}
use Rattle.plan_trial.proofs.goals.has_failed_root.Goals as goal

pub returns-in_default-matches : goal.returns-in_default-matches
returns-in_default-matches c =
    let last = c.in-Some.ensures.steps in
    sym
    (sym c.loop-note.invariant.same
    ∙ ap (list_any is_failed_root) last
    ∙ root_decides c.next.new.self.iter.rest.now c.in-Some.note.now (subst TellRootOnce last c.loop-note.invariant.once) (ap is_root c.in-Root.is)
    ∙ ap is_failed_root c.in-Root.is
    ∙ not_failed c.in-Root.runner c.in-Root.answer c.in_default-matches.not-Failure)
