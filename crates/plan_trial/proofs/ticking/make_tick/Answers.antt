use Rattle.std.proofs.Common.{◌∙◌, subst, sym}
use Rattle.std.specs.List.{list_all, list_any}
use Rattle.plan_trial.specs.Roots.{TellRootOnce}
use Rattle.spec_plan.specs.Modelled.{decided, holds, is_failed_root}
use Rattle.plan_trial.proofs.Ticks.{has_ticked, tells_once, tick_stops}
use Rattle.plan_trial.proofs.ticking.make_tick.Goals as goal

pub decide-requires-clause-once : goal.decide-requires-clause-once
decide-requires-clause-once g c =
    subst TellRootOnce (sym c.list-notes.ensures)
    (tells_once g.of c.args.task.now c.requires.1.0 c.args.before _ _ c.args.runs.now c.run_event.new.runs c.run_event.new.block c.requires.1.1.0 c.in_ok-run_event.ensures.step)

pub returns-in_err-run_event-clause-ends : goal.returns-in_err-run_event-clause-ends
returns-in_err-run_event-clause-ends g c =
    tick_stops g.of c.args.task.now c.requires.1.0 c.args.before _ _ c.args.runs.now c.run_event.new.runs c.run_event.new.block c.requires.1.1.0
    c.run_event.result c.from_residual.result c.in_err-run_event.field-0.0 c.in_err-run_event.was c.from_residual.ensures.1 c.run_event.ensures.step

pub returns-clause-ends : goal.returns-clause-ends
returns-clause-ends g c =
    has_ticked g.of c.args.task.now c.requires.1.0 c.args.before _ _ c.args.runs.now c.run_event.new.runs c.run_event.new.block c.requires.1.1.0
    c.in_ok-run_event.ensures.step c.in_ok-run_event.ensures.runs c.decide.result
    (c.decide.ensures ∙ (λ i. decided (list_all (holds c.run_event.new.runs.facts) (c.as_slice.ensures.value i)) (list_any is_failed_root (c.list-notes.ensures i))))
