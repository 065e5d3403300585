use Rattle.spec_plan.specs.Modelled.{modelled}
use Rattle.plan_trial.proofs.ticking.make_tick.Given as goal

abbrev pub ghost-run_event : goal.ghost-run_event
ghost-run_event g a = record { tree = g.of.tree; world = modelled g.of.world }
