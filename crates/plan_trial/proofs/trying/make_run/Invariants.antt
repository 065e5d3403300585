use Rattle.spec_plan.specs.Modelled.{modelled}
use Rattle.plan_trial.proofs.trying.make_run.Given as goal

abbrev pub ghost-leaves : goal.ghost-leaves
ghost-leaves g a = record { tree = g.of.tree; world = modelled g.of.world }

abbrev pub ghost-make_ticks : goal.ghost-make_ticks
ghost-make_ticks g a = g.of

abbrev pub ghost-run_finish : goal.ghost-run_finish
ghost-run_finish g a = record { tree = g.of.tree; world = modelled g.of.world }
