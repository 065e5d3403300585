use Rattle.test_plans.specs.Stages.{IsPlan}
use Rattle.test_plans.proofs.steps.grown.Given as goal

abbrev pub invariant-loop-step : goal.invariant-loop-step
invariant-loop-step l = IsPlan l.world l.growing.tree l.growing.added
