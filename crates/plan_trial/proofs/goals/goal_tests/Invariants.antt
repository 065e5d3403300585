use Rattle.std.proofs.Common.{◌≡◌, length, map, take, Some}
use Rattle.spec_plan.specs.declared.domain.Test.{Test}
use Rattle.spec_plan.specs.Achievers.{test_of}
use Rattle.plan_trial.specs.Tasks.{HaveFacts}
use Rattle.plan_trial.proofs.goals.goal_tests.Given as goal

abbrev pub invariant-loop-goal : goal.invariant-loop-goal
invariant-loop-goal l = record {
  are : map (λ (test : Test). Some test) l.tests.items ≡ map (test_of l.world.rows) (take l.goal-index l.goal-items);
  facts : HaveFacts (length l.world.facts) l.tests.items;
}
