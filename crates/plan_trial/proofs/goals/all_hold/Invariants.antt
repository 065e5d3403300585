use Rattle.std.proofs.Common.{◌≡◌, drop, length}
use Rattle.std.specs.List.{list_all}
use Rattle.spec_plan.specs.Modelled.{holds}
use Rattle.plan_trial.specs.Tasks.{HaveFacts}
use Rattle.plan_trial.proofs.goals.all_hold.Given as goal

abbrev pub invariant-loop-place : goal.invariant-loop-place
invariant-loop-place l = record {
  rest : list_all (holds l.facts) (drop l.place l.tests) ≡ list_all (holds l.facts) l.tests;
  facts : HaveFacts (length l.facts) (drop l.place l.tests);
}
