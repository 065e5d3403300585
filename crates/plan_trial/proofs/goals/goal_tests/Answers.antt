use Rattle.std.proofs.Common.{List, Some, length, map, ap, sym, ◌∙◌, subst}
use Rattle.spec_plan.specs.declared.domain.Test.{Test}
use Rattle.plan_trial.specs.Tasks.{HaveFacts}
use Rattle.plan_trial.proofs.Wanted.{fact_within, have_more, tests_more}
use Rattle.plan_trial.proofs.goals.goal_tests.Goals as goal

pub loop-goal-preserved : goal.loop-goal-preserved
loop-goal-preserved c =
    let i = c.loop-goal.goal-index in
    let goals = c.list-goal-items.result.now in
    let before = c.loop-goal.tests.items in
    let test = c.in-Some.test in
    record {
      are = ap (λ (l : List Test). map (λ (t : Test). Some t) l) c.in_ok-push-in-Some.ensures.items
          ∙ tests_more c.args.world.now.rows before goals i 0 test c.loop-goal-test.true c.loop-goal.invariant.are (sym c.in-Some.ensures);
      facts = subst (HaveFacts (length c.args.world.now.facts)) (sym c.in_ok-push-in-Some.ensures.items)
          (have_more (length c.args.world.now.facts) before test c.loop-goal.invariant.facts
          (fact_within c.args.world.now c.requires goals c.list-goal-items.ensures i 0 c.loop-goal-test.true test (sym c.in-Some.ensures)));
    }
