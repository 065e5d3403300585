use Rattle.std.proofs.Common.{sym, ◌∙◌}
use Rattle.cli_refusals.specs.Lent.Lent.{seen}
use Rattle.cli_answers.proofs.AboutPlanning.Plans.{all_served, driver_lacks, goal_lacks, goals_none, goals_some, plan_ends, plan_stopped}
use Rattle.cli_answers.proofs.planning.planning.plan_and_print.Goals as goal

pub returns-then-is_empty-clause-ends : goal.returns-then-is_empty-clause-ends
returns-then-is_empty-clause-ends g c =
    goal_lacks c.args.world.now c.args.limits.now _ (goals_none c.args.world.now.goals (rw c.list.ensures at (sym c.is_empty.ensures ∙ c.if-is_empty.true)))

pub returns-in-Some-clause-ends : goal.returns-in-Some-clause-ends
returns-in-Some-clause-ends g c =
    driver_lacks c.args.world.now c.args.limits.now _ c.in-Some.kind (goals_some c.args.world.now.goals (rw c.list.ensures at (sym c.is_empty.ensures ∙ c.if-is_empty.false)))
    (rw c.list-2.ensures at c.in-Some.ensures)

pub plan-requires-clause-served : goal.plan-requires-clause-served
plan-requires-clause-served g c = all_served _ c.args.world.now.rows (rw c.list-2.ensures at c.in_default.ensures)

pub returns-in-Ok-clause-ends : goal.returns-in-Ok-clause-ends
returns-in-Ok-clause-ends g c =
    plan_ends c.args.world.now c.args.limits.now _ _ c.in-Ok.planned c.print_plan-exit.result _ _ (goals_some c.args.world.now.goals (rw c.list.ensures at (sym c.is_empty.ensures ∙ c.if-is_empty.false)))
    (rw c.list-2.ensures at c.in_default.ensures) c.requires.world c.in-Ok.ensures.plan c.in-Ok.ensures.alone c.print_plan-exit.ensures.printed

pub returns-in-Err-clause-ends : goal.returns-in-Err-clause-ends
returns-in-Err-clause-ends g c =
    plan_stopped c.args.world.now c.args.limits.now (seen g.K.Sink.written g.K.Sink.faults g.C.Clock.moments g.D.Drivers.states c.args.outside.now) (g.D.Drivers.states c.plan.new.drivers)
    (goals_some c.args.world.now.goals (rw c.list.ensures at (sym c.is_empty.ensures ∙ c.if-is_empty.false))) (rw c.list-2.ensures at c.in_default.ensures) c.in-Err.ensures.cut
