use Rattle.cli_answers.proofs.AboutPlanning.Plans.{plan_printed}
use Rattle.cli_refusals.proofs.Writings.{at_lines}
use Rattle.cli_answers.proofs.planning.plan_lines.print_plan.Goals as goal

pub returns-in-Ok-clause-printed : goal.returns-in-Ok-clause-printed
returns-in-Ok-clause-printed g c = rw c.exit_of.ensures (plan_printed c.args.planned.now _ _ _ _ c.in-Ok.ensures.whole)

pub returns-in-Ok-clause-writes : goal.returns-in-Ok-clause-writes
returns-in-Ok-clause-writes g c = at_lines g.K.Sink.write_gives c.exit_of.result _ _ c.in-Ok.ensures.writes
