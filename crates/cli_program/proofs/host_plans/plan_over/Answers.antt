use Rattle.cli_program.proofs.host_plans.plan_over.Goals as goal

pub returns-clause-roster : goal.returns-clause-roster
returns-clause-roster g c = rw (← c.replace.ensures.value) c.plan-planned.ensures.roster
