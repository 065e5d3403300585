use Rattle.cli_program.proofs.laws.printed_plans_name_what_failed.Goals as goal

pub returns : goal.returns
returns c = λ world limits drivers output p. c.plans_name_what_failed.ensures world limits p.planned p.run.trials p.run.last p.valid p.run.run
