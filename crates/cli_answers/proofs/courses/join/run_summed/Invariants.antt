use Rattle.cli_answers.proofs.courses.join.run_summed.Given as goal

abbrev pub ghost-run_load : goal.ghost-run_load
ghost-run_load g a = g.of
