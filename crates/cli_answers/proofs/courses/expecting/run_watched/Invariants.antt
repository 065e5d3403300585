use Rattle.cli_answers.proofs.courses.expecting.run_watched.Given as goal

abbrev pub ghost-run_expected : goal.ghost-run_expected
ghost-run_expected g a = g.wanted
