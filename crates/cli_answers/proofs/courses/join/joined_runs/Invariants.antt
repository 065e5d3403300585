use Rattle.cli_answers.proofs.courses.join.joined_runs.Given as goal

abbrev pub ghost-tellings_fit : goal.ghost-tellings_fit
ghost-tellings_fit g a = g.of
