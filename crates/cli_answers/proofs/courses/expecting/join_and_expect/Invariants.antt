use Rattle.cli_answers.proofs.courses.expecting.join_and_expect.Given as goal

abbrev pub ghost-joined_runs : goal.ghost-joined_runs
ghost-joined_runs g a = g.of

abbrev pub ghost-run_watched : goal.ghost-run_watched
ghost-run_watched g a = record { of = g.of; expected = a.expected }
