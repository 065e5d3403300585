use Rattle.cli_answers.proofs.courses.join.join_and_run.Given as goal

abbrev pub ghost-joined_runs : goal.ghost-joined_runs
ghost-joined_runs g a = g.of

abbrev pub ghost-run_events : goal.ghost-run_events
ghost-run_events g a = g.of

abbrev pub ghost-run_rounds : goal.ghost-run_rounds
ghost-run_rounds g a = g.of

abbrev pub ghost-run_summed : goal.ghost-run_summed
ghost-run_summed g a = g.of
