use Rattle.host_session.proofs.steps.finish_runner.Given as goal

abbrev pub ghost-run_finish : goal.ghost-run_finish
ghost-run_finish g a = g.of
