use Rattle.host_session.proofs.steps.make_event.Given as goal

abbrev pub ghost-run_event : goal.ghost-run_event
ghost-run_event g a = g.of
