use Rattle.host_session.proofs.session.Session.make_finish.Given as goal

abbrev pub ghost-finish_runner : goal.ghost-finish_runner
ghost-finish_runner g a = g.of
