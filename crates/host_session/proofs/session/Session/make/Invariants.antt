use Rattle.host_session.proofs.session.Session.make.Given as goal

abbrev pub ghost-make_event : goal.ghost-make_event
ghost-make_event g a = g.of
