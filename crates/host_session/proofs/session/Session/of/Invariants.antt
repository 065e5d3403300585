use Rattle.host_session.proofs.session.Session.of.Given as goal

abbrev pub ghost-join : goal.ghost-join
ghost-join a = record { tree = a.tree; world = a.world }
