use Rattle.host_session.specs.Sittings.{setup_of}
use Rattle.host_session.proofs.session.Session.own_event.Given as goal

abbrev pub ghost-make : goal.ghost-make
ghost-make a = setup_of a.self.now
