use Rattle.host_session.specs.Sittings.{setup_of}
use Rattle.host_session.proofs.session.Session.finish.Given as goal

abbrev pub ghost-make_finish : goal.ghost-make_finish
ghost-make_finish a = setup_of a.self.now
