use Rattle.host_session.specs.Sittings.{setup_of}
use Rattle.host_session.proofs.session.Session.what_misuse.Given as goal

abbrev pub ghost-tell_misuse : goal.ghost-tell_misuse
ghost-tell_misuse a = setup_of a.self.now
