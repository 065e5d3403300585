use Rattle.host_session.specs.Five.{states_of}
use Rattle.host_session.proofs.Events.{given_runs, given_world}
use Rattle.host_session.proofs.session.Session.tell_misuse.Goals as goal

pub event_fits-requires : goal.event_fits-requires
event_fits-requires g c =
    let s = c.self.inside in
    let seen = c.args.self.now in (
      given_world g.of s seen c.self.view_is c.self.invariant c.requires.0,
      (states_of s.five, given_runs g.of s seen c.self.view_is c.self.invariant c.requires.0 c.requires.1.0),
    )
