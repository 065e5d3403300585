use Rattle.run_loop.proofs.events.run_event.Goals as goal

pub handle_event-requires-clause-runs : goal.handle_event-requires-clause-runs
handle_event-requires-clause-runs g c = (g.of, c.requires.1.0, c.requires.1.1.0)

pub handle_event-requires-clause-room : goal.handle_event-requires-clause-room
handle_event-requires-clause-room g c = c.requires.1.1.1

pub returns : goal.returns
returns g c = c.handle_event.ensures g.of c.requires.1.0 c.requires.1.1.0
