use Rattle.run_loop.proofs.Messages.{can_hear_event}
use Rattle.run_loop.proofs.events.handle_event.Goals as goal

pub hear-requires-clause-runs : goal.hear-requires-clause-runs
hear-requires-clause-runs g c =
    let r = c.requires.runs in
    (r.0, can_hear_event r.0 (g.D.Drivers.states c.args.drivers.now) c.args.runs.now c.args.event c.in-Tell.runner c.in-Tell.uid c.in-Tell.telling c.in-Tell.is r.1 r.2)

pub returns-in-Tell : goal.returns-in-Tell
returns-in-Tell g c = λ of are can.
    rw c.in-Tell.is (c.hear.ensures of (can_hear_event of (g.D.Drivers.states c.args.drivers.now) c.args.runs.now c.args.event c.in-Tell.runner c.in-Tell.uid c.in-Tell.telling c.in-Tell.is are can))
