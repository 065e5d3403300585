use Rattle.run_loop.proofs.events.run_finish.Goals as goal

pub finish_runner-requires-clause-runs : goal.finish_runner-requires-clause-runs
finish_runner-requires-clause-runs g c =
    let r = c.requires.1 in
    (g.of, r.0, r.1.1.0)

pub finish_runner-requires-clause-room : goal.finish_runner-requires-clause-room
finish_runner-requires-clause-room g c = c.requires.1.1.1.1

pub returns : goal.returns
returns g c =
    let r = c.requires.1 in
    c.finish_runner.ensures g.of r.0 r.1.1.0
