use Rattle.std.proofs.Common.{refl}
use Rattle.run_loop.proofs.events.stop.Goals as goal

pub quench_all-requires-clause-fit : goal.quench_all-requires-clause-fit
quench_all-requires-clause-fit g c = (c.requires.fit.0, c.args.runs.now.facts, c.requires.fit.1)

pub returns-clause-quenched : goal.returns-clause-quenched
returns-clause-quenched g c = λ of fit.
    let q = c.quench_all.ensures in
    let facts = c.args.runs.now.facts in
    record { state = q.state of facts fit; notes = q.notes of facts fit; drivers = q.drivers of facts fit; facts = refl; last = refl; arenas = q.arenas; boards = q.boards }
