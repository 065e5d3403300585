use Rattle.std.proofs.Common.{refl, ap}
use Rattle.run_loop.proofs.Endings.{quenched_after, still_fit}
use Rattle.run_loop.proofs.events.end_part.Goals as goal

pub stop-requires-clause-fit : goal.stop-requires-clause-fit
stop-requires-clause-fit g c =
    let fit = c.requires.fit in
    (fit.0, still_fit fit.0.tree fit.0.world (g.D.Drivers.states c.args.drivers.now) c.args.runs.now c.tell.new.runs c.in-Err.ensures.runs fit.1)

pub returns-in-Err-clause-closes : goal.returns-in-Err-clause-closes
returns-in-Err-clause-closes g c = λ of fit number.
    quenched_after of.tree _ _ c.args.runs.now c.stop.new.runs c.tell.new.runs _ _ c.tell.new.block.notes.list c.stop.new.notes.list (ap (λ n. n.list) c.in-Err.ensures.notes) refl c.in-Err.ensures.runs
    (c.stop.ensures.quenched of (still_fit of.tree of.world (g.D.Drivers.states c.args.drivers.now) c.args.runs.now c.tell.new.runs c.in-Err.ensures.runs fit))
