use Rattle.std.proofs.Common.{arith}
use Rattle.run_tick.proofs.Moving.{as_many_kept, node_there}
use Rattle.run_tick.proofs.enter.enter.Goals as goal

pub bounds : goal.bounds
bounds g c =
    let (term, view, can) = c.requires.can in
    omega (arith, node_there can.fits, as_many_kept can.fits)
