use Rattle.run_tick.proofs.Moving.{node_there}
use Rattle.run_tick.proofs.Questions.{first_there}
use Rattle.run_tick.proofs.asking.asks_first.Goals as goal

pub node-here-requires : goal.node-here-requires
node-here-requires g c = let (term, view, can) = c.requires.can in node_there can.fits

pub node-child-requires : goal.node-child-requires
node-child-requires g c =
    let (term, view, can) = c.requires.can in
    first_there term view _ _ _ can.fits c.node-here.result.now c.node-here.ensures c.in-ReactiveFallback.is
