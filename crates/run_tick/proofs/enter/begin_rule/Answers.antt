use Rattle.std.proofs.Common.{true, refl, sym}
use Rattle.run_arena.specs.Nodes.{node_at}
use Rattle.run_arena.specs.Stages.{state_on}
use Rattle.run_nodes.proofs.Needed.{has_ports}
use Rattle.run_tick.proofs.Entering.{alone_here, begin_less, goes_fault, goes_follow, node_here}
use Rattle.run_tick.proofs.enter.begin_rule.Goals as goal

pub picked-requires : goal.picked-requires
picked-requires g c =
    let (term, view, follow) = c.requires.can in
    has_ports _ view (sym follow.can.fits.slots) _ _ _ (node_here term view _ _ _ follow.can.fits c.node.result.now c.node.ensures)

pub returns-in-Ok-clause-goes : goal.returns-in-Ok-clause-goes
returns-in-Ok-clause-goes g c = λ term view follow.
    goes_follow follow (alone_here follow (node_at c.args.stage.now.nodes.now c.args.uid) refl true (sym c.requires.ruled)) c.args.stage.now.notes.now.list c.in-Ok.picked
    (c.in-Ok.ensures _ view _ (state_on g.D.Drivers.states c.args.stage.now) (node_here term view _ _ _ follow.can.fits c.node.result.now c.node.ensures))

pub returns-in-Ok-clause-work : goal.returns-in-Ok-clause-work
returns-in-Ok-clause-work g c =
    let (term, view, follow) = c.requires.can in
    begin_less follow (alone_here follow (node_at c.args.stage.now.nodes.now c.args.uid) refl true (sym c.requires.ruled)) c.in-Ok.picked
    (c.in-Ok.ensures _ view _ (state_on g.D.Drivers.states c.args.stage.now) (node_here term view _ _ _ follow.can.fits c.node.result.now c.node.ensures))

pub returns-in-Err-clause-goes : goal.returns-in-Err-clause-goes
returns-in-Err-clause-goes g c = λ term view follow.
    goes_fault follow (alone_here follow (node_at c.args.stage.now.nodes.now c.args.uid) refl true (sym c.requires.ruled)) c.args.stage.now.notes.now.list c.in-Err.fault
    (c.in-Err.ensures _ view _ (state_on g.D.Drivers.states c.args.stage.now) (node_here term view _ _ _ follow.can.fits c.node.result.now c.node.ensures))
