use Rattle.std.proofs.Common.{true, refl, rules, ap, sym}
use Rattle.run_arena.specs.Noted.{Noted}
use Rattle.run_arena.specs.Stages.{state_on}
use Rattle.run_laws.proofs.Keeping.{term_keeps}
use Rattle.run_nodes.proofs.Needed.{has_ports}
use Rattle.run_tick.proofs.Entering.{as_node, node_here, start_faults, start_made, starts_here, starts_stopped, stays_twice}
use Rattle.run_tick.proofs.enter.start.Goals as goal

pub returns-in_err-push-clause-starts : goal.returns-in_err-push-clause-starts
returns-in_err-push-clause-starts g c = λ term view can.
    starts_stopped _ _ term view _ _ _ _ c.from_residual.result c.from_residual.ensures.1 (ap (λ (n : Noted). n.list) c.in_err-push.ensures.err)

pub start_memo-requires : goal.start_memo-requires
start_memo-requires g c =
    let (term, view, can) = c.requires.can in
    has_ports _ view (sym can.fits.slots) _ _ _ (node_here term view _ _ _ can.fits c.node.result.now c.node.ensures)

pub returns-in-Ok-clause-starts : goal.returns-in-Ok-clause-starts
returns-in-Ok-clause-starts g c = λ term view can.
    let noted = ap (λ (n : Noted). n.list) c.in_ok-push.ensures.ok in
    start_made term_keeps _ _ term view _ _ _ _ _ _ _ _ can c.requires.rests noted c.set_status.ensures _ c.start_memo.new.memo refl (starts_here can.fits _ refl true (sym c.requires.starts))
    (c.in-Ok.ensures.starts (as_node term) view _ (state_on g.D.Drivers.states c.args.stage.now) (node_here term view _ _ _ can.fits c.node.result.now c.node.ensures))

pub returns-in-Ok-clause-keeps : goal.returns-in-Ok-clause-keeps
returns-in-Ok-clause-keeps g c = record {
  same = search rules;
  beside = search rules;
  stays = stays_twice _ _ _ _ _ _ _ _ c.set_status.ensures c.start_memo.new.memo refl;
}

pub returns-in-Err-clause-starts : goal.returns-in-Err-clause-starts
returns-in-Err-clause-starts g c = λ term view can.
    let noted = ap (λ (n : Noted). n.list) c.in_ok-push.ensures.ok in
    start_faults term_keeps _ _ term view _ _ _ _ _ _ _ _ can c.requires.rests noted c.set_status.ensures _ c.start_memo.new.memo refl c.in-Err.fault
    (c.in-Err.ensures.starts (as_node term) view _ (state_on g.D.Drivers.states c.args.stage.now) (node_here term view _ _ _ can.fits c.node.result.now c.node.ensures))
    c.in-Err.ensures.err

pub returns-in-Err-clause-keeps : goal.returns-in-Err-clause-keeps
returns-in-Err-clause-keeps g c = record {
  same = search rules;
  beside = search rules;
  stays = stays_twice _ _ _ _ _ _ _ _ c.set_status.ensures c.start_memo.new.memo refl;
}
