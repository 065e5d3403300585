use Rattle.std.proofs.Common.{ap}
use Rattle.run_arena.specs.Noted.{Noted}
use Rattle.run_laws.proofs.Keeping.{term_keeps}
use Rattle.run_tick.proofs.Questions.{asks_stopped, asks_waits}
use Rattle.run_tick.proofs.asking.start_asking.Goals as goal

pub returns-in_err-push-clause-goes : goal.returns-in_err-push-clause-goes
returns-in_err-push-clause-goes g c = λ term view can.
    asks_stopped term_keeps _ _ term view _ _ c.args.stage.now.kept.now c.args.stage.now.kept.now _ _ _ _ _ can c.requires.asks.kind c.requires.rests
    c.from_residual.result c.from_residual.ensures.1 (ap (λ (n : Noted). n.list) c.in_err-push.ensures.err)

pub returns-clause-goes : goal.returns-clause-goes
returns-clause-goes g c = λ term view can.
    asks_waits term_keeps _ _ term view _ _ c.set_status.new.kept _ _ _ _ _ _ can c.requires.asks.kind c.requires.rests
    (ap (λ (n : Noted). n.list) c.in_ok-push.ensures.ok) c.set_status.ensures c.set_memo.ensures
