use Rattle.std.proofs.Common.{◌∙◌}
use Rattle.plan_trial.proofs.Ticks.{ended, goes_on, stopped}
use Rattle.plan_trial.proofs.ticking.make_ticks.Goals as goal

pub returns-in_err-verdict-clause-ends : goal.returns-in_err-verdict-clause-ends
returns-in_err-verdict-clause-ends g c =
    stopped g.of c.args.task.now.pace c.args.runs.now (g.D.Drivers.states c.args.drivers.now) c.loop-before.before c.loop-before.runs c.make_tick.new.runs _ _ c.loop-before.invariant.made c.make_tick.ensures.arenas
    c.make_tick.result c.from_residual.result c.in_err-verdict.field-0.0 c.make_tick.new.block c.in_err-verdict.was c.from_residual.ensures.1 c.make_tick.ensures.ends

pub returns-then-is_last-clause-ends : goal.returns-then-is_last-clause-ends
returns-then-is_last-clause-ends g c =
    ended g.of c.args.task.now.pace c.args.runs.now (g.D.Drivers.states c.args.drivers.now) c.loop-before.before c.loop-before.runs c.make_tick.new.runs _ _ c.loop-before.invariant.made c.make_tick.ensures.arenas
    c.in_ok-verdict.verdict c.make_tick.new.block c.in_ok-verdict.ensures.ends (λ on. c.is_last.ensures.last c.if-is_last.true on)

pub loop-before-preserved : goal.loop-before-preserved
loop-before-preserved g c =
    let on = c.is_last.ensures.on c.if-is_last.false in
    record {
      made =
          goes_on g.of c.args.task.now.pace c.args.runs.now (g.D.Drivers.states c.args.drivers.now) c.loop-before.before c.loop-before.runs c.make_tick.new.runs _ _ c.loop-before.invariant.made c.make_tick.ensures.arenas
          c.in_ok-verdict.verdict c.make_tick.new.block c.in_ok-verdict.ensures.ends on.0 on.1 c.make_tick.ensures.roster;
      room = c.make_tick.ensures.room ∙ c.loop-before.invariant.room;
    }
