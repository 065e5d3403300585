use Rattle.std.proofs.Common.{List, length, refl, ap, arith}
use Rattle.run_loop.specs.declared.runs.ReadyRunner.{ReadyRunner}
use Rattle.run_loop.specs.Opening.{IsOpening}
use Rattle.run_loop.proofs.Growing.{indexed, opening_alone, opening_more}
use Rattle.run_loop.proofs.openings.runners_of.Goals as goal

pub loop-before-init : goal.loop-before-init
loop-before-init g c = record {
  many = omega (arith, c.in_ok-push.ensures.len, ap (λ (rs : List ReadyRunner). length rs) c.new-runners.ensures.items);
  runners = opening_alone c.args.tree.now c.args.world.now (g.D.Drivers.states c.args.drivers.now) _ _ _ c.new-runners.ensures.items c.in_ok-first.ensures.runner c.in_ok-push.ensures.items;
  joined = c.in_ok-first.ensures.fault;
}

pub runner_after-requires-clause-first : goal.runner_after-requires-clause-first
runner_after-requires-clause-first g c =
    let l = c.loop-before in
    let there = indexed l.runners.items l.runners.items 0 c.index.result.now refl (omega (arith, l.invariant.many, l.auto.before)) c.index.ensures in
    (c.args.world.now, l.invariant.runners 0 c.index.result.now there)

pub loop-before-preserved : goal.loop-before-preserved
loop-before-preserved g c =
    let l = c.loop-before in
    let tree = c.args.tree.now in
    let world = c.args.world.now in
    let drivers = g.D.Drivers.states c.args.drivers.now in
    let there = indexed l.runners.items l.runners.items 0 c.index.result.now refl (omega (arith, l.invariant.many, l.auto.before)) c.index.ensures in
    let first : IsOpening tree world drivers 1 c.index.result.now = l.invariant.runners 0 c.index.result.now there in
    record {
      many = omega (arith, c.in_ok-push-2.ensures.len, l.invariant.many);
      runners = opening_more tree world drivers l.runners.items c.push-in-loop-before.new.self.items l.before c.in_ok-runner.runner
          l.invariant.runners l.invariant.many (c.in_ok-runner.ensures world first) c.in_ok-push-2.ensures.items;
      joined = l.invariant.joined;
    }
