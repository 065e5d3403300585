use Rattle.std.proofs.Common.{length, refl, ap, arith}
use Rattle.run_loop.proofs.FewLeaves.{leaves_are_few}
use Rattle.run_loop.proofs.Growing.{indexed}
use Rattle.run_loop.proofs.Quenched.{room_at}
use Rattle.run_arena.specs.Rosters.{leaves_in}
use Rattle.run_loop.proofs.counts.leaves.Goals as goal

pub leaf_count-requires : goal.leaf_count-requires
leaf_count-requires g c =
    let r = c.requires in
    let items = c.deref-runner-items in
    let place = c.loop-runner.runner-index in
    let at = indexed c.args.runs.now.runners.items items.result.now place c.runner-item.result items.ensures.value (omega (arith, c.loop-runner-test.true, ap (λ xs. length xs) items.ensures.value)) c.runner-item.is in
    omega (arith, (r.1.1.1.fit.each place c.runner-item.result at).nodes, r.0.limits.nodes, ap (λ xs. length xs) c.as_slice.ensures.value)

pub overflow_add-count : goal.overflow_add-count
overflow_add-count g c =
    let r = c.requires in
    let runners = c.args.runs.now.runners.items in
    let items = c.deref-runner-items in
    let place = c.loop-runner.runner-index in
    let at = indexed runners items.result.now place c.runner-item.result items.ensures.value (omega (arith, c.loop-runner-test.true, ap (λ xs. length xs) items.ensures.value)) c.runner-item.is in
    omega (arith, c.loop-runner.invariant, room_at runners runners place c.runner-item.result at refl, c.leaf_count.ensures, ap leaves_in c.as_slice.ensures.value, leaves_are_few g.of.tree g.of.world c.args.runs.now.facts r.1.1.0 runners r.0 r.1.0 r.1.1.1.fit)

pub loop-runner-preserved : goal.loop-runner-preserved
loop-runner-preserved g c =
    let runners = c.args.runs.now.runners.items in
    let items = c.deref-runner-items in
    let place = c.loop-runner.runner-index in
    let at = indexed runners items.result.now place c.runner-item.result items.ensures.value (omega (arith, c.loop-runner-test.true, ap (λ xs. length xs) items.ensures.value)) c.runner-item.is in
    omega (arith, c.loop-runner.invariant, room_at runners runners place c.runner-item.result at refl, c.leaf_count.ensures, ap leaves_in c.as_slice.ensures.value)
