use Rattle.std.proofs.Common.{refl, arith}
use Rattle.run_loop.proofs.Growing.{indexed}
use Rattle.text_trace.proofs.load.nodes.nodes.Goals as goal

pub overflow_sub-result : goal.overflow_sub-result
overflow_sub-result g c =
    let r = c.requires in
    let runners = c.args.runs.now.runners.items in
    let at = indexed runners runners 0 c.index.result.now refl (omega (arith, r.2.fit.many, r.1.some_runner)) c.index.ensures in
    omega (arith, (r.2.fit.each 0 c.index.result.now at).nodes, c.len.ensures)

pub returns : goal.returns
returns g c =
    let r = c.requires in
    let runners = c.args.runs.now.runners.items in
    let at = indexed runners runners 0 c.index.result.now refl (omega (arith, r.2.fit.many, r.1.some_runner)) c.index.ensures in
    omega (arith, (r.2.fit.each 0 c.index.result.now at).nodes, c.len.ensures)
