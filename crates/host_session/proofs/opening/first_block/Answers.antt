use Rattle.std.proofs.Common.{arith}
use Rattle.run_loop.proofs.FewLeaves.{leaves_are_few}
use Rattle.host_session.proofs.opening.first_block.Goals as goal

pub overflow_cast-leaves : goal.overflow_cast-leaves
overflow_cast-leaves g c =
    let r = c.requires.1 in
    omega (arith, c.leaves.ensures, leaves_are_few g.of.tree g.of.world c.args.runs.now.facts r.1.1.0 c.args.runs.now.runners.items r.0 r.1.0 r.1.1.1.fit)
