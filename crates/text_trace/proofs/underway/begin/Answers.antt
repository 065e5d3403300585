use Rattle.std.proofs.Common.{arith}
use Rattle.base_tables.proofs.Runnable.{runnable_world}
use Rattle.run_loop.proofs.FewLeaves.{leaves_are_few}
use Rattle.text_trace.proofs.underway.begin.Goals as goal

pub leaves-requires : goal.leaves-requires
leaves-requires g c =
    let r = c.requires in
    (r.1.is_runnable, (runnable_world g.of.world r.1.is_valid_world, (r.0, r.1.are)))

pub overflow_cast-leaves : goal.overflow_cast-leaves
overflow_cast-leaves g c =
    let r = c.requires in
    omega (arith, c.leaves.ensures, leaves_are_few g.of.tree g.of.world c.args.runs.facts _ c.args.runs.runners.items r.1.is_runnable (runnable_world g.of.world r.1.is_valid_world) r.1.are.fit)
