use Rattle.std.proofs.Common.{◌<◌, ◌≤◌, length, sym, ◌∙◌, arith}
use Rattle.run_arena.specs.Rosters.{instances_of}
use Rattle.run_nodes.proofs.AboutHalting.Leaving.{all_free, drivers_more, length_more, lets_same, marks_more, nothing_held, notes_more, rest_more, room_here, room_more}
use Rattle.run_nodes.proofs.AboutHalting.Marks.{as_many_marks}
use Rattle.run_nodes.proofs.halting.quenching.quench_nodes.Goals as goal

pub quench_leaf-requires-clause-room : goal.quench_leaf-requires-clause-room
quench_leaf-requires-clause-room g c = λ held.
    room_here c.args.nodes.now c.loop-uid.kept _ c.loop-uid.uid _ c.loop-uid-test.true c.loop-uid.invariant.marks c.loop-uid.invariant.room held

pub loop-uid-preserved : goal.loop-uid-preserved
loop-uid-preserved g c =
    let nodes = c.args.nodes.now in
    let uid = c.loop-uid.uid in
    let i = c.loop-uid.invariant in
    let within : uid < length c.loop-uid.kept = omega (arith, c.loop-uid-test.true, as_many_marks nodes c.loop-uid.kept _ i.marks) in
    record {
      rest = λ p low. rw c.keep.ensures (rest_more c.loop-uid.kept uid within i.rest p low);
      marks = rw c.keep.ensures (marks_more c.args.runner nodes c.loop-uid.kept _ _ uid c.loop-uid-test.true i.marks c.quench_leaf.ensures.instances);
      leaves = c.quench_leaf.ensures.leaves;
      drivers = drivers_more c.args.runner nodes c.loop-uid.kept _ _ uid c.loop-uid-test.true i.marks c.quench_leaf.ensures.instances c.quench_leaf.ensures.drivers ∙ i.drivers;
      instances = lets_same c.args.runner nodes c.loop-uid.kept _ _ uid c.loop-uid-test.true i.marks c.quench_leaf.ensures.instances ∙ i.instances;
      notes = notes_more c.args.runner nodes c.loop-uid.kept _ _ uid c.loop-uid-test.true i.marks c.quench_leaf.ensures.instances _ _ c.quench_leaf.ensures.notes ∙ i.notes;
      reserve = omega (arith, i.reserve, c.quench_leaf.ensures.reserve, length_more c.args.runner nodes c.loop-uid.kept _ _ uid c.loop-uid-test.true i.marks c.quench_leaf.ensures.instances);
      room = room_more c.args.runner nodes c.loop-uid.kept _ _ uid c.loop-uid-test.true i.marks c.quench_leaf.ensures.instances _ _ i.room c.quench_leaf.ensures.reserve;
      full = c.quench_leaf.ensures.full ∙ i.full;
    }

pub returns-clause-instances : goal.returns-clause-instances
returns-clause-instances g c =
    let i = c.loop-uid.invariant in
    let over : length c.loop-uid.kept ≤ c.loop-uid.uid = omega (arith, c.loop-uid-test.false, as_many_marks c.args.nodes.now c.loop-uid.kept _ i.marks) in
    sym (all_free (instances_of c.args.nodes.now (g.D.Drivers.states c.loop-uid.drivers)) (nothing_held c.args.nodes.now c.loop-uid.kept _ c.loop-uid.uid over i.marks i.rest)) ∙ i.instances
