use Rattle.std.proofs.Common.{arith}
use Rattle.world_ground.proofs.Bounds.{instances_le, line_small, mark_le}
use Rattle.world_ground.proofs.sizes.line_size.Goals as goal

pub overflow_add-size : goal.overflow_add-size
overflow_add-size c =
    let whole = c.bytes.invariant in
    let small = line_small c.args.sorts.now c.args.around.now c.args.text.now c.requires.sorts c.requires.depth c.requires.short in
    let most = mark_le c.args.sorts.now c.requires.sorts c.args.around.now c.requires.depth _ _ c.mark_size-size.result c.mark_size-size.ensures in
    omega arith

pub overflow_add-size-in_default-follow : goal.overflow_add-size-in_default-follow
overflow_add-size-in_default-follow c =
    let whole = c.bytes.invariant in
    let small = line_small c.args.sorts.now c.args.around.now c.args.text.now c.requires.sorts c.requires.depth c.requires.short in
    let most = instances_le c.args.sorts.now c.requires.sorts c.args.around.now c.requires.depth c.instances-each.result c.instances-each.ensures in
    omega arith
