use Rattle.std.proofs.Common.{length, length-drop, arith}
use Rattle.world_ground.proofs.Bounds.{few_values, instances_le, product}
use Rattle.world_ground.proofs.sizes.+instances.Goals as goal

pub overflow_mul-result : goal.overflow_mul-result
overflow_mul-result t c =
    let few = few_values c.args.sorts.now c.requires.sorts c.values_at.result.now _ c.values_at.ensures in
    let shorter = length-drop 1 c.args.around.now in
    let depth = c.requires.depth in
    let most = instances_le c.args.sorts.now c.requires.sorts _ (omega arith) c.instances.result c.instances.ensures in
    let both = product (length c.values_at.result.now) c.instances.result 16 4096 few most in
    omega arith
