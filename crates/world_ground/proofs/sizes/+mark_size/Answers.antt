use Rattle.std.proofs.Common.{length, length-drop, arith}
use Rattle.world_ground.proofs.Bounds.{few_values, instances_le, mark_le, name_values, product, values_le}
use Rattle.world_ground.proofs.sizes.+mark_size.Goals as goal

pub values_size-requires-clause-few : goal.values_size-requires-clause-few
values_size-requires-clause-few t c = few_values c.args.sorts.now c.requires.sorts c.values_at-values.result.now _ c.values_at-values.ensures

pub values_size-requires-clause-names : goal.values_size-requires-clause-names
values_size-requires-clause-names t c = name_values c.args.sorts.now c.requires.sorts c.values_at-values.result.now _ c.values_at-values.ensures

pub overflow_mul-result : goal.overflow_mul-result
overflow_mul-result t c =
    let few = few_values c.args.sorts.now c.requires.sorts c.values_at-values.result.now _ c.values_at-values.ensures in
    let names = name_values c.args.sorts.now c.requires.sorts c.values_at-values.result.now _ c.values_at-values.ensures in
    let bytes = values_le c.args.mark c.values_at-values.result.now names few c.values_size.result c.values_size.ensures in
    let shorter = length-drop 1 c.args.around.now in
    let depth = c.requires.depth in
    let most = instances_le c.args.sorts.now c.requires.sorts _ (omega arith) c.instances.result c.instances.ensures in
    let both = product c.values_size.result c.instances.result 1024 4096 bytes most in
    omega arith

pub overflow_mul-result-else-variable-block : goal.overflow_mul-result-else-variable-block
overflow_mul-result-else-variable-block t c =
    let few = few_values c.args.sorts.now c.requires.sorts c.values_at-values.result.now _ c.values_at-values.ensures in
    let shorter = length-drop 1 c.args.around.now in
    let depth = c.requires.depth in
    let most = mark_le c.args.sorts.now c.requires.sorts _ (omega arith) c.args.mark c.args.variable c.mark_size.result c.mark_size.ensures in
    let both = product (length c.values_at-values.result.now) c.mark_size.result 16 262144 few most in
    omega arith
