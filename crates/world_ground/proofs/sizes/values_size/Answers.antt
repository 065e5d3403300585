use Rattle.std.proofs.Common.{◌≡◌, ◌+◌, ◌<◌, length, get_or, ap, ◌∙◌, arith}
use Rattle.spec_world_file.specs.Blocks.{standing}
use Rattle.world_ground.proofs.Bounds.{name_at, short_standing, values_step}
use Rattle.world_ground.proofs.sizes.values_size.Goals as goal

pub overflow_add-size : goal.overflow_add-size
overflow_add-size c =
    let i = c.loop-i.i in
    let d = c.index-values-i.result in
    let within : i < length c.args.values.now = omega arith in
    let few = c.requires.few in
    let small = c.loop-i.invariant.small in
    let is : c.standing_size-size.result ≡ length (standing c.args.mark (get_or c.args.values.now i d) (i + 1)) =
    c.standing_size-size.ensures ∙ ap (λ v. length (standing c.args.mark v (i + 1))) (c.list.ensures.bytes ∙ c.index-values-i.is) in
    let short = short_standing c.args.mark (get_or c.args.values.now i d) (i + 1) (name_at c.args.values.now i d c.requires.names within) (omega arith) in
    omega arith

pub loop-i-preserved : goal.loop-i-preserved
loop-i-preserved c =
    let i = c.loop-i.i in
    let d = c.index-values-i.result in
    let within : i < length c.args.values.now = omega arith in
    let few = c.requires.few in
    let is : c.standing_size-size.result ≡ length (standing c.args.mark (get_or c.args.values.now i d) (i + 1)) =
    c.standing_size-size.ensures ∙ ap (λ v. length (standing c.args.mark v (i + 1))) (c.list.ensures.bytes ∙ c.index-values-i.is) in
    let short = short_standing c.args.mark (get_or c.args.values.now i d) (i + 1) (name_at c.args.values.now i d c.requires.names within) (omega arith) in
    let step = values_step c.args.mark c.args.values.now i d within in
    let counted = c.loop-i.invariant.counted in
    let small = c.loop-i.invariant.small in
    record { counted = omega arith; small = omega arith }
