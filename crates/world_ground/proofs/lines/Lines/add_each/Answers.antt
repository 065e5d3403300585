use Rattle.std.proofs.Common.{◌<◌, ◌+◌, ◌∙◌, length, ap, arith}
use Rattle.world_ground.specs.Flat.{flat_filled}
use Rattle.world_ground.proofs.Flat.{each_step}
use Rattle.world_ground.proofs.lines.Lines.add_each.Goals as goal

pub loop-i-preserved : goal.loop-i-preserved
loop-i-preserved c =
    let i = c.loop-i.i in
    let value = c.index-values-i.result in
    let within : i < length c.args.values.now = omega arith in
    each_step c.args.variable i c.args.values.now value c.args.lines.now c.loop-i.self c.add_filled.new.self _ within c.index-values-i.is
    (c.in_ok-add_filled.ensures ∙ ap (λ v. flat_filled c.args.variable v (i + 1) c.args.lines.now c.loop-i.self) c.list.ensures.bytes)
    c.loop-i.invariant
