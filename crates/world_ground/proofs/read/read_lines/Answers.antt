use Rattle.std.proofs.Common.{◌<◌, length, arith}
use Rattle.world_ground.proofs.Following.{fails, goes}
use Rattle.world_ground.proofs.read.read_lines.Goals as goal

pub returns-in-Err : goal.returns-in-Err
returns-in-Err c =
    let within : c.loop-text.text-index < length c.args.lines.now = omega arith in
    fails (λ text. text.now) _ c.args.lines.now c.loop-text.text-index c.loop-text.line c.loop-text.reading within c.loop-text.invariant.line (Unit {0}) c.in-Err.stop c.read_line.new.reading _ _ c.in-Err.ensures c.loop-text.invariant.said

pub loop-text-preserved : goal.loop-text-preserved
loop-text-preserved c =
    let within : c.loop-text.text-index < length c.args.lines.now = omega arith in
    record {
      line = omega arith;
      said = goes (λ text. text.now) _ c.args.lines.now c.loop-text.text-index c.loop-text.line c.loop-text.reading within c.loop-text.invariant.line c.read_line.new.reading _ c.in_default.ensures c.loop-text.invariant.said;
    }
