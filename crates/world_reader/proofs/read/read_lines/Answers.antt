use Rattle.std.proofs.Common.{◌<◌, length, arith}
use Rattle.world_reader.proofs.Onward.{goes_on}
use Rattle.world_reader.proofs.read.read_lines.Goals as goal

pub loop-text-preserved : goal.loop-text-preserved
loop-text-preserved c =
    let within : c.loop-text.text-index < length c.args.lines.now = omega arith in
    record {
      line = omega arith;
      said = λ said rest. c.loop-text.invariant.said said
          (goes_on (λ text. text.now) _ c.args.lines.now c.loop-text.text-index c.loop-text.reading within c.read_text.new.reading said c.in_default.ensures rest);
    }
