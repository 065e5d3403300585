use Rattle.std.proofs.Common.{arith}
use Rattle.spec_output.specs.LoadTexts.{tick_lines}
use Rattle.text_trace.proofs.AboutLoad.Sequences.{next_text}
use Rattle.text_trace.proofs.load.world.put_ticks.Goals as goal

pub loop-n-preserved : goal.loop-n-preserved
loop-n-preserved c =
    next_text tick_lines 0 c.loop-n.n c.loop-n.n c.args.out.now.items c.loop-n.out.items c.put_tick.new.out.items (omega arith) c.loop-n.invariant c.in_ok-put_tick.ensures
