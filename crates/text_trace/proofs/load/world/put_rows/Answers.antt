use Rattle.std.proofs.Common.{◌+◌, arith}
use Rattle.spec_output.specs.LoadTexts.{row_line}
use Rattle.text_trace.proofs.AboutLoad.Sequences.{next_text}
use Rattle.text_trace.proofs.load.world.put_rows.Goals as goal

pub loop-before-preserved : goal.loop-before-preserved
loop-before-preserved c =
    next_text row_line 1 c.loop-before.before (c.loop-before.before + 1) c.args.out.now.items c.loop-before.out.items c.put_row.new.out.items (omega arith) c.loop-before.invariant c.in_ok-put_row.ensures
