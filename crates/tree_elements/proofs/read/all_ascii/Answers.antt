use Rattle.tree_elements.proofs.Ascii.{one_more}
use Rattle.tree_elements.proofs.read.all_ascii.Goals as goal

pub loop-byte-preserved : goal.loop-byte-preserved
loop-byte-preserved c = one_more c.args.bytes.now c.loop-byte.byte-index c.loop-byte.all c.loop-byte.invariant
