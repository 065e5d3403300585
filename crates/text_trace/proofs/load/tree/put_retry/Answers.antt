use Rattle.text_trace.proofs.AboutLoad.Sequences.{last_of_three}
use Rattle.text_trace.proofs.load.tree.put_retry.Goals as goal

pub returns : goal.returns
returns c = last_of_three c.args.out.now.items c.put_bytes.new.out.items c.put_leaf_id.new.out.items c.put_bytes-2.new.out.items _ _ _ c.put_bytes-2.result c.in_ok-put_bytes.ensures c.in_ok-put_leaf_id.ensures c.put_bytes-2.ensures
