use Rattle.std.proofs.Common.{◌+◌, drop}
use Rattle.tree_dead.proofs.Marked.{count_more, terms_here}
use Rattle.tree_exclusive.proofs.Listed.{leaves_more}
use Rattle.tree_exclusive.proofs.leaves.+add_leaves.Goals as goal

pub loop-child-preserved : goal.loop-child-preserved
loop-child-preserved t c =
    let items = c.list-child-items.result.now in
    let i = c.loop-child.child-index in
    let here = terms_here items i c.child-item.result c.loop-child-test.true c.child-item.is in
    record {
      uids = leaves_more c.args.ids.now c.args.dead.now _ _ _ c.loop-child.next c.in_ok-next.next c.child-item.result (drop i items) (drop (i + 1) items) here
          c.in_ok-next.ensures.next c.in_ok-next.ensures.uids c.loop-child.invariant.uids;
      next = count_more _ _ _ c.child-item.result (drop i items) (drop (i + 1) items) here c.in_ok-next.ensures.next c.loop-child.invariant.next;
    }
