use Rattle.std.proofs.Common.{map, ap, arith, ◌∙◌}
use Rattle.std.specs.BTreeSet.{insert_key}
use Rattle.spec_tree.specs.Boards.{cell_order}
use Rattle.tree_board.proofs.Counted.{added_beside, among_found}
use Rattle.tree_board.proofs.counting.own.Goals as goal

pub returns-then-len-limit : goal.returns-then-len-limit
returns-then-len-limit c outer keys =
    let is = c.in_ok-insert.ensures.keys ∙ ap (insert_key cell_order c.args.cells.now.keys) c.in_ok-owned.ensures in
    (among_found _ (map outer keys) _ (added_beside _ _ (map outer keys) _ is), omega (arith, c.if-len-limit.true, c.len.ensures.len))

pub returns : goal.returns
returns c outer keys =
    added_beside _ _ (map outer keys) _ (c.in_ok-insert.ensures.keys ∙ ap (insert_key cell_order c.args.cells.now.keys) c.in_ok-owned.ensures)
