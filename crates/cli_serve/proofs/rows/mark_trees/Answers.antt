use Rattle.cli_serve.specs.Leaves.{after_starts}
use Rattle.spec_serve.specs.Rows.{starts_in}
use Rattle.cli_serve.proofs.Leaves.{tree_more}
use Rattle.cli_serve.proofs.rows.mark_trees.Goals as goal

pub loop-element-preserved : goal.loop-element-preserved
loop-element-preserved c =
    tree_more c.list-element-items.result.now c.loop-element.element-index c.element-item.result c.loop-element.leaves.entries c.mark_tree.new.leaves.entries
    (after_starts (starts_in c.list-element-items.result.now) c.args.leaves.now.entries)
    c.loop-element-test.true c.element-item.is c.mark_tree.ensures c.loop-element.invariant
