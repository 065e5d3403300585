use Rattle.spec_tree.specs.Trees.{nodes_of}
use Rattle.std.specs.List.{flat_map}
use Rattle.cli_serve.specs.Leaves.{own_node, with_node, with_nodes}
use Rattle.cli_serve.specs.Places.{has_model}
use Rattle.cli_serve.proofs.Leaves.{all_children, child_more}
use Rattle.cli_serve.proofs.rows.+add_leaves.Goals as goal

pub loop-child-preserved : goal.loop-child-preserved
loop-child-preserved t c =
    let has = has_model c.args.models.now.entries in
    child_more has c.list-child-items.result.now c.loop-child.child-index c.child-item.result c.loop-child.leaves.entries c.add_leaves.new.leaves.entries
    (with_nodes has (flat_map nodes_of c.list-child-items.result.now) (with_node has (own_node c.args.term.now) c.args.leaves.now.entries))
    c.loop-child-test.true c.child-item.is c.in_ok-add_leaves.ensures c.loop-child.invariant

pub returns : goal.returns
returns t c =
    all_children (has_model c.args.models.now.entries) c.list-child-items.result.now c.loop-child.child-index c.args.term.now c.loop-child.leaves.entries c.args.leaves.now.entries
    c.loop-child-test.false c.list-child-items.ensures c.loop-child.invariant
