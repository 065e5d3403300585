use Rattle.std.proofs.Common.{◌≡◌, drop}
use Rattle.std.specs.List.{flat_map}
use Rattle.spec_tree.specs.Trees.{nodes_of}
use Rattle.cli_serve.specs.Leaves.{own_node, with_node, with_nodes}
use Rattle.cli_serve.specs.Places.{has_model}
use Rattle.cli_serve.proofs.rows.+add_leaves.Given as goal

-- with the nodes of the children that are left, there are all
abbrev pub invariant-loop-child : goal.invariant-loop-child
invariant-loop-child l =
    with_nodes (has_model l.models.entries) (flat_map nodes_of (drop l.child-index l.child-items)) l.leaves.entries
    ≡ with_nodes (has_model l.models.entries) (flat_map nodes_of l.child-items) (with_node (has_model l.models.entries) (own_node l.term) l.fn.leaves.entries)
