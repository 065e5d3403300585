use Rattle.std.proofs.Common.{◌≡◌, ◌+◌, ◌≤◌, drop, map, min, sum}
use Rattle.spec_tree.specs.Terms.{node_count}
use Rattle.tree_mock.proofs.limits.+nodes_up_to.Given as goal

abbrev pub invariant-loop-child : goal.invariant-loop-child
invariant-loop-child l = record {
  small : l.below ≤ l.most;
  value : min l.most (l.below + sum (map node_count (drop l.child-index l.child-items))) ≡ min l.most (sum (map node_count l.child-items));
}
