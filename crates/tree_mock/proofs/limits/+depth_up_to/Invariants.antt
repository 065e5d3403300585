use Rattle.std.proofs.Common.{◌≡◌, ◌≤◌, drop, map, max, min}
use Rattle.spec_script.specs.Numbers.{greatest}
use Rattle.spec_tree.specs.Terms.{depth_of}
use Rattle.tree_mock.proofs.limits.+depth_up_to.Given as goal

abbrev pub invariant-loop-child : goal.invariant-loop-child
invariant-loop-child l = record {
  small : l.deepest ≤ l.most;
  value : min l.most (max l.deepest (greatest (map depth_of (drop l.child-index l.child-items)))) ≡ min l.most (greatest (map depth_of l.child-items));
}
