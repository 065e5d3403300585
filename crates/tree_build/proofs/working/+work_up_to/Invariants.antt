use Rattle.std.proofs.Common.{◌≡◌, ◌+◌, ◌≤◌, drop, map, min, sum, take}
use Rattle.spec_tree.specs.Terms.{work_of}
use Rattle.tree_build.proofs.WorkLimits.{first_work}
use Rattle.tree_build.proofs.working.+work_up_to.Given as goal

abbrev pub invariant-loop-child : goal.invariant-loop-child
invariant-loop-child l = record {
  small : l.below ≤ l.most;
  value : min l.most (l.below + sum (map work_of (drop l.child-index l.child-items))) ≡ min l.most (sum (map work_of l.child-items));
  first : l.first ≡ first_work l.most (take l.child-index l.child-items);
}
