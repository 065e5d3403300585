use Rattle.std.proofs.Common.{◌≡◌, ◌+◌, ◌++◌, drop, map, sum}
use Rattle.std.specs.List.{flat_map}
use Rattle.spec_exclusive.specs.Pairs.{listed_marks}
use Rattle.spec_tree.specs.Terms.{node_count}
use Rattle.tree_exclusive.specs.Steps.{living_marked}
use Rattle.tree_exclusive.proofs.leaves.+add_leaves.Given as goal

-- the leaves so far, followed by those of the children still to come, are all
abbrev pub invariant-loop-child : goal.invariant-loop-child
invariant-loop-child l = record {
  uids : l.leaves.items ++ living_marked l.dead l.next (flat_map (λ marks. marks) (map (listed_marks l.ids) (drop l.child-index l.child-items)))
      ≡ l.fn.leaves.items ++ living_marked l.dead l.uid (listed_marks l.ids l.term);
  next : l.next + sum (map node_count (drop l.child-index l.child-items)) ≡ l.uid + node_count l.term;
}
