use Rattle.std.proofs.Common.{◌≡◌, drop, map}
use Rattle.std.specs.List.{flat_map}
use Rattle.spec_exclusive.specs.Pairs.{is_listed}
use Rattle.spec_tree.specs.Terms.{leaf_ids}
use Rattle.tree_exclusive.proofs.leaves.+has_leaf.Given as goal

-- a leaf of the children that are left has the ID where one of the term has it
abbrev pub invariant-loop-child : goal.invariant-loop-child
invariant-loop-child l = is_listed (flat_map (λ ids. ids) (map leaf_ids (drop l.child-index l.child-items))) l.id ≡ is_listed (leaf_ids l.term) l.id
