use Rattle.std.proofs.Common.{◌≡◌, drop}
use Rattle.spec_exclusive.specs.Pairs.{missing_leaf}
use Rattle.tree_exclusive.proofs.leaves.missing_leaf.Given as goal

-- the first of those that are left that no leaf has is that of all
abbrev pub invariant-loop-id : goal.invariant-loop-id
invariant-loop-id l = missing_leaf (drop l.id-index l.ids) l.tree ≡ missing_leaf l.ids l.tree
