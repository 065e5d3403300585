use Rattle.std.proofs.Common.{◌≡◌, [], drop}
use Rattle.tree_build.specs.ReadSteps.{with_trees}
use Rattle.tree_build.specs.Seen.{trees_seen}
use Rattle.tree_build.proofs.trees.trees_of.Given as goal

abbrev pub invariant-loop-element : goal.invariant-loop-element
invariant-loop-element l = with_trees (trees_seen l.trees.entries) (drop l.element-index l.elements) ≡ with_trees [] l.elements
