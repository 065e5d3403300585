use Rattle.std.proofs.Common.{◌≡◌, map, take}
use Rattle.std.specs.List.{flat_map}
use Rattle.spec_tree.specs.PrintedTree.{printed, with_trees}
use Rattle.text_lines.specs.Trees.{written}
use Rattle.text_lines.proofs.tree.+add_opened.Given as goal

abbrev pub invariant-loop-child : goal.invariant-loop-child
invariant-loop-child l =
    map written l.trees.items ≡ with_trees (map written l.initial.trees.items) (flat_map (λ c. (printed c).opened) (take l.child-index l.child-items))
