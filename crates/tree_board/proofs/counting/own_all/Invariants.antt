use Rattle.std.proofs.Common.{◌++◌, ℕ, List, map, drop}
use Rattle.spec_tree.specs.Boards.{Scope, owner}
use Rattle.tree_board.specs.Countings.{found_so_far}
use Rattle.tree_board.specs.Namings.{HaveSame}
use Rattle.tree_board.proofs.counting.own_all.Given as goal

-- what has been found, and what is still to come, are all
abbrev pub invariant-loop-key : goal.invariant-loop-key
invariant-loop-key l = (outer : Scope) (keys : List (List ℕ)) → HaveSame (found_so_far outer keys l.cells ++ map (owner l.scope) (drop l.key-index l.named))
    (found_so_far outer keys l.initial.cells ++ map (owner l.scope) l.named)
