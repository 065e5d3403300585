use Rattle.std.proofs.Common.{◌++◌, map, drop}
use Rattle.spec_tree.specs.Boards.{Scope}
use Rattle.tree_board.specs.Countings.{cells_left, found_so_far}
use Rattle.tree_board.specs.Namings.{HaveSame}
use Rattle.tree_board.proofs.counting.leave.Given as goal

-- what has been found, and what is still to come, are all
abbrev pub invariant-loop-key : goal.invariant-loop-key
invariant-loop-key l = (outer : Scope) → HaveSame (found_so_far outer l.keys l.cells ++ map (cells_left l.inner outer) (drop l.key-index l.named))
    (found_so_far outer l.initial.keys l.initial.cells ++ map (cells_left l.inner outer) l.named)
