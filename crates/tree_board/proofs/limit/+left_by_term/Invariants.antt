use Rattle.std.proofs.Common.{◌+◌, ◌≤◌, drop, map, sum}
use Rattle.tree_board.specs.Namings.{name_count}
use Rattle.tree_board.proofs.limit.+left_by_term.Given as goal

abbrev pub invariant-loop-child : goal.invariant-loop-child
invariant-loop-child l = name_count l.term + l.rest ≤ l.left + sum (map name_count (drop l.child-index l.child-items))
