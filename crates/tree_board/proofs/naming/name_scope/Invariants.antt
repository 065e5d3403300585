use Rattle.std.proofs.Common.{◌≡◌, ◌++◌, take}
use Rattle.tree_board.specs.Namings.{names_here}
use Rattle.tree_board.proofs.naming.name_scope.Given as goal

abbrev pub invariant-loop-key : goal.invariant-loop-key
invariant-loop-key l = l.namings ≡ l.initial.namings ++ names_here l.scope (take l.key-index l.key-items)
