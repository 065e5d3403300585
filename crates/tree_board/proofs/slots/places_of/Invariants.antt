use Rattle.std.proofs.Common.{◌≡◌, map, take}
use Rattle.tree_board.specs.declared.rows.Row.{Row}
use Rattle.tree_board.specs.Slots.{ranked}
use Rattle.tree_board.proofs.slots.places_of.Given as goal

abbrev pub invariant-loop-row : goal.invariant-loop-row
invariant-loop-row l = l.places.items ≡ map (λ (row : Row). ranked l.ranks row.cell) (take l.row-index l.rows)
