use Rattle.std.proofs.Common.{◌≡◌, map, take}
use Rattle.tree_board.specs.Rows.{cell_by}
use Rattle.tree_board.proofs.slots.cells_of.Given as goal

abbrev pub invariant-loop-place : goal.invariant-loop-place
invariant-loop-place l = l.cells.items ≡ map (cell_by l.keys) (take l.place-index l.places)
