use Rattle.std.proofs.Common.{◌≡◌, map, take}
use Rattle.tree_board.specs.Slots.{entry_by}
use Rattle.tree_board.proofs.slots.entries_of.Given as goal

abbrev pub invariant-loop-row : goal.invariant-loop-row
invariant-loop-row l = l.entries.items ≡ map (entry_by l.ranks l.places) (take l.row-index l.rows)
