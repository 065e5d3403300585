use Rattle.std.proofs.Common.{◌≡◌, map, take}
use Rattle.std.specs.Cmp.Lexicographic.{slice_cmp}
use Rattle.std.specs.Ordering.{nat_cmp}
use Rattle.tree_board.specs.Rows.{first_by}
use Rattle.tree_board.proofs.slots.ranks_of.Given as goal

abbrev pub invariant-loop-key : goal.invariant-loop-key
invariant-loop-key l = l.ranks.items ≡ map (first_by (slice_cmp nat_cmp) l.ordered) (take l.key-index l.keys)
