use Rattle.std.proofs.Common.{◌≡◌, take}
use Rattle.tree_board.proofs.numbers.Numbers.in_order.Given as goal

abbrev pub invariant-loop-key : goal.invariant-loop-key
invariant-loop-key l = l.keys.items ≡ take l.key-index l.key-items
