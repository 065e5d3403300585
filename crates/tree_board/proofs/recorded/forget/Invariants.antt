use Rattle.std.proofs.Common.{◌≡◌, ◌≤◌, ◌<◌, ◌-◌, ℕ, None, get_or, length}
use Rattle.tree_board.proofs.recorded.forget.Given as goal

-- of the slots so far nothing is kept, and of the others what was
abbrev pub invariant-loop-slot : goal.invariant-loop-slot
invariant-loop-slot l = record {
  last : l.slot ≤ length l.before;
  places : length l.before ≡ length l.fn.before;
  none : (slot : ℕ) → slot < l.slot → get_or l.before slot None ≡ None;
  still : (slot : ℕ) → l.slot ≤ slot → get_or l.before slot None ≡ get_or l.fn.before slot None;
}

abbrev pub decreases-loop-slot : goal.decreases-loop-slot
decreases-loop-slot l = length l.before - l.slot
