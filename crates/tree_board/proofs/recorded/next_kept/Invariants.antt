use Rattle.std.proofs.Common.{◌≡◌, ◌≤◌, ◌<◌, ◌-◌, ℕ, None, get_or, length}
use Rattle.tree_board.proofs.recorded.next_kept.Given as goal

-- nothing is kept of the slots that were passed over
abbrev pub invariant-loop-slot : goal.invariant-loop-slot
invariant-loop-slot l = record {
  later : l.from ≤ l.slot;
  last : l.slot ≤ length l.before;
  between : (slot : ℕ) → l.from ≤ slot → slot < l.slot → get_or l.before slot None ≡ None;
}

abbrev pub decreases-loop-slot : goal.decreases-loop-slot
decreases-loop-slot l = length l.before - l.slot
