use Rattle.std.proofs.Common.{◌≡◌, ◌≤◌, ◌-◌, ℕ, get_or, length}
use Rattle.tree_mock.specs.Ends.{last, mark_of}
use Rattle.tree_mock.proofs.patterns.ends.marks_of.Given as goal

abbrev pub invariant-loop-len : goal.invariant-loop-len
invariant-loop-len l = record {
  few : l.len ≤ 16;
  within : l.len ≤ length l.path;
  room : length l.marks ≡ 17;
  marks : (count : ℕ) → count ≤ l.len → get_or l.marks count 0 ≡ mark_of (last count l.path);
}

abbrev pub decreases-loop-len : goal.decreases-loop-len
decreases-loop-len l = 16 - l.len
