use Rattle.std.proofs.Common.{◌≡◌, ◌+◌, ◌-◌, ◌≤◌, drop, length, nat_eq}
use Rattle.std.specs.List.{common_prefix_len}
use Rattle.tree_mock.proofs.patterns.matching.alike.Given as goal

abbrev pub invariant-loop-count : goal.invariant-loop-count
invariant-loop-count l = record {
  text : l.count ≤ length l.text;
  other : l.count ≤ length l.other;
  sum : l.count + common_prefix_len nat_eq (drop l.count l.text) (drop l.count l.other) ≡ common_prefix_len nat_eq l.text l.other;
}

abbrev pub decreases-loop-count : goal.decreases-loop-count
decreases-loop-count l = length l.text - l.count
