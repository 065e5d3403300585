use Rattle.std.proofs.Common.{◌-◌}
use Rattle.tree_mock.specs.Ends.{IsEnd}
use Rattle.tree_mock.proofs.patterns.ends.end_of.Given as goal

abbrev pub invariant-loop-byte : goal.invariant-loop-byte
invariant-loop-byte l = IsEnd l.pattern l.end

abbrev pub decreases-loop-byte : goal.decreases-loop-byte
decreases-loop-byte l = 16 - l.end.len
