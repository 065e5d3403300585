use Rattle.std.proofs.Common.{◌≡◌, ◌≤◌, length}
use Rattle.tree_elements.specs.Reading.{following_first}
use Rattle.tree_elements.proofs.scan.ending_at.Given as goal

abbrev pub invariant-body : goal.invariant-body
invariant-body l = record {
  read : following_first l.ending l.rest ≡ following_first l.ending l.bytes;
  within : length l.rest ≤ length l.bytes;
}

abbrev pub decreases-body : goal.decreases-body
decreases-body l = length l.rest
