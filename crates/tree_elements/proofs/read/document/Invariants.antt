use Rattle.std.proofs.Common.{◌≡◌, ◌≤◌, length}
use Rattle.std.specs.Str.{IsUtf8}
use Rattle.tree_elements.specs.Reading.{read, read_rest, seen}
use Rattle.tree_elements.proofs.read.document.Given as goal

abbrev pub invariant-marks : goal.invariant-marks
invariant-marks l = record {
  read : read_rest (length l.bytes) (seen l.nest) l.rest ≡ read l.bytes;
  within : length l.rest ≤ length l.bytes;
  utf8 : IsUtf8 l.rest;
}

abbrev pub decreases-marks : goal.decreases-marks
decreases-marks l = length l.rest
