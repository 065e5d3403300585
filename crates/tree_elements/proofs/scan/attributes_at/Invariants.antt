use Rattle.std.proofs.Common.{◌≡◌, ◌≤◌, ◌++◌, length}
use Rattle.std.specs.Option.{option_map}
use Rattle.std.specs.Str.{IsUtf8}
use Rattle.tree_elements.specs.Reading.{attributes_of}
use Rattle.tree_elements.proofs.scan.attributes_at.Given as goal

abbrev pub invariant-attributes : goal.invariant-attributes
invariant-attributes l = record {
  read : option_map (λ x. (l.attributes.items ++ x.0, x.1)) (attributes_of (length l.rest) l.rest) ≡ attributes_of (length l.bytes) l.bytes;
  within : length l.rest ≤ length l.bytes;
  utf8 : IsUtf8 l.rest;
}

abbrev pub decreases-attributes : goal.decreases-attributes
decreases-attributes l = length l.rest
