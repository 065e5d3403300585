use Rattle.std.proofs.Common.{◌≡◌, ◌≤◌, drop}
use Rattle.std.specs.Str.Parse.{digits_value, digits_value_after}
use Rattle.tree_elements.proofs.reference.numbered.Given as goal

abbrev pub invariant-digits : goal.invariant-digits
invariant-digits l = record {
  value : digits_value_after l.base l.n (drop l.c-index l.digits) ≡ digits_value l.base l.digits;
  small : l.n ≤ 0x10FFFF;
}
