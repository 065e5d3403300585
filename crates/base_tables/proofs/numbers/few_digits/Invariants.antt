use Rattle.std.proofs.Common.{◌≡◌, ◌≤◌, drop}
use Rattle.std.specs.Str.Parse.{digits_value, digits_value_after}
use Rattle.base_tables.proofs.numbers.few_digits.Given as goal

abbrev pub invariant-digits : goal.invariant-digits
invariant-digits l = record {
  value : digits_value_after 10 l.n (drop l.digit-index l.word) ≡ digits_value 10 l.word;
  small : l.n ≤ 999999999999999999;
}
