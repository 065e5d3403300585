use Rattle.std.proofs.Common.{◌≡◌, ◌<◌, drop}
use Rattle.spec_script.specs.Tokens.{read_on}
use Rattle.script_reader.proofs.lexer.number.Given as goal

abbrev pub invariant-digits : goal.invariant-digits
invariant-digits l = record {
  value : read_on l.base l.n (drop l.c-index l.digits) ≡ read_on l.base 0 l.digits;
  small : l.n < 9223372036854775808;
}
