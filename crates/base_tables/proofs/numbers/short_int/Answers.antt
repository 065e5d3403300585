use Rattle.std.proofs.Common.{◌<◌, ◌^◌, ◌∙◌, ℤ, Some, ap, arith}
use Rattle.std.proofs.lemmas.Int.{to_z_pos}
use mir.Syntax.{w64}
use Rattle.base_tables.proofs.Canonical.{few_canonical}
use Rattle.base_tables.proofs.numbers.short_int.Goals as goal

pub returns-in_ok-few_digits : goal.returns-in_ok-few_digits
returns-in_ok-few_digits c =
    let n = c.in_ok-few_digits.field-0 in
    let small = c.in_ok-few_digits.ensures.1 in
    let below : n < 2 ^ 63 = omega (arith, small) in
    ap (λ (z : ℤ). Some z) (to_z_pos w64 n below)
    ∙ few_canonical c.args.word.now n c.requires (c.begins_with_digit.ensures c.if-begins_with_digit.true) c.in_ok-few_digits.ensures.0 small
