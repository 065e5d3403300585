use Rattle.std.proofs.Common.{◌≡◌, ℕ, ◌<◌, ◌≤◌, ◌+◌, ◌*◌, length, get_or, drop, ap, List, arith}
use Rattle.std.proofs.lemmas.Grind.{common_steps}
use Rattle.std.proofs.lemmas.List.{drop_more}
use Rattle.spec_script.specs.Tokens.{read_on, digit_value}
use Rattle.script_reader.proofs.Lexing.{le-read_on}
use Rattle.script_reader.proofs.lexer.number.Goals as goal

pub returns-then-next : goal.returns-then-next
returns-then-next c =
    let i = c.digits.c-index in
    let ds = c.args.digits.now in
    let base = c.args.base in
    let within : i < length ds = omega arith in
    let e : read_on base c.digits.n (drop i ds) ≡ read_on base (c.digits.n * base + digit_value (get_or ds i 0)) (drop (i + 1) ds) = ap (λ (xs : List ℕ). read_on base c.digits.n xs) (drop_more ds i 0 within) in
    let h = le-read_on base (c.digits.n * base + digit_value (get_or ds i 0)) (drop (i + 1) ds) c.requires.0 in
    let next : 9223372036854775807 < c.digits.n * base + digit_value (get_or ds i 0) = grind (arith, common_steps) in
    let big : 9223372036854775808 ≤ read_on base 0 ds = omega (arith, e, h, next, c.digits.invariant.value) in
    grind (arith, common_steps)
