use Rattle.std.proofs.Common.{◌≡◌, ℕ, ◌<◌, ◌≤◌, ◌+◌, ◌*◌, length, get_or, drop, ap, List, arith, refl}
use Rattle.std.proofs.lemmas.Grind.{common_steps}
use Rattle.std.proofs.lemmas.List.{drop_more}
use Rattle.std.specs.Char.{digit_value}
use Rattle.std.specs.Str.Parse.{digits_value_after, digits_value}
use Rattle.tree_elements.proofs.References.{le-digits_value, large}
use Rattle.tree_elements.proofs.reference.numbered.Goals as goal

pub returns-then-n-gt1114111 : goal.returns-then-n-gt1114111
returns-then-n-gt1114111 c =
    let i = c.digits.c-index in
    let ds = c.args.digits.now in
    let base = c.args.base in
    let more = c.digits.n * base + digit_value (get_or ds i 0) in
    let within : i < length ds = omega arith in
    let some : 1 ≤ base = omega arith in
    let e : digits_value_after base c.digits.n (drop i ds) ≡ digits_value_after base more (drop (i + 1) ds) = ap (λ (xs : List ℕ). digits_value_after base c.digits.n xs) (drop_more ds i 0 within) in
    let h = le-digits_value base more (drop (i + 1) ds) some in
    let next : 0x10FFFF < more = grind (arith, common_steps) in
    let big : 0x10FFFF < digits_value base ds = omega (arith, e, h, next, c.digits.invariant.value) in
    rw (large (digits_value base ds) big) refl
