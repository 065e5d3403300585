use Rattle.std.proofs.Common.{◌≡◌, Bool, true, false, cond, ℤ, Option, Some, None, refl, sym, ◌∙◌, ap, subst}
use Rattle.std.specs.Str.Parse.{signed_digits_value}
use Rattle.spec_tree.specs.Numbers.{is_int, of_64_bits}
use Rattle.world_lines.specs.Ranges.{Passes}
use Rattle.world_lines.proofs.numbers.int.Goals as goal

passes : (t : Bool) (n : ℤ) → is_int n ≡ t → Passes is_int (λ z. z) n (cond t (Some n) None)
passes true n h = (h, refl)
passes false n h = h

pub returns : goal.returns
returns c =
    let n = signed_digits_value 10 c.args.word.now in
    subst (λ (o : Option ℤ). Passes is_int (λ z. z) n o)
    (sym (c.canonical_int.ensures ∙ ap (λ (t : Bool). cond t (of_64_bits n) None) c.requires)) (passes (is_int n) n refl)
