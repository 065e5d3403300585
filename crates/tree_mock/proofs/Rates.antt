-- A text that says a rate is short.
use Rattle.std.proofs.Common.{◌≡◌, ℕ, zero, suc, ◌+◌, ◌-◌, ◌*◌, ◌≤◌, ◌<◌, ◌==◌, ℤ, pos, negsuc, List, [], ◌∷◌, length, take, drop, Bool, true, false, ◌&&◌, cond, nat_le, nat_lt, Option, Some, None, is_some, refl, sym, ap, subst, ◌∙◌, arith, ⊎_elim}
use Rattle.std.proofs.lemmas.Bool.{and_parts, le-ltb, leb-true, lt-ltb, or_cases}
use Rattle.std.proofs.lemmas.Bool.Decides.{nat_tests}
use Rattle.std.proofs.lemmas.List.{length-drop, length-take}
use Rattle.std.proofs.lemmas.Option.{same_Some}
use Rattle.std.proofs.lemmas.Slice.Eq.{bytes_eq-Decides}
use Rattle.std.specs.Prelude.{bytes_eq, codes, neg_ℤ}
use Rattle.std.specs.Char.{digit_value, is_ascii_digit}
use Rattle.std.specs.List.{list_all, position}
use Rattle.std.specs.Str.Parse.{digits_value, digits_value_after, signed_digits_value, without_leading_plus}
use Rattle.spec_script.specs.declared.value.Value.TheVariants.{Text}
use Rattle.spec_tree.specs.BuiltIns.{rate_of, rate_within}
use Rattle.spec_tree.specs.Numbers.{digits_after, is_canonical, is_positive, number_in, thousandths_after, thousandths_at, thousandths_by, without_minus}
use Rattle.base_tables.proofs.Canonical.{unsigned}

-- ---- Digits

-- each digit makes a number greater that is not 0
grows : (n : ℕ) (cs : List ℕ) → 1 ≤ n → length cs + n ≤ digits_value_after 10 n cs
grows n [] some = omega arith
grows n (c ∷ cs) some = omega (arith, some, grows (n * 10 + digit_value c) cs (omega (arith, some)))

above_zero : (c : ℕ) → 48 < c → c < 58 → 1 ≤ digit_value c
above_zero c low high =
    let later : ℕ = cond (nat_lt c 65) 36 (cond (nat_lt c 91) (c - 55) (cond (nat_lt c 97) 36 (cond (nat_lt c 123) (c - 87) 36))) in
    let is : digit_value c ≡ c - 48 =
    ap (λ (b : Bool). cond b 36 (cond (nat_lt c 58) (c - 48) later)) (le-ltb c 48 (omega (arith, low))) ∙ ap (λ (b : Bool). cond b (c - 48) later) (lt-ltb c 58 high)
    in
    omega (arith, is, low)

-- the first of positive digits is one, and not 0
record FirstDigit (c : ℕ) : Type 0 where
  above : 48 < c
  below : c < 58
  digit : is_ascii_digit c ≡ true

first_digit : (c : ℕ) (cs : List ℕ) → is_positive (c ∷ cs) ≡ true → FirstDigit c
first_digit c cs h =
    let parts = and_parts (nat_lt 48 c) (list_all is_ascii_digit (c ∷ cs)) h in
    let digit : is_ascii_digit c ≡ true = (and_parts (is_ascii_digit c) (list_all is_ascii_digit cs) parts.1).0 in
    let above = parts.0 in
    record { above = grind (arith, nat_tests); below = grind (arith, nat_tests); digit = digit }

positive_short : (ds : List ℕ) → is_positive ds ≡ true → length ds ≤ digits_value 10 ds
positive_short [] h = absurd (cc)
positive_short (c ∷ cs) h =
    let first = first_digit c cs h in
    let some : 1 ≤ 0 * 10 + digit_value c = omega (arith, above_zero c first.above first.below) in
    omega (arith, some, grows (0 * 10 + digit_value c) cs some)

-- ---- Canonical numbers

same_pos : (m n : ℕ) → ◌≡◌ {A = ℤ} (pos m) (pos n) → m ≡ n
same_pos m n h = cc

-- a number with a minus is none that is not negative, but for 0
minus_short : (v whole few : ℕ) → few ≤ v → neg_ℤ (pos v) ≡ pos whole → few ≤ whole
minus_short zero whole few small h = omega (arith, small)
minus_short (suc v) whole few small h = absurd (cc)

by_sign : (b : ℕ) (bs : List ℕ) (whole : ℕ) (minus : Bool) → (b == 45) ≡ minus → is_positive (cond minus bs (b ∷ bs)) ≡ true → signed_digits_value 10 (b ∷ bs) ≡ pos whole → length (b ∷ bs) ≤ whole + 1
by_sign b bs whole true e h is =
    let negative : neg_ℤ (pos (digits_value 10 bs)) ≡ pos whole =
    subst (λ (t : Bool). cond t (neg_ℤ (pos (digits_value 10 (cond t bs (without_leading_plus (b ∷ bs)))))) (pos (digits_value 10 (cond t bs (without_leading_plus (b ∷ bs))))) ≡ pos whole) e is
    in
    omega (arith, minus_short (digits_value 10 bs) whole (length bs) (positive_short bs h) negative)
by_sign b bs whole false e h is =
    let first = first_digit b bs h in
    let same : digits_value 10 (b ∷ bs) ≡ whole = same_pos (digits_value 10 (b ∷ bs)) whole (sym (unsigned b bs first.digit) ∙ is) in
    omega (arith, same, positive_short (b ∷ bs) h)

canonical_short : (w : List ℕ) (whole : ℕ) → is_canonical w ≡ true → signed_digits_value 10 w ≡ pos whole → length w ≤ whole + 1
canonical_short [] whole h is = omega arith
canonical_short (b ∷ bs) whole h is =
    ⊎_elim
    (λ zero_word. let one : length (b ∷ bs) ≡ 1 = ap (λ (w : List ℕ). length w) ((bytes_eq-Decides (b ∷ bs) (codes "0")).0 zero_word) in omega (arith, one))
    (λ positive. by_sign b bs whole (b == 45) refl positive is)
    (or_cases (bytes_eq (b ∷ bs) (codes "0")) (is_positive (without_minus (b ∷ bs))) h)

number_short : (w : List ℕ) (whole : ℕ) (canonical : Bool) → is_canonical w ≡ canonical → cond canonical (Some (signed_digits_value 10 w)) None ≡ Some (pos whole) → length w ≤ whole + 1
number_short w whole true e is = canonical_short w whole e (same_Some (signed_digits_value 10 w) (pos whole) is)
number_short w whole false e is = absurd (cc)

-- ---- Rates

rate_most : (rate : ℕ) (within : Bool) → (nat_le 1 rate && nat_le rate 1000000) ≡ within → is_some (cond within (Some rate) None) ≡ true → rate ≤ 1000000
rate_most rate true e is = leb-true rate 1000000 (and_parts (nat_le 1 rate) (nat_le rate 1000000) e).1
rate_most rate false e is = absurd (cc)

-- the number of a rate is short, and what stands after its point is there
parts_short : (w : List ℕ) (number : Option ℤ) (more : Option ℕ) → number_in w ≡ number → is_some (rate_within (thousandths_by number more)) ≡ true → (length w ≤ 1001) × (is_some more ≡ true)
parts_short w (Some (pos whole)) (Some more) e is =
    let most = rate_most (1000 * whole + more) (nat_le 1 (1000 * whole + more) && nat_le (1000 * whole + more) 1000000) refl is in
    (omega (arith, most, number_short w whole (is_canonical w) refl e), refl)
parts_short w (Some (pos whole)) None e is = absurd (cc)
parts_short w (Some (negsuc n)) more e is = absurd (cc)
parts_short w None more e is = absurd (cc)

digits_few : (bytes : List ℕ) → is_some (digits_after bytes) ≡ true → length bytes ≤ 3
digits_few [] is = absurd (cc)
digits_few (a ∷ []) is = omega arith
digits_few (a ∷ b ∷ []) is = omega arith
digits_few (a ∷ b ∷ c ∷ []) is = omega arith
digits_few (a ∷ b ∷ c ∷ d ∷ more) is = absurd (cc)

after_short : (bytes : List ℕ) (digits : Bool) → is_some (cond digits (digits_after bytes) None) ≡ true → length bytes ≤ 3
after_short bytes true is = digits_few bytes is
after_short bytes false is = absurd (cc)

short_at : (point : Option ℕ) (text : List ℕ) → is_some (rate_within (thousandths_at point text)) ≡ true → length text ≤ 4096
short_at None text is = omega (arith, (parts_short text (number_in text) (Some 0) refl is).0)
short_at (Some point) text is =
    let after : List ℕ = drop (point + 1) text in
    let parts = parts_short (take point text) (number_in (take point text)) (thousandths_after after) refl is in
    let few : length after ≤ 3 = after_short after (list_all is_ascii_digit after) parts.1 in
    omega (arith, parts.0, few, length-take point text, length-drop (point + 1) text)

pub rate_short : (text : List ℕ) → is_some (rate_of (Text text)) ≡ true → length text ≤ 4096
rate_short text is = short_at (position (λ b. b == 46) text) text is
