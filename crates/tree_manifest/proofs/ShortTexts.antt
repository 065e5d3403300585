-- A text that may stand at a port of a built-in node is short.
use Rattle.std.proofs.Common.{◌≡◌, inl, inr, ℕ, zero, suc, ◌+◌, ◌*◌, ◌==◌, ◌≤◌, Bool, true, false, cond, ◌||◌, List, [], ◌∷◌, length, take, drop, codes, ℤ, pos, negsuc, Option, Some, None, refl, sym, ap, subst, arith, lit≤}
use Rattle.std.specs.Prelude.{nat_lt, nat_le, ◌&&◌, bytes_eq, is_some}
use Rattle.std.specs.Char.{digit_value, is_ascii_digit}
use Rattle.std.specs.List.{list_all, position}
use Rattle.std.specs.Str.Parse.{digits_value, digits_value_after, signed_digits_value, starts_with_minus, without_leading_plus, without_leading_sign}
use Rattle.std.proofs.lemmas.Bool.{or_cases}
use Rattle.std.proofs.lemmas.Bool.Decides.{nat_tests}
use Rattle.std.proofs.lemmas.List.{length-append, length-drop, take-append-drop}
use Rattle.std.proofs.Math.IntN.{neg_ℤ}
use Rattle.std.proofs.lemmas.Slice.Eq.{bytes_eq-Decides}
use Rattle.spec_script.proofs.Bools.{both}
use Rattle.spec_script.specs.declared.value.Value.TheVariants.{Text}
use Rattle.spec_tree.specs.declared.built_ins.Range.{Range}
use Rattle.spec_tree.specs.declared.built_ins.Range.TheVariants.{AnyValue, AnyInt, Turns, Duration, Truth, Recoveries, Rate}
use Rattle.spec_tree.specs.BuiltIns.{fits, rate_within}
use Rattle.spec_tree.specs.Numbers.{digits_after, is_canonical, is_positive, number_in, thousandths_after, thousandths_at, thousandths_by, thousandths_in, without_minus}

some_same : {A : Type 0} (x y : A) → Some x ≡ Some y → x ≡ y
some_same x y h = cc

-- digits after a number that is not 0 count more than there are of them
grows : (ds : List ℕ) (n : ℕ) → 1 ≤ n → n + length ds ≤ digits_value_after 10 n ds
grows [] n some = omega arith
grows (d ∷ ds) n some = let more = grows ds (n * 10 + digit_value d) (omega arith) in omega (arith, more)

positive_length : (ds : List ℕ) → is_positive ds ≡ true → length ds ≤ digits_value 10 ds
positive_length [] h = lit≤ tt
positive_length (b ∷ bs) h =
    let k = both (nat_lt 48 b) (list_all is_ascii_digit (b ∷ bs)) h in
    let d = both (is_ascii_digit b) (list_all is_ascii_digit bs) k.1 in
    let first : 1 ≤ digit_value b = grind (arith, nat_tests) in
    let more : 0 * 10 + digit_value b + length bs ≤ digits_value 10 (b ∷ bs) = grows bs (0 * 10 + digit_value b) (omega (arith, first)) in
    omega (arith, more, first)

-- a word without its sign, where it begins with 45 or not
by_sign : (b : ℕ) (bs : List ℕ) (minus : Bool) → (b == 45) ≡ minus → is_positive (cond minus bs (b ∷ bs)) ≡ true → length (b ∷ bs) ≤ digits_value 10 (without_leading_sign (b ∷ bs)) + 1
by_sign b bs true e h =
    let more = positive_length bs h in
    subst (λ (w : List ℕ). length (b ∷ bs) ≤ digits_value 10 w + 1) (sym (ap (λ (t : Bool). cond t bs (without_leading_plus (b ∷ bs))) e)) (omega (arith, more))
by_sign b bs false e h =
    let above = both (nat_lt 48 b) (list_all is_ascii_digit (b ∷ bs)) h in
    let plus : (b == 43) ≡ false = grind (arith, nat_tests, above.0) in
    let more = positive_length (b ∷ bs) h in
    let same : without_leading_sign (b ∷ bs) ≡ b ∷ bs = rw e (rw plus refl) in
    subst (λ (w : List ℕ). length (b ∷ bs) ≤ digits_value 10 w + 1) (sym same) (omega (arith, more))

canonical_length : (w : List ℕ) → is_canonical w ≡ true → length w ≤ digits_value 10 (without_leading_sign w) + 1
canonical_length [] h = lit≤ tt
canonical_length (b ∷ bs) h =
    elim (or_cases (bytes_eq (b ∷ bs) (codes "0")) (is_positive (without_minus (b ∷ bs))) h) [
      | inl alone ↦ subst (λ (w : List ℕ). length w ≤ digits_value 10 (without_leading_sign w) + 1) (sym ((bytes_eq-Decides (b ∷ bs) (codes "0")).0 alone)) (lit≤ tt)
      | inr positive ↦ by_sign b bs (b == 45) refl positive
    ]

same_number : (v n : ℕ) → pos v ≡ pos n → v ≡ n
same_number v n h = cc

-- a number that is not negative is what its digits count
signed_at : (minus : Bool) (v n : ℕ) → cond minus (neg_ℤ (pos v)) (pos v) ≡ pos n → v ≤ n
signed_at true zero n h = omega arith
signed_at true (suc v) n h = absurd (cc)
signed_at false v n h = omega (arith, same_number v n h)

-- a number that a word writes is no shorter than the word, but for two
number_length : (w : List ℕ) (n : ℕ) (canonical : Bool) → is_canonical w ≡ canonical → cond canonical (Some (signed_digits_value 10 w)) None ≡ Some (pos n) → length w ≤ n + 1
number_length w n true c h =
    let more = canonical_length w c in
    let few = signed_at (starts_with_minus w) (digits_value 10 (without_leading_sign w)) n (some_same (signed_digits_value 10 w) (pos n) h) in
    omega (arith, more, few)
number_length w n false c h = absurd (cc)

digits_length : (ds : List ℕ) (n : ℕ) → digits_after ds ≡ Some n → length ds ≤ 3
digits_length [] n h = absurd (cc)
digits_length (a ∷ []) n h = lit≤ tt
digits_length (a ∷ b ∷ []) n h = lit≤ tt
digits_length (a ∷ b ∷ c ∷ []) n h = lit≤ tt
digits_length (a ∷ b ∷ c ∷ d ∷ ds) n h = absurd (cc)

after_length : (ds : List ℕ) (n : ℕ) (digits : Bool) → cond digits (digits_after ds) None ≡ Some n → length ds ≤ 3
after_length ds n true h = digits_length ds n h
after_length ds n false h = absurd (cc)

-- the parts of a rate in thousandths
by_length : (whole : Option ℤ) (more : Option ℕ) (n : ℕ) → thousandths_by whole more ≡ Some n → n ≤ 1000000 → (k m : ℕ) × (whole ≡ Some (pos k)) × (more ≡ Some m) × (k ≤ 1000)
by_length (Some (pos k)) (Some m) n h few = (k, m, refl, refl, omega (arith, some_same (1000 * k + m) n h))
by_length (Some (pos k)) None n h few = absurd (cc)
by_length (Some (negsuc k)) more n h few = absurd (cc)
by_length None more n h few = absurd (cc)

at_length : (point : Option ℕ) (text : List ℕ) (n : ℕ) → thousandths_at point text ≡ Some n → n ≤ 1000000 → length text ≤ 4096
at_length None text n h few =
    let p = by_length (number_in text) (Some 0) n h few in
    let short = number_length text p.0 (is_canonical text) refl p.2 in
    omega (arith, short, p.4)
at_length (Some point) text n h few =
    let front = take point text in
    let back = drop (point + 1) text in
    let p = by_length (number_in front) (thousandths_after back) n h few in
    let short = number_length front p.0 (is_canonical front) refl p.2 in
    let end = after_length back p.1 (list_all is_ascii_digit back) p.3 in
    omega (arith, short, p.4, end, length-append front (drop point text), ap length (take-append-drop point text), length-drop point text, length-drop (point + 1) text)

-- a rate that a text says has few digits
rate_length : (rate : Option ℕ) (text : List ℕ) (point : Option ℕ) → thousandths_at point text ≡ rate → is_some (rate_within rate) ≡ true → length text ≤ 4096
rate_length (Some n) text point h fit = at_length point text n h (within n (nat_le 1 n && nat_le n 1000000) refl fit)
  where
    within : (n : ℕ) (t : Bool) → (nat_le 1 n && nat_le n 1000000) ≡ t → is_some (cond t (Some n) None) ≡ true → n ≤ 1000000
    within n true e fit = let k = both (nat_le 1 n) (nat_le n 1000000) e in grind (arith, nat_tests, k.1)
    within n false e fit = absurd (cc)
rate_length None text point h fit = absurd (cc)

truth_length : (text : List ℕ) → (bytes_eq text (codes "true") || bytes_eq text (codes "false")) ≡ true → length text ≤ 4096
truth_length text h =
    elim (or_cases (bytes_eq text (codes "true")) (bytes_eq text (codes "false")) h) [
      | inl is ↦ subst (λ (t : List ℕ). length t ≤ 4096) (sym ((bytes_eq-Decides text (codes "true")).0 is)) (lit≤ tt)
      | inr is ↦ subst (λ (t : List ℕ). length t ≤ 4096) (sym ((bytes_eq-Decides text (codes "false")).0 is)) (lit≤ tt)
    ]

-- a text that is within a range is short
pub fitting_length : (range : Range) (text : List ℕ) → fits range (Text text) ≡ true → length text ≤ 4096
fitting_length AnyValue text h = grind (arith, nat_tests, h)
fitting_length AnyInt text h = absurd (cc)
fitting_length Turns text h = absurd (cc)
fitting_length Duration text h = absurd (cc)
fitting_length Truth text h = truth_length text h
fitting_length Recoveries text h = absurd (cc)
fitting_length Rate text h = rate_length (thousandths_in text) text (position (λ b. b == 46) text) refl h
