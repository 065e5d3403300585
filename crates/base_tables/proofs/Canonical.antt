-- The numbers that words write canonically.
use Rattle.std.proofs.Common.{◌≡◌, ◌≢◌, ◌⊎◌, inl, inr, ℕ, zero, suc, ◌<◌, ◌≤◌, ◌^◌, ◌==◌, Bool, true, false, cond, ◌||◌, List, [], ◌∷◌, get_or, drop, codes, ℤ, pos, negsuc, Some, None, Result, Ok, Err, refl, sym, ◌∙◌, ap, subst, arith, lit<}
use Rattle.std.specs.Prelude.{nat_lt, bytes_eq, IsUtf8, FitsSigned}
use Rattle.std.proofs.lemmas.Bool.Decides.{nat_tests}
use Rattle.std.specs.Char.{is_ascii_digit}
use Rattle.std.specs.List.{list_all}
use Rattle.std.specs.Result.{result_ok}
use Rattle.std.specs.Str.Parse.{ParsesSigned, IsNumeral, AllDigits, digits_value, signed_digits_value, without_leading_sign, without_leading_plus}
use Rattle.std.proofs.lemmas.Str.Parse.{IsDigitsTest, numerals_by_value, digit_from_value, without_leading_plus_none}
use Rattle.std.proofs.lemmas.Str.{IsUtf8-from_ascii}
use Rattle.std.proofs.lemmas.Slice.Eq.{bytes_eq-Decides}
use Rattle.std.proofs.lemmas.Bool.{eqb-true}
use borrow.Author.Tests.{ne_eqb}
use mir.Syntax.{w64}
use Rattle.spec_script.proofs.Bools.{both}
use Rattle.spec_tree.specs.Numbers.{int_in, is_canonical, is_int, is_positive, of_64_bits, without_minus}

int_from_fits : (z : ℤ) → FitsSigned w64 z → is_int z ≡ true
int_from_fits (pos n) h = let k : n < 2 ^ 63 = h.sfits in grind (arith, nat_tests)
int_from_fits (negsuc n) h = let k : n < 2 ^ 63 = h.sfits in grind (arith, nat_tests)

pub fits_from_int : (z : ℤ) → is_int z ≡ true → FitsSigned w64 z
fits_from_int (pos n) h = record { sfits = grind (arith, nat_tests) }
fits_from_int (negsuc n) h = record { sfits = grind (arith, nat_tests) }

either : (a b : Bool) → (a || b) ≡ true → (a ≡ true) ⊎ (b ≡ true)
either true b h = inl refl
either false b h = inr h

tells_digits : IsDigitsTest (λ ds. list_all is_ascii_digit ds ≡ true)
tells_digits = record {
  empty = refl;
  parts = λ c cs h. let k = both (is_ascii_digit c) (list_all is_ascii_digit cs) h in (grind (arith, nat_tests), k.1);
  more = λ c cs k h. grind (arith, nat_tests);
}

all_digits : (ds : List ℕ) → list_all is_ascii_digit ds ≡ true → AllDigits 10 ds
all_digits = (numerals_by_value _ tells_digits).to

positive : (ds : List ℕ) → is_positive ds ≡ true → IsNumeral 10 ds
positive [] h = absurd (cc)
positive (c ∷ cs) h = (omega arith, all_digits (c ∷ cs) (both (nat_lt 48 c) (list_all is_ascii_digit (c ∷ cs)) h).1)

above : (c : ℕ) (cs : List ℕ) → is_positive (c ∷ cs) ≡ true → 48 < c
above c cs h = let k = (both (nat_lt 48 c) (list_all is_ascii_digit (c ∷ cs)) h).0 in grind (arith, nat_tests)

no_sign : (b : ℕ) (bs : List ℕ) → b ≢ 45 → b ≢ 43 → without_leading_sign (b ∷ bs) ≡ b ∷ bs
no_sign b bs m p = ap (λ t. cond t (drop 1 (b ∷ bs)) (without_leading_plus (b ∷ bs))) (ne_eqb b 45 m) ∙ without_leading_plus_none (b ∷ bs) p

by_sign : (b : ℕ) (bs : List ℕ) (t : Bool) → (b == 45) ≡ t → is_positive (cond t bs (b ∷ bs)) ≡ true → IsNumeral 10 (without_leading_sign (b ∷ bs))
by_sign b bs true e p = subst (λ t. IsNumeral 10 (cond t bs (without_leading_plus (b ∷ bs)))) (sym e) (positive bs p)
by_sign b bs false e p = let k = above b bs p in subst (IsNumeral 10) (sym (no_sign b bs (omega arith) (omega arith))) (positive (b ∷ bs) p)

zero_word : (b : ℕ) (bs : List ℕ) → bytes_eq (b ∷ bs) (codes "0") ≡ true → (b ∷ bs) ≡ 48 ∷ []
zero_word b bs h = (bytes_eq-Decides (b ∷ bs) (codes "0")).0 h

-- a canonical number is a numeral after its sign
numeral : (w : List ℕ) → is_canonical w ≡ true → IsNumeral 10 (without_leading_sign w)
numeral [] h = absurd (cc)
numeral (b ∷ bs) h =
    elim (either (bytes_eq (b ∷ bs) (codes "0")) (is_positive (without_minus (b ∷ bs))) h) [
      | inl z ↦ subst (λ w. IsNumeral 10 (without_leading_sign w)) (sym (zero_word b bs z)) (lit< tt, (lit< tt, tt))
      | inr p ↦ by_sign b bs (b == 45) refl p
    ]

-- what `parse` answers at a canonical number: the number, where 64 bits hold it
parsed : {E : Type 0} (w : List ℕ) (r : Result ℤ E) → ParsesSigned w64 10 w r → IsNumeral 10 (without_leading_sign w) → result_ok r ≡ of_64_bits (signed_digits_value 10 w)
parsed w (Ok z) h n = ap (λ (x : ℤ). Some x) h.1 ∙ sym (ap (λ (t : Bool). cond t (Some (signed_digits_value 10 w)) None) (int_from_fits _ h.0.1))
parsed w (Err e) h n = refused (is_int (signed_digits_value 10 w)) refl
  where
    refused : (t : Bool) → is_int (signed_digits_value 10 w) ≡ t → None ≡ cond t (Some (signed_digits_value 10 w)) None
    refused true k = absurd (h (n, fits_from_int _ k))
    refused false k = refl

pub parsed_canonical : {E : Type 0} (w : List ℕ) (r : Result ℤ E) → is_canonical w ≡ true → ParsesSigned w64 10 w r → result_ok r ≡ int_in w
parsed_canonical w r c h = parsed w r h (numeral w c) ∙ ap (λ (t : Bool). cond t (of_64_bits (signed_digits_value 10 w)) None) (sym c)

ascii_digits : (ds : List ℕ) → AllDigits 10 ds → (i : ℕ) → get_or ds i 0 < 128
ascii_digits [] d i = lit< tt
ascii_digits (c ∷ cs) d zero = omega (arith, digit_from_value c d.0)
ascii_digits (c ∷ cs) d (suc i) = ascii_digits cs d.1 i

ascii_minus : (b : ℕ) (bs : List ℕ) → b ≡ 45 → AllDigits 10 bs → (i : ℕ) → get_or (b ∷ bs) i 0 < 128
ascii_minus b bs e d zero = omega arith
ascii_minus b bs e d (suc i) = ascii_digits bs d i

utf8_by_sign : (b : ℕ) (bs : List ℕ) (t : Bool) → (b == 45) ≡ t → is_positive (cond t bs (b ∷ bs)) ≡ true → IsUtf8 (b ∷ bs)
utf8_by_sign b bs true e p = IsUtf8-from_ascii (b ∷ bs) (ascii_minus b bs (eqb-true b 45 e) (positive bs p).1)
utf8_by_sign b bs false e p = IsUtf8-from_ascii (b ∷ bs) (ascii_digits (b ∷ bs) (positive (b ∷ bs) p).1)

-- a canonical number is UTF-8
pub IsUtf8-from_is_canonical : (w : List ℕ) → is_canonical w ≡ true → IsUtf8 w
IsUtf8-from_is_canonical [] h = absurd (cc)
IsUtf8-from_is_canonical (b ∷ bs) h =
    elim (either (bytes_eq (b ∷ bs) (codes "0")) (is_positive (without_minus (b ∷ bs))) h) [
      | inl z ↦ subst IsUtf8 (sym (zero_word b bs z)) (IsUtf8-from_ascii (48 ∷ []) (ascii_digits (48 ∷ []) (lit< tt, tt)))
      | inr p ↦ utf8_by_sign b bs (b == 45) refl p
    ]

-- a word that begins with a digit has no sign
pub unsigned : (c : ℕ) (cs : List ℕ) → is_ascii_digit c ≡ true → signed_digits_value 10 (c ∷ cs) ≡ pos (digits_value 10 (c ∷ cs))
unsigned c cs h =
    let minus : (c == 45) ≡ false = grind (arith, nat_tests) in
    let plus : (c == 43) ≡ false = grind (arith, nat_tests) in
    rw minus (rw plus refl)

few_fit : (n : ℕ) → n ≤ 999999999999999999 → is_int (pos n) ≡ true
few_fit n h = grind (arith, nat_tests)

-- a canonical number without a sign and of few digits fits 64 bits
pub few_canonical : (w : List ℕ) (n : ℕ) → is_canonical w ≡ true → signed_digits_value 10 w ≡ pos (digits_value 10 w) → n ≡ digits_value 10 w → n ≤ 999999999999999999 → Some (pos n) ≡ int_in w
few_canonical w n canonical value is small =
    sym (ap (λ (t : Bool). cond t (Some (pos n)) None) (few_fit n small))
    ∙ ap of_64_bits (ap pos is ∙ sym value)
    ∙ ap (λ (t : Bool). cond t (of_64_bits (signed_digits_value 10 w)) None) (sym canonical)
