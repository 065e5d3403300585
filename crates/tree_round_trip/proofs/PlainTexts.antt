-- Texts that can stand in a comment: ASCII without `-` and without the byte 0.
use Rattle.std.proofs.Common.{◌≡◌, ℕ, zero, suc, ◌<◌, ◌/◌, ◌%◌, ◌==◌, Bool, true, false, not, ◌&&◌, List, [], ◌∷◌, ◌++◌, refl, ap, ◌∙◌, arith, decimal}
use Rattle.std.specs.List.{list_all}
use Rattle.std.proofs.lemmas.Bool.{cond_both}
use Rattle.std.proofs.lemmas.Bool.Decides.{nat_tests}
use Rattle.std.proofs.lemmas.List.Folds.{list_all-append}
use Rattle.std.specs.Fmt.{digit_glyph, digits, digits_onto}
use Rattle.spec_script.proofs.Bools.{both}
use Rattle.spec_script.specs.Identifiers.{is_identifier_continue}
use Rattle.spec_tree_file.specs.Marks.{comment_end, holds, is_not_zero}
use Rattle.spec_tree_file.specs.References.{begins_with}
use Rattle.tree_elements.proofs.Ascii.{is_low, utf8_low}
use Rattle.tree_round_trip.specs.Remarks.{CanRemark}

-- an ASCII byte that is neither 0 nor `-`
abbrev pub is_plain : ℕ → Bool
is_plain c = is_low c && (is_not_zero c && not (c == 45))

abbrev pub Plain : List ℕ → Type 0
Plain text = list_all is_plain text ≡ true

pub plain_both : (xs ys : List ℕ) → Plain xs → Plain ys → Plain (xs ++ ys)
plain_both xs ys one other = list_all-append is_plain xs ys ∙ rw (one, other) refl

-- ---- Comments

plain_low : (text : List ℕ) → Plain text → list_all is_low text ≡ true
plain_low [] plain = refl
plain_low (c ∷ cs) plain = let t = both (is_plain c) (list_all is_plain cs) plain in rw ((both (is_low c) _ t.0).0) (plain_low cs t.1)

plain_some : (text : List ℕ) → Plain text → list_all is_not_zero text ≡ true
plain_some [] plain = refl
plain_some (c ∷ cs) plain = let t = both (is_plain c) (list_all is_plain cs) plain in rw ((both (is_not_zero c) _ (both (is_low c) _ t.0).1).0) (plain_some cs t.1)

no_end_here : (c : ℕ) (cs : List ℕ) → is_plain c ≡ true → begins_with comment_end (c ∷ cs) ≡ false
no_end_here c cs plain = grind (arith, nat_tests)

no_end : (text : List ℕ) → Plain text → holds comment_end text ≡ false
no_end [] plain = refl
no_end (c ∷ cs) plain = let t = both (is_plain c) (list_all is_plain cs) plain in rw (no_end_here c cs t.0) (no_end cs t.1)

pub plain_remark : (text : List ℕ) → Plain text → CanRemark text
plain_remark text plain = record { mark = (plain_some text plain, ap not (no_end text plain)); utf8 = utf8_low text (plain_low text plain) }

-- ---- Numbers and names

digit_plain : (d : ℕ) → d < 10 → is_plain (digit_glyph false d) ≡ true
digit_plain d small = grind (arith, nat_tests)

digits_plain : (k n : ℕ) (rest : List ℕ) → Plain rest → Plain (digits_onto k 10 false n rest)
digits_plain zero n rest plain = plain
digits_plain (suc k) n rest plain =
    let more : Plain (digit_glyph false (n % 10) ∷ rest) = rw (digit_plain (n % 10) (omega arith)) plain in
    cond_both (n / 10 == 0) (digit_glyph false (n % 10) ∷ rest) (digits_onto k 10 false (n / 10) (digit_glyph false (n % 10) ∷ rest)) (λ z. Plain z)
    (λ _. more) (λ _. digits_plain k (n / 10) (digit_glyph false (n % 10) ∷ rest) more)

pub decimal_plain : (n : ℕ) → Plain (decimal n)
unfolding digits
decimal_plain n = digits_plain 64 n [] refl

byte_plain : (c : ℕ) → is_identifier_continue c ≡ true → is_plain c ≡ true
byte_plain c is = grind (arith, nat_tests)

pub name_plain : (name : List ℕ) → list_all is_identifier_continue name ≡ true → Plain name
name_plain [] is = refl
name_plain (c ∷ cs) is = let t = both (is_identifier_continue c) (list_all is_identifier_continue cs) is in rw (byte_plain c t.0) (name_plain cs t.1)
