-- A value printed between two `"` says the value that was printed.
use Rattle.std.proofs.Common.{◌≡◌, ℕ, ◌+◌, ◌<◌, ◌^◌, Bool, true, false, ◌&&◌, not, ◌==◌, nat_lt, List, [], ◌∷◌, ◌++◌, length, take, drop, Option, Some, None, refl, ap, sym, ◌∙◌, append_assoc, arith, length-append, if◌then◌else◌, codes, decimal}
use Rattle.std.proofs.lemmas.Bool.Decides.{nat_tests}
use Rattle.std.proofs.lemmas.Fmt.{decimal_is_IsNumeral}
use Rattle.std.proofs.lemmas.List.Folds.{list_all-append}
use Rattle.std.proofs.lemmas.Str.{encode_ascii}
use Rattle.std.proofs.Math.Seq.{drop-append_seam}
use Rattle.std.specs.Char.{encode_utf8, is_digit, digit_value}
use Rattle.std.specs.List.{prefix_len, list_all, flat_map}
use Rattle.std.specs.Str.Parse.{AllDigits, digits_value}
use Rattle.spec_script.proofs.Bools.{both}
use Rattle.spec_tree_file.specs.Marks.{is_not_zero, is_value_byte}
use Rattle.spec_tree_file.specs.References.{begins_with, is_character, numeric, reference_of, decoded_from, decoded}
use Rattle.tree_elements.proofs.Prefixes.{eq_from_test, span_seam, taken_seam, left_seam}
use Rattle.tree_elements.proofs.References.{decoded_past}
use Rattle.spec_tree.specs.PrintedTree.{escaped_byte}

-- ---- Digits

abbrev is_decimal : ℕ → Bool
is_decimal c = is_digit c 10

pub and_true : (a b : Bool) → a ≡ true → b ≡ true → (a && b) ≡ true
and_true true b p q = q
and_true false b p q = p

less : (a b : ℕ) → a < b → nat_lt a b ≡ true
less a b h = grind (arith, nat_tests)

digits_pass : (ds : List ℕ) → AllDigits 10 ds → list_all is_decimal ds ≡ true
digits_pass [] h = refl
digits_pass (d ∷ ds) h = and_true (is_decimal d) (list_all is_decimal ds) (less (digit_value d) 10 h.0) (digits_pass ds h.1)

digit_stands : (d : ℕ) → digit_value d < 10 → is_value_byte 34 d ≡ true
digit_stands d h = grind (arith, nat_tests)

digits_stand : (ds : List ℕ) → AllDigits 10 ds → list_all (is_value_byte 34) ds ≡ true
digits_stand [] h = refl
digits_stand (d ∷ ds) h = and_true (is_value_byte 34 d) (list_all (is_value_byte 34) ds) (digit_stands d h.0) (digits_stand ds h.1)

digit_is_no_x : (d : ℕ) → digit_value d < 10 → (120 == d) ≡ false
digit_is_no_x d h = grind (arith, nat_tests)

-- ---- References

abbrev numeric_by : ℕ → List ℕ → List ℕ → Option (ℕ × ℕ)
numeric_by n front back = if begins_with (codes ";") back && is_character (digits_value 10 front) then Some (digits_value 10 front, 1 + n + 1) else None

abbrev numeric_is : ℕ → ℕ → Bool → Option (ℕ × ℕ)
numeric_is c n is = if is then Some (c, 1 + n + 1) else None

-- digits and a `;` are the character of their number
numeric_of :
    (ds rest : List ℕ) (c : ℕ) → list_all is_decimal ds ≡ true → digits_value 10 ds ≡ c → is_character c ≡ true →
    numeric 10 1 (ds ++ 59 ∷ rest) ≡ Some (c, 1 + length ds + 1)
numeric_of ds rest c all value is =
    let text = ds ++ 59 ∷ rest in
    let n = prefix_len is_decimal text in
    ap (λ (k : ℕ). numeric_by k (take n text) (drop n text)) (span_seam is_decimal ds (59 ∷ rest) all refl)
    ∙ ap (λ (front : List ℕ). numeric_by (length ds) front (drop n text)) (taken_seam is_decimal ds (59 ∷ rest) all refl)
    ∙ ap (λ (back : List ℕ). numeric_by (length ds) ds back) (left_seam is_decimal ds (59 ∷ rest) all refl)
    ∙ ap (λ (v : ℕ). numeric_is v (length ds) (is_character v)) value
    ∙ ap (numeric_is c (length ds)) is

abbrev hash_by : List ℕ → Bool → Option (ℕ × ℕ)
hash_by cs hexadecimal = if hexadecimal then numeric 16 2 (drop 2 cs) else numeric 10 1 (drop 1 cs)

-- a `#`, digits and a `;` are a reference
reference_decimal :
    (ds rest : List ℕ) (c : ℕ) → 0 < length ds → AllDigits 10 ds → digits_value 10 ds ≡ c → is_character c ≡ true →
    reference_of (35 ∷ (ds ++ 59 ∷ rest)) ≡ Some (c, 1 + length ds + 1)
reference_decimal [] rest c some all value is = absurd (omega (arith, some))
reference_decimal (d ∷ ds) rest c some all value is =
    ap (λ (x : Bool). hash_by (35 ∷ ((d ∷ ds) ++ 59 ∷ rest)) (x && true)) (digit_is_no_x d all.0)
    ∙ numeric_of (d ∷ ds) rest c (digits_pass (d ∷ ds) all) value is

-- a reference gives its character
decoded_reference : (cs : List ℕ) (c n : ℕ) → reference_of cs ≡ Some (c, n) → c < 128 → decoded (38 ∷ cs) ≡ c ∷ decoded (drop n cs)
decoded_reference cs c n is ascii =
    ap (λ (o : Option (ℕ × ℕ)). elim o as (λ _. List ℕ) [ Some r ↦ encode_utf8 r.0 ++ decoded_from r.1 cs | None ↦ 38 ∷ decoded_from 0 cs ]) is
    ∙ ap (λ (z : List ℕ). encode_utf8 c ++ z) (decoded_past n cs)
    ∙ ap (λ (z : List ℕ). z ++ decoded (drop n cs)) (encode_ascii c ascii)

-- ---- Bytes

after_decimal : (ds rest : List ℕ) → drop (1 + length ds + 1) (35 ∷ (ds ++ 59 ∷ rest)) ≡ rest
after_decimal ds rest =
    let front = 35 ∷ (ds ++ 59 ∷ []) in
    let len : 1 + length ds + 1 ≡ length front = omega (arith, length-append ds (59 ∷ [])) in
    ap (λ (z : List ℕ). drop (1 + length ds + 1) (35 ∷ z)) (sym (append_assoc ds (59 ∷ []) rest))
    ∙ ap (λ (n : ℕ). drop n (front ++ rest)) len
    ∙ drop-append_seam front rest

control_says : (c : ℕ) (rest : List ℕ) → (c == 0) ≡ false → nat_lt c 32 ≡ true → decoded ((codes "&#" ++ decimal c ++ codes ";") ++ rest) ≡ c ∷ decoded rest
control_says c rest some low =
    let small : c < 2 ^ 64 = grind (arith, nat_tests) in
    let ascii : c < 128 = grind (arith, nat_tests) in
    let is : is_character c ≡ true = grind (arith, nat_tests) in
    let told = decimal_is_IsNumeral c small in
    ap (λ (z : List ℕ). decoded (38 ∷ 35 ∷ z)) (append_assoc (decimal c) (59 ∷ []) rest)
    ∙ decoded_reference (35 ∷ (decimal c ++ 59 ∷ rest)) c (1 + length (decimal c) + 1) (reference_decimal (decimal c) rest c told.0.0 told.0.1 told.1 is) ascii
    ∙ ap (λ (z : List ℕ). c ∷ decoded z) (after_decimal (decimal c) rest)

plain_says : (c : ℕ) (rest : List ℕ) → (c == 38) ≡ false → decoded (c ∷ rest) ≡ c ∷ decoded rest
plain_says c rest h =
    ap (λ (t : Bool). if not t then c ∷ decoded_from 0 rest else (elim (reference_of rest) as (λ _. List ℕ) [ Some r ↦ encode_utf8 r.0 ++ decoded_from r.1 rest | None ↦ c ∷ decoded_from 0 rest ])) h

abbrev pub escaped_by : ℕ → Bool → Bool → Bool → Bool → List ℕ
escaped_by c ampersand less quote low =
    if ampersand then codes "&amp;"
    else if less then codes "&lt;"
    else if quote then codes "&quot;"
    else if low then codes "&#" ++ decimal c ++ codes ";"
    else c ∷ []

says_by :
    (c : ℕ) (rest : List ℕ) (a l q low : Bool) → (c == 0) ≡ false → (c == 38) ≡ a → (c == 60) ≡ l → (c == 34) ≡ q → nat_lt c 32 ≡ low →
    decoded (escaped_by c a l q low ++ rest) ≡ c ∷ decoded rest
says_by c rest true l q low some ha hl hq h =
    decoded_reference (codes "amp;" ++ rest) 38 4 refl (omega arith) ∙ ap (λ (b : ℕ). b ∷ decoded rest) (sym (eq_from_test c 38 ha))
says_by c rest false true q low some ha hl hq h =
    decoded_reference (codes "lt;" ++ rest) 60 3 refl (omega arith) ∙ ap (λ (b : ℕ). b ∷ decoded rest) (sym (eq_from_test c 60 hl))
says_by c rest false false true low some ha hl hq h =
    decoded_reference (codes "quot;" ++ rest) 34 5 refl (omega arith) ∙ ap (λ (b : ℕ). b ∷ decoded rest) (sym (eq_from_test c 34 hq))
says_by c rest false false false true some ha hl hq h = control_says c rest some h
says_by c rest false false false false some ha hl hq h = plain_says c rest ha

byte_says : (c : ℕ) (rest : List ℕ) → (c == 0) ≡ false → decoded (escaped_byte c ++ rest) ≡ c ∷ decoded rest
byte_says c rest some = says_by c rest (c == 38) (c == 60) (c == 34) (nat_lt c 32) some refl refl refl refl

not_false : (b : Bool) → not b ≡ true → b ≡ false
not_false true h = absurd (cc)
not_false false h = refl

-- a printed value is decoded as the value
pub value_says : (value : List ℕ) → list_all is_not_zero value ≡ true → decoded (flat_map escaped_byte value) ≡ value
value_says [] h = refl
value_says (c ∷ cs) h =
    let t = both (is_not_zero c) (list_all is_not_zero cs) h in
    byte_says c (flat_map escaped_byte cs) (not_false (c == 0) t.0) ∙ ap (λ (z : List ℕ). c ∷ z) (value_says cs t.1)

-- ---- Between two quotes

control_stands : (c : ℕ) → nat_lt c 32 ≡ true → list_all (is_value_byte 34) (codes "&#" ++ decimal c ++ codes ";") ≡ true
control_stands c low =
    let small : c < 2 ^ 64 = grind (arith, nat_tests) in
    let told = decimal_is_IsNumeral c small in
    list_all-append (is_value_byte 34) (decimal c) (codes ";")
    ∙ and_true (list_all (is_value_byte 34) (decimal c)) (list_all (is_value_byte 34) (codes ";")) (digits_stand (decimal c) told.0.1) refl

stands_by :
    (c : ℕ) (a l q low : Bool) → (c == 0) ≡ false → (c == 38) ≡ a → (c == 60) ≡ l → (c == 34) ≡ q → nat_lt c 32 ≡ low →
    list_all (is_value_byte 34) (escaped_by c a l q low) ≡ true
stands_by c true l q low some ha hl hq h = refl
stands_by c false true q low some ha hl hq h = refl
stands_by c false false true low some ha hl hq h = refl
stands_by c false false false true some ha hl hq h = control_stands c h
stands_by c false false false false some ha hl hq h = grind (arith, nat_tests)

byte_stands : (c : ℕ) → (c == 0) ≡ false → list_all (is_value_byte 34) (escaped_byte c) ≡ true
byte_stands c some = stands_by c (c == 38) (c == 60) (c == 34) (nat_lt c 32) some refl refl refl refl

-- a printed value may stand between two `"`
pub value_between : (value : List ℕ) → list_all is_not_zero value ≡ true → list_all (is_value_byte 34) (flat_map escaped_byte value) ≡ true
value_between [] h = refl
value_between (c ∷ cs) h =
    let t = both (is_not_zero c) (list_all is_not_zero cs) h in
    list_all-append (is_value_byte 34) (escaped_byte c) (flat_map escaped_byte cs)
    ∙ and_true (list_all (is_value_byte 34) (escaped_byte c)) (list_all (is_value_byte 34) (flat_map escaped_byte cs)) (byte_stands c (not_false (c == 0) t.0)) (value_between cs t.1)
