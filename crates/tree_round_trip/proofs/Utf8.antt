-- What is printed is UTF-8 where the texts in it are.
use Rattle.std.proofs.Common.{◌≡◌, ℕ, suc, ◌<◌, ◌≤◌, ◌^◌, Bool, true, false, ◌==◌, nat_lt, List, [], ◌∷◌, ◌++◌, length, get_or, refl, ap, sym, ◌∙◌, subst, append-nil, arith, codes, decimal}
use Rattle.std.proofs.lemmas.Bool.Decides.{nat_tests}
use Rattle.std.proofs.lemmas.Fmt.{IsAscii-decimal}
use Rattle.std.proofs.lemmas.Grind.{flat_map-append}
use Rattle.std.proofs.lemmas.Str.{encode_ascii, IsUtf8-append, IsUtf8-encode, IsUtf8-from_ascii, IsUtf8-nil}
use Rattle.std.specs.Char.{encode_utf8, IsScalar}
use Rattle.std.specs.List.{flat_map, list_all}
use Rattle.std.specs.Str.{IsUtf8, encode_utf8_all, all_scalars}
use Rattle.spec_script.proofs.Bools.{both}
use Rattle.spec_script.specs.Identifiers.{is_white}
use Rattle.tree_elements.proofs.Ascii.{byte_utf8, is_low, low_is, utf8_low}
use Rattle.tree_elements.proofs.Writing.{high_bytes}
use Rattle.spec_tree.specs.PrintedTree.{escaped_byte}
use Rattle.tree_round_trip.proofs.Values.{escaped_by}

-- ---- White space

white_low : (c : ℕ) → is_white c ≡ true → is_low c ≡ true
white_low c h = grind (arith, nat_tests)

pub utf8_white : (cs : List ℕ) → list_all is_white cs ≡ true → IsUtf8 cs
utf8_white [] h = IsUtf8-nil
utf8_white (c ∷ cs) h =
    let t = both (is_white c) (list_all is_white cs) h in IsUtf8-append (c ∷ []) cs (byte_utf8 c (low_is c (white_low c t.0))) (utf8_white cs t.1)

-- ---- Escapes

control_utf8 : (c : ℕ) → nat_lt c 32 ≡ true → IsUtf8 (codes "&#" ++ decimal c ++ codes ";")
control_utf8 c h =
    let small : c < 2 ^ 64 = grind (arith, nat_tests) in
    IsUtf8-append (codes "&#" ++ decimal c) (codes ";")
    (IsUtf8-append (codes "&#") (decimal c) (utf8_low (codes "&#") refl) (IsUtf8-from_ascii (decimal c) (IsAscii-decimal c small))) (utf8_low (codes ";") refl)

escape_utf8 : (c : ℕ) (a l q low : Bool) → nat_lt c 32 ≡ low → c < 128 → IsUtf8 (escaped_by c a l q low)
escape_utf8 c true l q low h small = utf8_low (codes "&amp;") refl
escape_utf8 c false true q low h small = utf8_low (codes "&lt;") refl
escape_utf8 c false false true low h small = utf8_low (codes "&quot;") refl
escape_utf8 c false false false true h small = control_utf8 c h
escape_utf8 c false false false false h small = byte_utf8 c small

differ : (b c : ℕ) → c < 128 → 128 ≤ b → (b == c) ≡ false
differ b c h k = grind (arith, nat_tests)

not_below : (b : ℕ) → 128 ≤ b → nat_lt b 32 ≡ false
not_below b h = grind (arith, nat_tests)

-- a byte past ASCII is printed as itself
plain_byte : (b : ℕ) → 128 ≤ b → escaped_byte b ≡ b ∷ []
plain_byte b h =
    ap (λ (t : Bool). escaped_by b t (b == 60) (b == 34) (nat_lt b 32)) (differ b 38 (omega arith) h)
    ∙ ap (λ (t : Bool). escaped_by b false t (b == 34) (nat_lt b 32)) (differ b 60 (omega arith) h)
    ∙ ap (λ (t : Bool). escaped_by b false false t (nat_lt b 32)) (differ b 34 (omega arith) h)
    ∙ ap (escaped_by b false false false) (not_below b h)

plain_bytes : (bs : List ℕ) → ((k : ℕ) → k < length bs → 128 ≤ get_or bs k 0) → flat_map escaped_byte bs ≡ bs
plain_bytes [] h = refl
plain_bytes (b ∷ bs) h =
    ap (λ (z : List ℕ). z ++ flat_map escaped_byte bs) (plain_byte b (h 0 (omega arith)))
    ∙ ap (λ (z : List ℕ). b ∷ z) (plain_bytes bs (λ k lt. h (suc k) (omega (arith, lt))))

char_utf8 : (c : ℕ) (low : Bool) → IsScalar c → nat_lt c 128 ≡ low → IsUtf8 (flat_map escaped_byte (encode_utf8 c))
char_utf8 c true is h =
    let small = low_is c h in
    let one : flat_map escaped_byte (encode_utf8 c) ≡ escaped_byte c = ap (flat_map escaped_byte) (encode_ascii c small) ∙ append-nil (escaped_byte c) in
    subst IsUtf8 (sym one) (escape_utf8 c (c == 38) (c == 60) (c == 34) (nat_lt c 32) refl small)
char_utf8 c false is h =
    let high : 128 ≤ c = grind (arith, nat_tests) in
    subst IsUtf8 (sym (plain_bytes (encode_utf8 c) (λ k within. high_bytes c k high within))) (IsUtf8-encode c is)

chars_utf8 : (cs : List ℕ) → all_scalars cs ≡ true → IsUtf8 (flat_map escaped_byte (encode_utf8_all cs))
chars_utf8 [] h = IsUtf8-nil
chars_utf8 (c ∷ cs) h =
    let t = both _ (all_scalars cs) h in
    subst IsUtf8 (sym (flat_map-append escaped_byte (encode_utf8 c) (encode_utf8_all cs)))
    (IsUtf8-append (flat_map escaped_byte (encode_utf8 c)) (flat_map escaped_byte (encode_utf8_all cs)) (char_utf8 c (nat_lt c 128) t.0 refl) (chars_utf8 cs t.1))

-- a printed value is UTF-8 where the value is
pub value_utf8 : (value : List ℕ) → IsUtf8 value → IsUtf8 (flat_map escaped_byte value)
value_utf8 value u = subst (λ (z : List ℕ). IsUtf8 (flat_map escaped_byte z)) u.1.1 (chars_utf8 u.0 u.1.0)
