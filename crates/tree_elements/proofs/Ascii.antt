-- Texts in ASCII can be written.
use Rattle.std.proofs.Common.{◌≡◌, ℕ, ◌+◌, ◌<◌, ◌≤◌, ◌⊎◌, inl, inr, Bool, true, nat_lt, bit_or, List, [], ◌∷◌, slice_index, sym, subst, arith}
use Rattle.std.proofs.Math.Nat.{eq-or-lt_of_le}
use Rattle.std.proofs.Math.Utf8.{low_scalar}
use Rattle.std.proofs.lemmas.Bool.Decides.{nat_tests}
use Rattle.std.proofs.lemmas.Nat.{le_or_l, le_or_r}
use Rattle.std.proofs.lemmas.Str.{encode_ascii, is_utf8-from_IsUtf8, IsUtf8-append, IsUtf8-encode, IsUtf8-nil}
use Rattle.std.specs.Cmp.Derive.{both_true}
use Rattle.std.specs.List.{list_all}
use Rattle.std.specs.Str.{IsUtf8}
use Rattle.spec_script.proofs.Bools.{both}
use Rattle.spec_script.specs.Texts.{is_name, is_not_zero, name_stands, value_stands}

-- an ASCII byte
abbrev pub is_low : ℕ → Bool
is_low c = nat_lt c 128

pub byte_utf8 : (c : ℕ) → c < 128 → IsUtf8 (c ∷ [])
byte_utf8 c h = subst IsUtf8 (encode_ascii c h) (IsUtf8-encode c (low_scalar c (omega arith)))

pub low_is : (c : ℕ) → is_low c ≡ true → c < 128
low_is c h = grind (arith, nat_tests)

pub utf8_low : (cs : List ℕ) → list_all is_low cs ≡ true → IsUtf8 cs
utf8_low [] h = IsUtf8-nil
utf8_low (c ∷ cs) h =
    let t = both (is_low c) (list_all is_low cs) h in IsUtf8-append (c ∷ []) cs (byte_utf8 c (low_is c t.0)) (utf8_low cs t.1)

-- a name and a value in ASCII
pub literal : (name : List ℕ) → is_name name ≡ true → list_all is_low name ≡ true → name_stands name ≡ true
literal name is low = both_true is (is_utf8-from_IsUtf8 name (utf8_low name low))

pub literal_value : (value : List ℕ) → list_all is_not_zero value ≡ true → list_all is_low value ≡ true → value_stands value ≡ true
literal_value value some low = both_true some (is_utf8-from_IsUtf8 value (utf8_low value low))

by_place : (bytes : List ℕ) (i all k : ℕ) → ((j : ℕ) → j < i → slice_index bytes j ≤ all) → (k ≡ i) ⊎ (k < i) → slice_index bytes k ≤ bit_or all (slice_index bytes i)
by_place bytes i all k h (inl is) = subst (λ (j : ℕ). slice_index bytes j ≤ bit_or all (slice_index bytes i)) (sym is) (le_or_r all (slice_index bytes i))
by_place bytes i all k h (inr below) = omega (arith, h k below, le_or_l all (slice_index bytes i))

-- no byte so far is above the bits of all of them, and neither is one more
pub one_more : (bytes : List ℕ) (i all : ℕ) → ((k : ℕ) → k < i → slice_index bytes k ≤ all) → (k : ℕ) → k < i + 1 → slice_index bytes k ≤ bit_or all (slice_index bytes i)
one_more bytes i all h k within = by_place bytes i all k h (eq-or-lt_of_le (omega (arith, within)))
