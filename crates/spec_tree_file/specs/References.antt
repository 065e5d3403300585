-- What a written value says: each reference in it stands for its character, and all else for itself.
use Rattle.std.specs.Prelude.{ℕ, zero, suc, ◌+◌, Bool, not, ◌==◌, ◌&&◌, ◌||◌, nat_lt, nat_le, nat_eq, List, [], ◌∷◌, ◌++◌, take, drop, codes, Option, Some, None, if◌then◌else◌}
use Rattle.std.specs.Char.{encode_utf8, is_digit}
use Rattle.std.specs.List.{prefix_len, starts_with}
use Rattle.std.specs.Str.Parse.{digits_value}

-- whether the text begins with this word
abbrev pub begins_with : List ℕ → List ℕ → Bool
begins_with word text = starts_with nat_eq text word

-- a Unicode scalar value other than 0: at most 0x10FFFF, and no surrogate
abbrev pub is_character : ℕ → Bool
is_character n = not (n == 0) && (nat_lt n 0xD800 || nat_le 0xE000 n && nat_le n 0x10FFFF)

-- digits of this base and a `;`, after so many bytes: the character, and how many bytes there are in all
abbrev pub numeric : ℕ → ℕ → List ℕ → Option (ℕ × ℕ)
numeric base before cs =
    let n = prefix_len (λ c. is_digit c base) cs in
    let c = digits_value base (take n cs) in
    if begins_with (codes ";") (drop n cs) && is_character c then Some (c, before + n + 1) else None

-- the reference after an `&`: its character, and how many bytes it has there
abbrev pub reference_of : List ℕ → Option (ℕ × ℕ)
reference_of cs =
    if begins_with (codes "lt;") cs then Some (60, 3)
    else (if begins_with (codes "gt;") cs then Some (62, 3)
    else (if begins_with (codes "amp;") cs then Some (38, 4)
    else (if begins_with (codes "quot;") cs then Some (34, 5)
    else (if begins_with (codes "apos;") cs then Some (39, 5)
    else (if begins_with (codes "#x") cs then numeric 16 2 (drop 2 cs)
    else (if begins_with (codes "#") cs then numeric 10 1 (drop 1 cs) else None))))))

-- a byte that begins no reference: 38 is `&`
abbrev pub is_plain_byte : ℕ → Bool
is_plain_byte c = not (c == 38)

-- what a value says after so many bytes that are part of a reference
abbrev pub decoded_from : ℕ → List ℕ → List ℕ
decoded_from n [] = []
decoded_from (suc n) (c ∷ cs) = decoded_from n cs
decoded_from zero (c ∷ cs) =
    if is_plain_byte c then c ∷ decoded_from 0 cs
    else (elim (reference_of cs) [ Some r ↦ encode_utf8 r.0 ++ decoded_from r.1 cs | None ↦ c ∷ decoded_from 0 cs ])

-- what a value says
abbrev pub decoded : List ℕ → List ℕ
decoded value = decoded_from 0 value
