-- The numbers that words write canonically.
use Rattle.std.specs.Prelude.{ℕ, ◌+◌, ◌-◌, ◌*◌, ◌==◌, Bool, false, ◌&&◌, ◌||◌, nat_lt, if◌then◌else◌, List, [], ◌∷◌, take, drop, codes, bytes_eq, ℤ, pos, negsuc, int_le, Option, Some, None}
use Rattle.std.specs.Char.{is_ascii_digit}
use Rattle.std.specs.List.{list_all, position}
use Rattle.std.specs.Str.Parse.{signed_digits_value}

-- digits of which the first is not 0
abbrev pub is_positive : List ℕ → Bool
is_positive [] = false
is_positive (b ∷ bs) = nat_lt 48 b && list_all is_ascii_digit (b ∷ bs)

-- a word without one minus at its front
abbrev pub without_minus : List ℕ → List ℕ
without_minus [] = []
without_minus (b ∷ bs) = if b == 45 then bs else b ∷ bs

-- `0`, or an optional minus and digits of which the first is not 0
abbrev pub is_canonical : List ℕ → Bool
is_canonical word = bytes_eq word (codes "0") || is_positive (without_minus word)

-- the number that a word writes canonically, however large
abbrev pub number_in : List ℕ → Option ℤ
number_in word = if is_canonical word then Some (signed_digits_value 10 word) else None

-- whether a number stands in this range, its ends included
abbrev pub in_range : ℤ → ℤ → ℤ → Bool
in_range low high number = int_le low number && int_le number high

-- any number of 64 bits
abbrev pub is_int : ℤ → Bool
is_int n = in_range (negsuc 9223372036854775807) (pos 9223372036854775807) n

-- a number, where it has 64 bits
abbrev pub of_64_bits : ℤ → Option ℤ
of_64_bits n = if is_int n then Some n else None

-- the number of 64 bits that a word writes canonically
abbrev pub int_in : List ℕ → Option ℤ
int_in word = if is_canonical word then of_64_bits (signed_digits_value 10 word) else None

-- the thousandths that one to three digits after a point count
abbrev pub digits_after : List ℕ → Option ℕ
digits_after (a ∷ []) = Some (100 * (a - 48))
digits_after (a ∷ b ∷ []) = Some (100 * (a - 48) + 10 * (b - 48))
digits_after (a ∷ b ∷ c ∷ []) = Some (100 * (a - 48) + 10 * (b - 48) + (c - 48))
digits_after _ = None

-- the thousandths that the bytes after a point count, where they are such digits
abbrev pub thousandths_after : List ℕ → Option ℕ
thousandths_after bytes = if list_all is_ascii_digit bytes then digits_after bytes else None

-- the thousandths of a number that is not negative, and of what stands after its point
abbrev pub thousandths_by : Option ℤ → Option ℕ → Option ℕ
thousandths_by (Some (pos whole)) (Some more) = Some (1000 * whole + more)
thousandths_by _ _ = None

-- the thousandths of a word with its point at this place, or of one that has none
abbrev pub thousandths_at : Option ℕ → List ℕ → Option ℕ
thousandths_at None word = thousandths_by (number_in word) (Some 0)
thousandths_at (Some point) word = thousandths_by (number_in (take point word)) (thousandths_after (drop (point + 1) word))

-- the thousandths of the decimal number that a word writes: digits without a 0 before another, and at most a point (46)
-- and one to three digits
abbrev pub thousandths_in : List ℕ → Option ℕ
thousandths_in word = thousandths_at (position (λ b. b == 46) word) word
