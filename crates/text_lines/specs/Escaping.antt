-- Bytes that stand for themselves in a value.
use Rattle.std.specs.Prelude.{ℕ, Bool, not, ◌==◌, ◌||◌, nat_lt}

-- all bytes between two `"` but `&`, `<`, `"` and those below 32
abbrev pub is_plain_byte : ℕ → Bool
is_plain_byte c = not (c == 38 || c == 60 || c == 34 || nat_lt c 32)

-- the byte stands for itself in a text between single quotes
abbrev pub is_plain_in_quotes : ℕ → Bool
is_plain_in_quotes c = not (c == 39 || c == 92 || nat_lt c 32)
