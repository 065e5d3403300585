-- The texts that can stand in a file of marks: names, and values of attributes.
use Rattle.std.specs.Prelude.{ℕ, Bool, false, not, ◌==◌, ◌&&◌, ◌||◌, nat_le, List, [], ◌∷◌}
use Rattle.std.specs.Char.{is_ascii_digit}
use Rattle.std.specs.List.{list_all}
use Rattle.std.specs.Str.{is_utf8}
use Rattle.spec_script.specs.Identifiers.{is_identifier_start}

-- a letter, `_` or a byte of a character that is not ASCII
abbrev pub is_name_first : ℕ → Bool
is_name_first c = is_identifier_start c || nat_le 128 c

-- these, digits, `-`, `.` and `:`
abbrev pub is_name_rest : ℕ → Bool
is_name_rest c = is_name_first c || is_ascii_digit c || c == 45 || c == 46 || c == 58

-- a name of an element or of an attribute
abbrev pub is_name : List ℕ → Bool
is_name [] = false
is_name (c ∷ cs) = is_name_first c && list_all is_name_rest (c ∷ cs)

-- all bytes but 0
abbrev pub is_not_zero : ℕ → Bool
is_not_zero c = not (c == 0)

-- a name that can be written
abbrev pub name_stands : List ℕ → Bool
name_stands name = is_name name && is_utf8 name

-- a value that can be written: no byte of it is 0
abbrev pub value_stands : List ℕ → Bool
value_stands value = list_all is_not_zero value && is_utf8 value
