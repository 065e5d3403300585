-- Identifiers, which scripts, tree files and world scripts share, and the white space round them.
use Rattle.std.specs.Prelude.{ℕ, Bool, false, ◌==◌, ◌&&◌, ◌||◌, List, [], ◌∷◌}
use Rattle.std.specs.Char.{is_ascii_alphabetic, is_ascii_digit}
use Rattle.std.specs.List.{list_all}

-- blank, tab, line feed and carriage return
abbrev pub is_white : ℕ → Bool
is_white c = c == 32 || c == 9 || c == 10 || c == 13

-- an ASCII letter or `_`, with which an identifier begins
abbrev pub is_identifier_start : ℕ → Bool
is_identifier_start c = is_ascii_alphabetic c || c == 95

-- these and digits, with which it goes on
abbrev pub is_identifier_continue : ℕ → Bool
is_identifier_continue c = is_identifier_start c || is_ascii_digit c

-- a letter or `_`, and then letters, digits and `_`
abbrev pub is_identifier : List ℕ → Bool
is_identifier [] = false
is_identifier (c ∷ cs) = is_identifier_start c && list_all is_identifier_continue (c ∷ cs)
