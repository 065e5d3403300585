-- Which texts a pattern with stars matches.
use Rattle.std.specs.Prelude.{ℕ, List, [], ◌∷◌, Bool, true, false, ◌&&◌, ◌||◌, nat_eq, if◌then◌else◌}

-- whether a byte is the star, `*`
abbrev pub is_star : ℕ → Bool
is_star byte = nat_eq byte 42

-- ---- The test

-- whether a text is empty
abbrev pub is_empty : List ℕ → Bool
is_empty [] = true
is_empty (byte ∷ text) = false

-- whether a text begins with this byte, and what follows passes a test
abbrev pub begins : ℕ → (List ℕ → Bool) → List ℕ → Bool
begins byte test [] = false
begins byte test (other ∷ text) = nat_eq byte other && test text

-- whether some end of a text passes a test; the whole text and the empty one are ends of it
abbrev pub some_end : (List ℕ → Bool) → List ℕ → Bool
some_end test [] = test []
some_end test (byte ∷ text) = test (byte ∷ text) || some_end test text

-- whether a pattern matches a text
abbrev pub matches : List ℕ → List ℕ → Bool
matches [] text = is_empty text
matches (byte ∷ pattern) text = if is_star byte then some_end (matches pattern) text else begins byte (matches pattern) text
