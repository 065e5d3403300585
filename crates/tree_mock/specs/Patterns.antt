-- Patterns with stars, and the texts that they match.
use Rattle.std.specs.Prelude.{◌≡◌, ℕ, List, [], ◌∷◌, ◌++◌, Bool, not, take, if◌then◌else◌}
use Rattle.std.specs.List.{list_all, prefix_len}
use Rattle.spec_tree_file.specs.Patterns.{is_star}

-- the first of some texts, and the empty one where there is none
abbrev pub first : List (List ℕ) → List ℕ
first [] = []
first (text ∷ texts) = text

-- the texts after the first
abbrev pub others : List (List ℕ) → List (List ℕ)
others [] = []
others (text ∷ texts) = texts

-- a pattern with these texts in the places of its stars, in their order
abbrev pub filled : List ℕ → List (List ℕ) → List ℕ
filled [] texts = []
filled (byte ∷ pattern) texts = if is_star byte then first texts ++ filled pattern (others texts) else byte ∷ filled pattern texts

-- A pattern matches a text where it is that text with some texts in the places of its stars: a star stands for any text,
-- and every other byte for itself.
abbrev pub Matches : List ℕ → List ℕ → Type 0
Matches pattern text = (texts : List (List ℕ)) × (filled pattern texts ≡ text)

-- no star stands in this
abbrev pub is_plain : List ℕ → Bool
is_plain bytes = list_all (λ byte. not (is_star byte)) bytes

-- how many bytes of a pattern come before its first star
abbrev pub before_star : List ℕ → ℕ
before_star pattern = prefix_len (λ byte. not (is_star byte)) pattern

-- these bytes
abbrev pub front : List ℕ → List ℕ
front pattern = take (before_star pattern) pattern
