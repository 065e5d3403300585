-- The labels of numbers.
use Rattle.std.specs.Prelude.{ℕ, List, [], ◌∷◌, ◌≡◌, ◌<◌, length, get_or, decimal}

-- each label is a blank and its place in decimal
abbrev pub AreLabels : List (List ℕ) → Type 0
AreLabels labels = (n : ℕ) → n < length labels → get_or labels n [] ≡ 32 ∷ decimal n
