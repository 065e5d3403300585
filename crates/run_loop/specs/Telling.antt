-- What telling adds to a block.
use Rattle.std.specs.Prelude.{ℕ, ℤ, List, ◌∷◌, if◌then◌else◌}
use Rattle.std.specs.Ordering.{int_eq}

-- the changes, with this fact first where it has changed
abbrev pub with_fact : ℕ → ℤ → ℤ → List (ℕ × ℤ) → List (ℕ × ℤ)
with_fact fact old new changes = if int_eq old new then changes else (fact, new) ∷ changes
