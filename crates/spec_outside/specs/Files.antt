-- What a shelf tells of a file.
use Rattle.std.specs.Prelude.{ℕ, List, Option, Some, None}

-- a fact of what the name holds, where the shelf tells
abbrev pub Told : Option (List ℕ → List ℕ) → List ℕ → (List ℕ → Type 0) → Type 0
Told None name P = Unit {0}
Told (Some holds) name P = P (holds name)
