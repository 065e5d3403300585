-- What becomes of the bytes of a sink, where it tells them.
use Rattle.std.specs.Prelude.{ℕ, ◌≡◌, List, ◌++◌, Option, Some, None}

-- new is old with the piece at its end
abbrev pub Appended : Option (List ℕ) → Option (List ℕ) → List ℕ → Type 0
Appended None new piece = Unit {0}
Appended (Some old) new piece = new ≡ Some (old ++ piece)

-- new is old with a prefix of the piece at its end
pub record AppendedPrefix (old new : Option (List ℕ)) (piece : List ℕ) : Type 0 where
  pub front : List ℕ
  pub rest : List ℕ
  pub parts : piece ≡ front ++ rest
  pub appended : Appended old new front
