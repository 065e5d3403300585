-- What was written of a text so far.
use Rattle.std.specs.Prelude.{◌≡◌, ◌⊎◌, ℕ, List, [], ◌++◌, Option}
use Rattle.spec_outside.specs.Appending.{Appended}
use Rattle.spec_outside.specs.Writes.{AreLines}

-- all of a text was written but this rest
pub record IsUnderway (text rest : List ℕ) (old now : Option (List ℕ)) : Type 0 where
  pub said : List ℕ
  pub parts : text ≡ said ++ rest
  pub appended : Appended old now said

-- nothing, or whole lines
abbrev pub AreLinesOrNone : List ℕ → Type 0
AreLinesOrNone rest = (rest ≡ []) ⊎ AreLines rest
