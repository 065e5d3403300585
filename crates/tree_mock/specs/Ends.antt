-- Marks of the ends of texts.
use Rattle.std.specs.Prelude.{◌≡◌, ◌≤◌, ◌+◌, ◌-◌, ◌*◌, ◌%◌, ◌^◌, ℕ, List, [], ◌∷◌, length, drop, get_or, true}
use Rattle.tree_mock.specs.Patterns.{is_plain}
use Rattle.tree_mock.specs.declared.patterns.ends.End.{End}

-- the mark of a text that has this byte before one of that mark
abbrev pub marked : ℕ → ℕ → ℕ
marked mark byte = ((mark * 1000003) % 2 ^ 32 + byte) % 2 ^ 32

-- the mark of a text
abbrev pub mark_of : List ℕ → ℕ
mark_of [] = 0
mark_of (byte ∷ bytes) = marked (mark_of bytes) byte

-- the end of a text that has so many bytes
abbrev pub last : ℕ → List ℕ → List ℕ
last count text = drop (length text - count) text

-- what a pattern ends with, where no star stands in it
pub record IsEnd (pattern : List ℕ) (end : End) : Type 0 where
  pub within : end.len ≤ length pattern
  pub few : end.len ≤ 16
  pub plain : is_plain (last end.len pattern) ≡ true
  pub mark : end.mark ≡ mark_of (last end.len pattern)

-- the marks of the ends of a text, by their lengths
abbrev pub AreMarks : List ℕ → List ℕ → Type 0
AreMarks text marks = (count : ℕ) → count ≤ 16 → count ≤ length text → get_or marks count 0 ≡ mark_of (last count text)
