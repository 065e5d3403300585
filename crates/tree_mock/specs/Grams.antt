-- Three bytes that stand beside each other in texts.
use Rattle.std.specs.Prelude.{◌≡◌, ◌≢◌, ◌≤◌, ◌+◌, ◌*◌, ◌%◌, ◌^◌, ℕ, List, length, get_or, Option, Some, Bool, true, false}
use Rattle.tree_mock.specs.declared.patterns.grams.Grams.{Grams}

-- the place of three bytes
abbrev pub place : ℕ → ℕ → ℕ → ℕ
place first second third = (((first * 5281) % 2 ^ 16 + (second * 167) % 2 ^ 16) % 2 ^ 16 + third) % 2 ^ 16 % 16384

-- the place of the three bytes of a text that begin here
abbrev pub place_at : List ℕ → ℕ → ℕ
place_at text at = place (get_or text at 0) (get_or text (at + 1) 0) (get_or text (at + 2) 0)

-- three bytes of a pattern, none of which is a star, have this place
pub record Stands (pattern : List ℕ) (place : ℕ) : Type 0 where
  pub at : ℕ
  pub within : at + 3 ≤ length pattern
  pub first : get_or pattern at 0 ≢ 42
  pub second : get_or pattern (at + 1) 0 ≢ 42
  pub third : get_or pattern (at + 2) 0 ≢ 42
  pub is : place ≡ place_at pattern at

-- what is kept of a pattern: the place of three of its bytes, or nothing
abbrev pub IsGram : List ℕ → Option ℕ → Type 0
IsGram pattern gram = (place : ℕ) → gram ≡ Some place → Stands pattern place

-- the places of all three bytes of a text are marked
abbrev pub AreSeen : List ℕ → List Bool → Type 0
AreSeen text seen = (at : ℕ) → at + 3 ≤ length text → get_or seen (place_at text at) false ≡ true

-- the text has no three bytes of the place that is kept
abbrev pub Lacks : List ℕ → Option ℕ → Type 0
Lacks text gram = (place : ℕ) × (gram ≡ Some place) × ((at : ℕ) → at + 3 ≤ length text → place ≢ place_at text at)

-- once so many patterns were tried, the text was read
abbrev pub IsRead : List ℕ → Grams → Type 0
IsRead text grams = 16 ≤ grams.tried → AreSeen text grams.seen
