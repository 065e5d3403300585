-- What is kept of a blackboard in an event.
use Rattle.std.specs.Prelude.{◌≡◌, ◌<◌, ◌/◌, ◌%◌, ℕ, List, Option, Some, None, get_or, is_some, length, true}
use Rattle.std.specs.Int.{bit_at}
use Rattle.spec_script.specs.declared.value.Value.{Value}

-- what a slot held where the event began: what is kept of it where it was written, and else what it holds
abbrev pub held_before : Option (Option Value) → Option Value → Option Value
held_before (Some before) now = before
held_before None now = now

-- the group of each slot of which something is kept has its bit
abbrev pub AreMarked : List (Option (Option Value)) → ℕ → Type 0
AreMarked before groups = (slot : ℕ) → is_some (get_or before slot None) ≡ true → bit_at groups (slot / 64 % 64) ≡ 1

-- nothing is kept of any slot
abbrev pub NoneKept : List (Option (Option Value)) → Type 0
NoneKept before = (slot : ℕ) → get_or before slot None ≡ None

-- a record of the slots that were written since the entries were these
pub record IsRecord (opening entries : List (Option Value)) (before : List (Option (Option Value))) (groups : ℕ) : Type 0 where
  pub places : length before ≡ length entries
  pub many : length opening ≡ length entries
  pub past : (slot : ℕ) → slot < length entries → get_or opening slot None ≡ held_before (get_or before slot None) (get_or entries slot None)
  pub marked : AreMarked before groups

-- places for a record, in which nothing is kept
abbrev pub IsEmptyRecord : List (Option Value) → List (Option (Option Value)) → Type 0
IsEmptyRecord entries before = (length before ≡ length entries) × NoneKept before
