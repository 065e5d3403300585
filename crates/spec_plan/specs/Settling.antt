-- How a new sequence is raised until nothing conflicts.
use Rattle.std.specs.Prelude.{◌≡◌, ℕ, zero, suc, List, [], Option, Some, None, slice_get}
use Rattle.std.specs.Option.{option_and_then, option_map_or}
use Rattle.spec_world.specs.declared.world.Row.{Row}
use Rattle.spec_plan.specs.Forests.{Forest, part_at}
use Rattle.spec_plan.specs.Achievers.{row_in}
use Rattle.spec_plan.specs.Planned.{id_of}
use Rattle.spec_plan.specs.Conflicts.{Pair, conflicts}
use Rattle.spec_plan.specs.Raising.{raised as raised_at}

abbrev pub first_conflict : List Row → Forest → Option Pair
first_conflict rows tree = slice_get (conflicts rows tree) 0

-- The sequence of this key is raised so often, each time because of a conflict, and this is the tree afterwards.
abbrev pub AreRaises : List Row → ℕ → ℕ → Forest → Forest → Type 0
AreRaises rows sequence zero tree after = tree ≡ after
AreRaises rows sequence (suc raises) tree after =
    (pair : Pair) × (next : Forest) × (first_conflict rows tree ≡ Some pair) × (raised_at sequence tree ≡ Some next) × AreRaises rows sequence raises next after

-- .. and then nothing conflicts
pub record Settles (rows : List Row) (sequence raises : ℕ) (tree after : Forest) : Type 0 where
  pub raised : AreRaises rows sequence raises tree after
  pub settled : first_conflict rows after ≡ None

-- .. or this is the first conflict, and no raise is left
pub record Stalls (rows : List Row) (sequence : ℕ) (tree after : Forest) (pair : Pair) : Type 0 where
  pub raises : ℕ
  pub raised : AreRaises rows sequence raises tree after
  pub conflict : first_conflict rows after ≡ Some pair
  pub last : raised_at sequence after ≡ None

-- the ID of the row of a key
abbrev pub name_at : List Row → Forest → ℕ → List ℕ
name_at rows tree key = option_map_or (id_of rows) (option_and_then row_in (part_at key tree)) []
