-- Nodes that are marked by their number.
use Rattle.std.specs.Prelude.{ℕ, Bool, false, if◌then◌else◌, List, Option, Some, None, slice_index_or}
use Rattle.spec_plan.specs.declared.part.Part.{Part}
use Rattle.spec_plan.specs.declared.part.Part.TheVariants.{Condition}
use Rattle.spec_plan.specs.declared.places.Place.{Place}
use Rattle.spec_plan.specs.declared.places.Spot.{Spot}

abbrev pub is_marked : List Bool → ℕ → Bool
is_marked marks uid = slice_index_or marks uid false

-- a node of this number, where it is a condition
abbrev pub marked_part : Bool → ℕ → ℕ → ℕ → Part → Option Place
marked_part marked uid key level (Condition row) = if marked then Some (record { key = key; uid = uid; row = row; level = level }) else None
marked_part marked uid key level _ = None

-- .. and is marked
abbrev pub marked_place : List Bool → ℕ → Spot → Option Place
marked_place marks uid spot = marked_part (is_marked marks uid) uid spot.key spot.level spot.part
