-- What is named, by the numbers of keys.
use Rattle.std.specs.Prelude.{◌≡◌, ℕ, ◌<◌, ◌+◌, List, [], ◌∷◌, ◌++◌, get_or, if◌then◌else◌}
use Rattle.std.specs.Ordering.{is_eq, nat_cmp, ordering_then}
use Rattle.std.specs.declared.cmp.Ordering.{Ordering}
use Rattle.spec_tree.specs.declared.cell.Cell.{Cell}
use Rattle.spec_tree.specs.declared.cell.Naming.{Naming}
use Rattle.spec_tree.specs.Boards.{owner}
use Rattle.tree_board.specs.declared.rows.Row.{Row}

-- keys were added after those before
abbrev pub Grows : List (List ℕ) → List (List ℕ) → Type 0
Grows before now = (more : List (List ℕ)) × (now ≡ before ++ more)

-- the key of a number
abbrev pub key_at : List (List ℕ) → ℕ → List ℕ
key_at keys n = get_or keys n []

-- the cell of a scope's number and a key's
abbrev pub cell_by : List (List ℕ) → ℕ × ℕ → Cell
cell_by keys place = owner place.0 (key_at keys place.1)

-- what a row says
abbrev pub naming_by : List (List ℕ) → Row → Naming
naming_by keys row = record { number = row.named.0; key = key_at keys row.named.1; cell = cell_by keys row.cell }

-- a row has numbers of so many keys alone
abbrev pub IsWithin : ℕ → Row → Type 0
IsWithin count row = (row.named.1 < count) × (row.cell.1 < count)

-- pairs of numbers are ordered by the first, and then by the second
abbrev pub place_order : ℕ × ℕ → ℕ × ℕ → Ordering
place_order a b = ordering_then (nat_cmp a.0 b.0) (nat_cmp a.1 b.1)

-- the place of the first item that is equal; how many items there are where none is
abbrev pub first_by : {K : Type 0} → (K → K → Ordering) → List K → K → ℕ
first_by order [] item = 0
first_by order (x ∷ xs) item = if is_eq (order x item) then 0 else 1 + first_by order xs item
