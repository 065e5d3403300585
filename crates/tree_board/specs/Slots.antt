-- What the slots of a tree mean.
use Rattle.std.specs.Prelude.{ℕ, ◌<◌, List, map, get_or}
use Rattle.std.specs.declared.cmp.Ordering.{Ordering}
use Rattle.spec_tree.specs.declared.cell.Cell.{Cell}
use Rattle.base_tables.specs.SlotTables.{SlotTable}
use Rattle.tree_board.specs.declared.rows.Row.{Row}
use Rattle.tree_board.specs.declared.slots.Entry.{Entry}
use Rattle.tree_board.specs.Rows.{cell_by, first_by, place_order}

-- entries are ordered by what is named
abbrev pub entry_order : Entry → Entry → Ordering
entry_order a b = place_order a.named b.named

-- an entry has the number of one of so many keys
abbrev pub IsOf : ℕ → Entry → Type 0
IsOf count e = e.named.1 < count

-- what an entry says
abbrev pub told_by : List (List ℕ) → Entry → Cell × ℕ
told_by keys e = (cell_by keys e.named, e.slot)

-- the table of these keys, cells and entries
abbrev pub table : List (List ℕ) → List Cell → List Entry → SlotTable
table keys cells entries = record { cells = cells; named = map {B = Cell × ℕ} (told_by keys) entries }

-- a key by its place in order
abbrev pub ranked : List ℕ → ℕ × ℕ → ℕ × ℕ
ranked ranks place = (place.0, get_or ranks place.1 0)

-- what a row names, with the slot of its cell
abbrev pub entry_by : List ℕ → List (ℕ × ℕ) → Row → Entry
entry_by ranks places row = record { named = ranked ranks row.named; slot = first_by place_order places (ranked ranks row.cell) }
