-- The cells that are found while a tree is gone through, and what a SubTree node says of the keys of its scope.
use Rattle.std.specs.Prelude.{◌≡◌, ℕ, ◌<◌, Bool, true, List, [], ◌∷◌, ◌++◌, map, length, Option, Some, None, if◌then◌else◌, Result, Ok, Err}
use Rattle.std.specs.List.{flat_map, list_any}
use Rattle.std.specs.Str.{bytes_eq}
use Rattle.std.specs.BTreeSet.{BTreeSet}
use Rattle.base_texts.specs.declared.stop.Stop.{Stop}
use Rattle.base_texts.specs.declared.stop.Stop.TheVariants as stop
use Rattle.indexmap.specs.IndexMap.{get}
use Rattle.spec_tree.specs.declared.cell.Cell.{Cell}
use Rattle.spec_tree.specs.declared.cell.Naming.{Naming}
use Rattle.spec_tree.specs.declared.term.Port.{Port}
use Rattle.spec_tree.specs.declared.term.PortValue.{PortValue}
use Rattle.spec_tree.specs.declared.term.PortValue.TheVariants.{Lit, Key}
use Rattle.spec_tree.specs.Boards.{Scope, cell_by_port, owner}
use Rattle.tree_board.specs.declared.counting.Inner.{Inner}
use Rattle.tree_board.specs.declared.counting.TooMany.{TooMany}
use Rattle.tree_board.specs.Namings.{HaveSame}

-- the cells of what is named
abbrev pub cells_named : List Naming → List Cell
cells_named names = map (λ (n : Naming). n.cell) names

-- cells that were found, and those of the keys of a scope that is not yet left
abbrev pub found_so_far : Scope → List (List ℕ) → BTreeSet Cell → List Cell
found_so_far scope keys cells = cells.keys ++ map scope keys

-- each cell is one of the others
abbrev pub AreAmong : List Cell → List Cell → Type 0
AreAmong cells others = (p : Cell → Bool) → list_any p cells ≡ true → list_any p others ≡ true

-- these cells were found, with those of the keys of a scope, and no others; or more of them than there may be
abbrev pub Found : {X : Type 0} → Result X (Stop TooMany) → ℕ → Scope → List (List ℕ) → BTreeSet Cell → List Cell → Type 0
Found (Ok _) most scope keys cells all = HaveSame (found_so_far scope keys cells) all
Found (Err stop.NoMemory) most scope keys cells all = Unit {0}
Found (Err (stop.Fault _)) most scope keys cells all = AreAmong cells.keys all × (most < length cells.keys)

-- the key to which a port's value maps its name
abbrev pub mapped_by : PortValue → Option (List ℕ)
mapped_by (Key mapped) = Some mapped
mapped_by (Lit value) = None

-- what a port says of a key, if it has its name
abbrev pub mapped_by_port : Port → List ℕ → Option (Option (List ℕ))
mapped_by_port port key = if bytes_eq port.name key then Some (mapped_by port.value) else None

-- the cell of a key by what is known of the port of its name
abbrev pub cell_left : Option (Option (List ℕ)) → ℕ → Bool → Scope → Scope
cell_left (Some (Some mapped)) uid autoremap outer key = outer mapped
cell_left (Some None) uid autoremap outer key = owner uid key
cell_left None uid autoremap outer key = cell_by_port None uid autoremap outer key

-- the cell of a key that is named in the scope of a SubTree node, within another scope
abbrev pub cells_left : Inner → Scope → Scope
cells_left inner outer key = cell_left (get bytes_eq inner.mapped key) inner.uid inner.autoremap outer key
