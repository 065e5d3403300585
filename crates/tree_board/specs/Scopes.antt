-- What the scopes mean while the names of a tree are resolved.
use Rattle.std.specs.Prelude.{ℕ, List, Option, Some, None, if◌then◌else◌}
use Rattle.std.specs.Str.{bytes_eq}
use Rattle.indexmap.specs.IndexMap.{get}
use Rattle.spec_tree.specs.declared.cell.Cell.{Cell}
use Rattle.spec_tree.specs.Boards.{main_scope, cell_by_port, cell_by_value}
use Rattle.spec_tree.specs.Boards as model
use Rattle.spec_tree.specs.declared.term.Port.{Port}
use Rattle.tree_board.specs.declared.scope.Mappings.{Mappings}
use Rattle.tree_board.specs.declared.scope.Scope.{Scope, Main, Below'}

-- the cell of a key by the cell that a port gives it, if one does
abbrev pub cell_by_entry : Option Cell → Mappings → model.Scope → model.Scope
cell_by_entry (Some cell) mappings outer key = cell
cell_by_entry None mappings outer key = cell_by_port None mappings.uid mappings.autoremap outer key

-- the scope of mappings within another
abbrev pub cells_below : Mappings → model.Scope → model.Scope
cells_below mappings outer key = cell_by_entry (get bytes_eq mappings.cells key) mappings outer key

-- the cell that a port of a SubTree node gives its name
abbrev pub cell_of_port : Port → ℕ → model.Scope → List ℕ → Option Cell
cell_of_port port uid outer key = if bytes_eq port.name key then Some (cell_by_value port.value uid outer key) else None

-- the scope that the code's scope stands for
abbrev pub cells_of : Scope → model.Scope
cells_of Main key = main_scope key
cells_of (Below' mappings _ outer) key = cells_below mappings.now (cells_of outer) key

-- the number of that scope
abbrev pub number_of : Scope → ℕ
number_of Main = 0
number_of (Below' mappings _ outer) = mappings.now.uid
