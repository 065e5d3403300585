-- Blackboards: the cell of each key in each scope of a tree, the slots of the cells, and what a board
-- holds at the beginning.
use Rattle.std.specs.Prelude.{ℕ, ◌+◌, ◌&&◌, nat_eq, List, [], ◌∷◌, ◌++◌, Bool, true, false, if◌then◌else◌, Option, Some, None, find, length, map, replicate, slice_set}
use Rattle.std.specs.Cmp.Lexicographic.{slice_cmp}
use Rattle.std.specs.List.{flat_map}
use Rattle.std.specs.Ordering.{nat_cmp, ordering_then}
use Rattle.std.specs.declared.cmp.Ordering.{Ordering}
use Rattle.std.specs.declared.cmp.Ordering.TheVariants.{Less, Equal, Greater}
use Rattle.std.specs.Str.{bytes_eq}
use Rattle.spec_script.specs.declared.syntax.Script.{Script}
use Rattle.spec_script.specs.declared.value.Value.{Value}
use Rattle.spec_script.specs.Scripts.{stmt_names}
use Rattle.spec_tree.specs.declared.cell.Cell.{Cell}
use Rattle.spec_tree.specs.declared.cell.Naming.{Naming}
use Rattle.spec_tree.specs.declared.term.Guards.{Guards}
use Rattle.spec_tree.specs.declared.term.Kind.{Kind}
use Rattle.spec_tree.specs.declared.term.Kind.TheVariants.{SubTree}
use Rattle.spec_tree.specs.declared.term.Port.{Port}
use Rattle.spec_tree.specs.declared.term.PortValue.{PortValue}
use Rattle.spec_tree.specs.declared.term.PortValue.TheVariants.{Lit, Key}
use Rattle.spec_tree.specs.declared.term.Term.{Term, Term-F, fold-Term}
use Rattle.spec_tree.specs.declared.term.Tree.{Tree}

-- a scope gives each of its keys a cell
abbrev pub Scope : Type 0
Scope = List ℕ → Cell

-- a scope that owns each of its keys
abbrev pub owner : ℕ → Scope
owner number key = record { scope = number; key = key }

-- the scope of the main tree
abbrev pub main_scope : Scope
main_scope = owner 0

-- whether a key begins with `_`
abbrev pub is_private : List ℕ → Bool
is_private [] = false
is_private (c ∷ key) = nat_eq c 95

-- the cell of a key that a SubTree node's port names: that of the parent's key, or one of its own
-- where the port has a literal
abbrev pub cell_by_value : PortValue → ℕ → Scope → Scope
cell_by_value (Key mapped) uid outer key = outer mapped
cell_by_value (Lit value) uid outer key = owner uid key

-- the cell of a key by its port. A key without a port is the key of its name in the parent's scope, where
-- all others are mapped, and else the scope's own
abbrev pub cell_by_port : Option Port → ℕ → Bool → Scope → Scope
cell_by_port (Some port) uid autoremap outer key = cell_by_value port.value uid outer key
cell_by_port None uid false outer key = owner uid key
cell_by_port None uid true outer key = if is_private key then owner uid key else outer key

-- the port of this name
abbrev pub port_of : List Port → List ℕ → Option Port
port_of ports name = find (λ (port : Port). bytes_eq port.name name) ports

-- the scope that a SubTree node makes within the scope in which it stands, by its uid, its ports and
-- whether it maps all other keys
abbrev pub scope_below : ℕ → List Port → Bool → Scope → Scope
scope_below uid ports autoremap outer key = cell_by_port (port_of ports key) uid autoremap outer key

-- the scope of a node's children, and its number: a SubTree node makes one
abbrev pub children_scope : Kind → ℕ → List Port → Bool → Scope → Scope
children_scope SubTree uid ports autoremap outer = scope_below uid ports autoremap outer
children_scope _ uid ports autoremap outer = outer

-- the number of that scope: the SubTree node's uid, or the number of the scope in which the node stands
abbrev pub children_scope_number : Kind → ℕ → ℕ → ℕ
children_scope_number SubTree uid number = uid
children_scope_number _ uid number = number

-- the scripts of a node, its code first
abbrev pub given : Option Script → List Script
given (Some script) = script ∷ []
given None = []

-- the scripts of a node: its code and its guards
abbrev pub scripts_of : Option Script → Guards → List Script
scripts_of code guards =
    given code ++ given guards.failure_if ++ given guards.success_if ++ given guards.skip_if ++ given guards.while_true
    ++ given guards.on_success ++ given guards.on_failure ++ given guards.post ++ given guards.on_halted

-- a node where it stands in a tree: its uid, the number of the scope in which it stands and that scope,
-- and what it says of keys
pub record Standing : Type 0 where
  pub uid : ℕ
  pub number : ℕ
  pub scope : Scope
  pub kind : Kind
  pub ports : List Port
  pub autoremap : Bool
  pub scripts : List Script

-- the nodes of some terms in pre-order, one term after the other, from this uid on
abbrev pub standing_all : List (ℕ → ℕ → Scope → List Standing) → ℕ → ℕ → Scope → List Standing
standing_all [] uid number scope = []
standing_all (child ∷ children) uid number scope =
    child uid number scope ++ standing_all children (uid + length (child uid number scope)) number scope

-- the nodes of a term in pre-order, where those of its children are known
abbrev pub standing_step : Term-F (ℕ → ℕ → Scope → List Standing) → ℕ → ℕ → Scope → List Standing
standing_step node uid number scope =
    record { uid = uid; number = number; scope = scope; kind = node.kind; ports = node.ports; autoremap = node.autoremap; scripts = scripts_of node.code node.guards }
    ∷ standing_all node.children (uid + 1) (children_scope_number node.kind uid number) (children_scope node.kind uid node.ports node.autoremap scope)

-- the nodes of a term in pre-order, from this uid on, within a scope of this number
abbrev pub standing_from : Term → ℕ → ℕ → Scope → List Standing
standing_from = fold-Term (ℕ → ℕ → Scope → List Standing) standing_step

-- the nodes of a tree in pre-order
abbrev pub standing : Tree → List Standing
standing tree = standing_from tree.term 1 0 main_scope

-- whether a node makes a scope
abbrev pub makes_scope : Kind → Bool
makes_scope SubTree = true
makes_scope _ = false

-- a key that is named in the scope of a number, with its cell
abbrev pub named_in : ℕ → Scope → List ℕ → Naming
named_in number scope key = record { number = number; key = key; cell = scope key }

-- the keys that a port names in the scope in which its node stands
abbrev pub value_keys : PortValue → List (List ℕ)
value_keys (Key key) = key ∷ []
value_keys (Lit value) = []

-- the name of a port that has a literal
abbrev pub literal_name : PortValue → List ℕ → List (List ℕ)
literal_name (Lit value) name = name ∷ []
literal_name (Key key) name = []

-- the names of those of some ports that have literals
abbrev pub literal_names : List Port → List (List ℕ)
literal_names ports = flat_map (λ (port : Port). literal_name port.value port.name) ports

-- the keys that a node names in the scope in which it stands: in its scripts, and by its ports
abbrev pub keys_named : Standing → List (List ℕ)
keys_named node =
    flat_map (λ (script : Script). flat_map stmt_names script.stmts) node.scripts ++ flat_map (λ (port : Port). value_keys port.value) node.ports

-- what a node names; a SubTree node names those of its ports that have literals in the scope that it makes as well. The
-- cell of any other port is that of the key that it names where the node stands
abbrev pub namings_at : Standing → List Naming
namings_at node =
    map (named_in node.number node.scope) (keys_named node)
    ++ (if makes_scope node.kind then map (named_in node.uid (scope_below node.uid node.ports node.autoremap node.scope)) (literal_names node.ports) else [])

-- every pair of a scope's number and a key that a tree names
abbrev pub namings : Tree → List Naming
namings tree = flat_map namings_at (standing tree)

-- cells are ordered by scope, and within a scope by the bytes of the key
abbrev pub cell_order : Cell → Cell → Ordering
cell_order a b = ordering_then (nat_cmp a.scope b.scope) (slice_cmp nat_cmp a.key b.key)

-- whether two cells are the same
abbrev pub same_cell : Cell → Cell → Bool
same_cell a b = nat_eq a.scope b.scope && bytes_eq a.key b.key

-- a cell among others in their order: in its place, and only once
abbrev pub placed_by : Ordering → Cell → Cell → List Cell → List Cell → List Cell
placed_by Less cell first rest placed = cell ∷ first ∷ rest
placed_by Equal cell first rest placed = first ∷ rest
placed_by Greater cell first rest placed = first ∷ placed

-- a cell put among others that are in their order
abbrev pub placed : Cell → List Cell → List Cell
placed cell [] = cell ∷ []
placed cell (first ∷ rest) = placed_by (cell_order cell first) cell first rest (placed cell rest)

-- some cells in order, each once
abbrev pub in_order : List Cell → List Cell
in_order [] = []
in_order (cell ∷ cells) = placed cell (in_order cells)

-- the slots of a tree: the cells of all that it names, in order. A slot is a place in this list
abbrev pub slots : Tree → List Cell
slots tree = in_order (map (λ (n : Naming). n.cell) (namings tree))

-- the slot of a cell: how many cells come before it
abbrev pub slot_in : List Cell → Cell → ℕ
slot_in [] cell = 0
slot_in (first ∷ rest) cell = if same_cell first cell then 0 else 1 + slot_in rest cell

-- the slots of the names in a scope
abbrev pub names_in : List Cell → Scope → List ℕ → ℕ
names_in cells scope key = slot_in cells (scope key)

-- a literal with the cell that holds it
abbrev pub value_literals : PortValue → List ℕ → ℕ → List (Cell × Value)
value_literals (Lit value) name uid = (owner uid name, value) ∷ []
value_literals (Key key) name uid = []

-- the literals of a SubTree node's ports
abbrev pub literals_at : Standing → List (Cell × Value)
literals_at node = if makes_scope node.kind then flat_map (λ (port : Port). value_literals port.value port.name node.uid) node.ports else []

-- the literals of all SubTree nodes of a tree
abbrev pub literals : Tree → List (Cell × Value)
literals tree = flat_map literals_at (standing tree)

-- a board with these literals put in, each at the slot of its cell
abbrev pub with_literals : List Cell → List (Cell × Value) → List (Option Value) → List (Option Value)
with_literals cells [] entries = entries
with_literals cells (literal ∷ rest) entries = with_literals cells rest (slice_set entries (slot_in cells literal.0) (Some literal.1))

-- the board before the first event, by slot: the literals of the SubTree nodes, and nothing else
abbrev pub opening_board : Tree → List (Option Value)
opening_board tree = with_literals (slots tree) (literals tree) (replicate (length (slots tree)) None)
