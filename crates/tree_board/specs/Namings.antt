-- What is named while a tree is gone through.
use Rattle.std.specs.Prelude.{◌≡◌, ℕ, ◌+◌, Bool, List, ◌++◌, length, map, sum, if◌then◌else◌}
use Rattle.std.specs.List.{flat_map, list_any}
use Rattle.spec_script.specs.declared.syntax.Script.{Script}
use Rattle.spec_script.specs.Scripts.{stmt_names}
use Rattle.spec_tree.specs.declared.cell.Naming.{Naming}
use Rattle.spec_tree.specs.declared.term.Port.{Port}
use Rattle.spec_tree.specs.declared.term.Term.{Term, Term-F, fold-Term, out-Term}
use Rattle.spec_tree.specs.Boards.{literal_names, makes_scope, named_in, namings_at, scripts_of, standing_from, standing_all, value_keys}
use Rattle.spec_tree.specs.Boards as model
use Rattle.tree_board.specs.declared.scope.Scope.{Scope}
use Rattle.tree_board.specs.Scopes.{number_of, cells_of}

-- these keys, named in a scope
abbrev pub names_here : Scope → List (List ℕ) → List Naming
names_here scope keys = map (named_in (number_of scope) (cells_of scope)) keys

-- the names of some scripts
abbrev pub script_names : List Script → List (List ℕ)
script_names scripts = flat_map (λ (script : Script). flat_map stmt_names script.stmts) scripts

-- the keys that a node names in the scope in which it stands
abbrev pub keys_of_node : Term → List (List ℕ)
keys_of_node node =
    script_names (scripts_of (out-Term node).code (out-Term node).guards)
    ++ flat_map (λ (port : Port). value_keys port.value) (out-Term node).ports

-- what the nodes of a term name, from this uid on, within a scope of this number
abbrev pub namings_of_term : Term → ℕ → ℕ → model.Scope → List Naming
namings_of_term term uid number scope = flat_map namings_at (standing_from term uid number scope)

-- what some terms name, one after the other
abbrev pub namings_of_terms : List Term → ℕ → ℕ → model.Scope → List Naming
namings_of_terms terms uid number scope = flat_map namings_at (standing_all (map standing_from terms) uid number scope)

-- two lists have the same items: a test holds of one in the first exactly where it holds of one in the second
abbrev pub HaveSame : {X : Type 0} → List X → List X → Type 0
HaveSame {X} xs ys = (p : X → Bool) → list_any p xs ≡ list_any p ys

-- these namings, and these keys of a scope that is not yet left
abbrev pub named_so_far : Scope → List (List ℕ) → List Naming → List Naming
named_so_far scope keys namings = namings ++ names_here scope keys

-- to what was named before, what is named within the scope was added
abbrev pub AreNamed : Scope → (ℕ → model.Scope → List Naming) → List (List ℕ) → List Naming → List (List ℕ) → List Naming → Type 0
AreNamed scope within keys_before before keys now =
    HaveSame (named_so_far scope keys now) (named_so_far scope keys_before before ++ within (number_of scope) (cells_of scope))

-- how many keys a node names: in its scripts and by its ports, and a SubTree node those with literals in the scope that it makes
abbrev pub own_name_count : {A : Type 0} → Term-F A → ℕ
own_name_count node =
    length (script_names (scripts_of node.code node.guards)) + length (flat_map (λ (port : Port). value_keys port.value) node.ports)
    + (if makes_scope node.kind then length (literal_names node.ports) else 0)

-- how many keys the nodes of a term name
abbrev pub name_count : Term → ℕ
name_count = fold-Term ℕ (λ node. own_name_count node + sum node.children)
