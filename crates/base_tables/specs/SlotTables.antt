-- The slots of a tree's keys, as a table.
use Rattle.std.specs.Prelude.{ℕ, ◌&&◌, nat_eq, List, Bool, if◌then◌else◌, Option, Some, None, find, map}
use Rattle.std.specs.List.{list_any}
use Rattle.std.specs.Str.{bytes_eq}
use Rattle.spec_tree.specs.declared.cell.Cell.{Cell}
use Rattle.spec_tree.specs.declared.cell.Naming.{Naming}
use Rattle.spec_tree.specs.declared.term.Tree.{Tree}
use Rattle.spec_tree.specs.Boards.{Scope, owner, main_scope, scope_below, Standing, standing, makes_scope, namings, in_order, slots, slot_in}

-- the scope of a number: that of the SubTree node with this uid, and the main tree's for every other number
abbrev pub scope_made : Option Standing → Scope
scope_made (Some node) = scope_below node.uid node.ports node.autoremap node.scope
scope_made None = main_scope

-- the scope of a number in a tree
abbrev pub scope_of : Tree → ℕ → Scope
scope_of tree number = scope_made (find (λ (node : Standing). makes_scope node.kind && nat_eq node.uid number) (standing tree))

-- whether a tree names this key in the scope of this number
abbrev pub is_named : Tree → ℕ → List ℕ → Bool
is_named tree number key = list_any (λ (n : Naming). nat_eq n.number number && bytes_eq n.key key) (namings tree)

-- the slot of a key in the scope of a number, where the tree names it
abbrev pub slot_of : Tree → ℕ → List ℕ → Option ℕ
slot_of tree number key = if is_named tree number key then Some (slot_in (slots tree) (scope_of tree number key)) else None

-- the keys that a tree names, each in its scope as if the scope owned it, in order
abbrev pub named_keys : Tree → List Cell
named_keys tree = in_order (map (λ (n : Naming). owner n.number n.key) (namings tree))

-- the slots as a table: the cells in order, and the keys that are named, each with the slot of its cell
pub record SlotTable : Type 0 where
  pub cells : List Cell
  pub named : List (Cell × ℕ)

-- the slots of a tree as such a table
abbrev pub slot_table : Tree → SlotTable
slot_table tree = record {
  cells = slots tree;
  named = map (λ (k : Cell). (k, slot_in (slots tree) (scope_of tree k.scope k.key))) (named_keys tree);
}
