-- The names that a tree has slots for have the slots of their cells.
use Rattle.std.proofs.Common.{◌≡◌, ℕ, ◌+◌, ◌<◌, List, [], ◌∷◌, true, false, cond, ◌||◌, ◌&&◌, nat_eq, Option, Some, None, inl, inr, map, length, if◌then◌else◌, unwrap_or, ap, subst, ◌∙◌, arith}
use Rattle.std.specs.List.{AllByRecursion, list_any}
use Rattle.std.specs.Prelude.{IfSome}
use Rattle.std.specs.Str.{bytes_eq}
use Rattle.std.proofs.lemmas.Bool.{or_cases}
use Rattle.std.proofs.lemmas.Bool.Decides.{nat_tests}
use Rattle.std.proofs.lemmas.Slice.Eq.{bytes_eq-Decides}
use Rattle.spec_tree.specs.declared.cell.Cell.{Cell}
use Rattle.spec_tree.specs.declared.cell.Naming.{Naming}
use Rattle.spec_tree.specs.declared.term.Port.{Port}
use Rattle.spec_tree.specs.declared.term.Tree.{Tree}
use Rattle.base_tables.specs.SlotTables.{is_named, scope_of}
use Rattle.spec_tree.specs.Boards.{namings, port_of, same_cell, slot_in, slots, value_keys}
use Rattle.tree_board.proofs.CellOrder.{in_order_any}
use Rattle.tree_board.proofs.Sound.{IsTrue_cell, namings_sound}
use Rattle.run_arena.specs.Resolving.{AreNamed, named_slot, port_keys}
use Rattle.run_arena.proofs.Parts.{and_left, and_right, or_left, or_right}
use Rattle.run_driver.proofs.Parts.{All-left, All-right}

-- the slot of a name that the tree has one for
pub named_slot_is : (tree : Tree) (number : ℕ) (key : List ℕ) → is_named tree number key ≡ true → named_slot tree number key ≡ slot_in (slots tree) (scope_of tree number key)
named_slot_is tree number key named = ap (λ b. unwrap_or (if b then Some (slot_in (slots tree) (scope_of tree number key)) else None) 0) named

-- ---- slots are less than the number of slots

found_within : (cell : Cell) (cells : List Cell) → list_any (λ c. same_cell c cell) cells ≡ true → slot_in cells cell < length cells
found_within cell [] found = absurd (cc)
found_within cell (c ∷ cells) found =
    elim (same_cell c cell) as (λ b. (b || list_any (λ c. same_cell c cell) cells) ≡ true → (if b then 0 else 1 + slot_in cells cell) < length (c ∷ cells)) [
      | true ↦ λ _. omega arith
      | false ↦ λ rest. omega (arith, found_within cell cells rest)
    ] found

cell_same : (cell : Cell) → same_cell cell cell ≡ true
cell_same cell = grind (arith, nat_tests, bytes_eq-Decides)

-- a key that the tree has a slot for has its cell among those of all names
cell_named : (tree : Tree) (number : ℕ) (key : List ℕ) (ns : List Naming) → AllByRecursion (IsTrue_cell tree) ns → list_any (λ (n : Naming). nat_eq n.number number && bytes_eq n.key key) ns ≡ true
    → list_any (λ c. same_cell c (scope_of tree number key)) (map (λ (n : Naming). n.cell) ns) ≡ true
cell_named tree number key [] sound named = absurd (cc)
cell_named tree number key (n ∷ ns) sound named = elim (or_cases (nat_eq n.number number && bytes_eq n.key key) (list_any (λ (n : Naming). nat_eq n.number number && bytes_eq n.key key) ns) named) [
  | inl here ↦
      let same_number : n.number ≡ number = grind (arith, nat_tests, and_left (nat_eq n.number number) (bytes_eq n.key key) here) in
      let same_key : n.key ≡ key = (bytes_eq-Decides n.key key).0 (and_right (nat_eq n.number number) (bytes_eq n.key key) here) in
      let is : n.cell ≡ scope_of tree number key = sound.0 ∙ (λ i. scope_of tree (same_number i) (same_key i)) in
      ap (λ (c : Cell). same_cell c (scope_of tree number key) || list_any (λ c. same_cell c (scope_of tree number key)) (map (λ (n : Naming). n.cell) ns)) is
      ∙ or_left (same_cell (scope_of tree number key) (scope_of tree number key)) _ (cell_same (scope_of tree number key))
  | inr later ↦ or_right (same_cell n.cell (scope_of tree number key)) _ (cell_named tree number key ns sound.1 later)
]

pub named_within : (tree : Tree) (number : ℕ) (key : List ℕ) → is_named tree number key ≡ true → slot_in (slots tree) (scope_of tree number key) < length (slots tree)
named_within tree number key named =
    found_within (scope_of tree number key) (slots tree)
    (in_order_any (λ c. same_cell c (scope_of tree number key)) (map (λ (n : Naming). n.cell) (namings tree)) ∙ cell_named tree number key (namings tree) (namings_sound tree) named)

-- ---- ports

-- the tree has a slot for the key that a port of a node is given
pub port_named : (tree : Tree) (number : ℕ) (ports : List Port) (name : List ℕ) (port : Port) → AreNamed tree number (port_keys ports) → port_of ports name ≡ Some port → AreNamed tree number (value_keys port.value)
port_named tree number [] name port named found = absurd (cc)
port_named tree number (p ∷ ports) name port named found =
    elim (bytes_eq p.name name) as (λ b. cond b (Some p) (port_of ports name) ≡ Some port → AreNamed tree number (value_keys port.value)) [
      | true ↦ λ is. subst (λ (o : Option Port). IfSome o (λ q. AreNamed tree number (value_keys q.value))) is (All-left (λ key. is_named tree number key ≡ true) (value_keys p.value) (port_keys ports) named)
      | false ↦ λ rest. port_named tree number ports name port (All-right (λ key. is_named tree number key ≡ true) (value_keys p.value) (port_keys ports) named) rest
    ] found
