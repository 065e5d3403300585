-- A binary search in a list that ascends by a cell.
use Rattle.std.proofs.Common.{◌≡◌, ℕ, zero, suc, ◌+◌, ◌<◌, List, [], ◌∷◌, true, false, cond, Some, Err, length, get_or, find, refl, sym, ap, ◌∙◌, arith}
use Rattle.std.proofs.Common.{⊎_elim, true≢false}
use Rattle.std.proofs.lemmas.Bool.{cases_lt}
use Rattle.std.proofs.lemmas.Cmp.{tied_itself}
use Rattle.std.proofs.lemmas.List.Sorted.{searchable_from_sorted}
use Rattle.std.specs.Cmp.Rules.{comparing}
use Rattle.std.proofs.Common.{rules}
use Rattle.std.specs.List.{All}
use Rattle.std.specs.List.Sorted.{IsStrictlySortedBy, IsSortedBy, IsBinarySearchResult}
use Rattle.std.specs.Ordering.{eq_by_cmp, is_eq, is_lt, ordering_reverse}
use Rattle.std.specs.declared.cmp.Ordering.{Ordering}
use Rattle.std.specs.declared.cmp.Ordering.TheVariants.{Less, Equal, Greater}
use Rattle.std.proofs.lemmas.Map.Keys.{Less-from_sorted, sorted_tail}
use Rattle.spec_tree.specs.declared.cell.Cell.{Cell}
use Rattle.spec_tree.specs.Boards.{cell_order, same_cell, slot_in}
use Rattle.tree_board.proofs.CellOrder.{cells_total, cells_exact}

-- the test by equality, and the order
pub same_by_order : (a b : Cell) → same_cell a b ≡ eq_by_cmp cell_order a b
same_by_order a b = search (comparing, rules)

tied : (o : Ordering) → is_eq o ≡ true → o ≡ Equal
tied Less e = absurd (true≢false (sym e))
tied Equal e = refl
tied Greater e = absurd (true≢false (sym e))

pub same_itself : (a : Cell) → same_cell a a ≡ true
same_itself a = same_by_order a a ∙ ap is_eq (tied_itself cells_total a)

-- the cells of two items that tie with one are the same
module _ {X : Type 0} (key : X → Cell) where
  -- items in the order of their cells
  abbrev pub Ascend : List X → Type 0
  Ascend xs = IsStrictlySortedBy (λ a b. cell_order (key a) (key b)) xs

  abbrev pub lies : Cell → X → Ordering
  lies cell x = cell_order (key x) cell

  adjacent : (xs : List X) → Ascend xs → IsSortedBy (λ a b. is_lt (cell_order (key a) (key b))) xs
  adjacent xs ascend k d _ within =
      ap is_lt (cells_total.antisymm (key (get_or xs (k + 1) d)) (key (get_or xs k d)) ∙ ap ordering_reverse (Less-from_sorted (λ a b. cell_order (key a) (key b)) xs k (k + 1) d ascend (omega arith) within))

  differs : (cell : Cell) (x : X) (o : Ordering) → is_eq o ≡ false → lies cell x ≡ o → same_cell (key x) cell ≡ false
  differs cell x o unequal is = same_by_order (key x) cell ∙ ap is_eq is ∙ unequal

  -- where nothing is found, each item lies apart
  pub apart : (cell : Cell) (xs : List X) (i : ℕ) → Ascend xs → IsBinarySearchResult (lies cell) xs (Err i) → All (λ x. same_cell (key x) cell ≡ false) xs
  apart cell xs i ascend found k d within =
      let parts = found (searchable_from_sorted cells_total key xs cell (adjacent xs ascend)) in
      ⊎_elim (λ below. differs cell (get_or xs k d) Less refl (parts.0 k d (omega arith) below)) (λ above. differs cell (get_or xs k d) Greater refl (parts.1 k d above within)) (cases_lt k i)

  -- an item that is found is the one that `find` finds
  pub find_found : (cell : Cell) (xs : List X) (i : ℕ) (d : X) → Ascend xs → i < length xs → key (get_or xs i d) ≡ cell → find (λ x. same_cell (key x) cell) xs ≡ Some (get_or xs i d)
  find_found cell [] i d ascend within is = absurd (omega arith)
  find_found cell (x ∷ xs) zero d ascend within is = ap (λ b. cond b (Some x) (find (λ y. same_cell (key y) cell) xs)) (ap (same_cell (key x)) (sym is) ∙ same_itself (key x))
  find_found cell (x ∷ xs) (suc i) d ascend within is =
      ap (λ b. cond b (Some x) (find (λ y. same_cell (key y) cell) xs)) (differs cell x Less refl (ap (cell_order (key x)) (sym is) ∙ Less-from_sorted (λ a b. cell_order (key a) (key b)) (x ∷ xs) 0 (suc i) d ascend (omega arith) within))
      ∙ find_found cell xs i d (sorted_tail (λ a b. cell_order (key a) (key b)) x xs ascend) (omega arith) is

-- a cell that is found has its place as its slot
pub slot_found : (cell : Cell) (cells : List Cell) (i : ℕ) (d : Cell) → IsStrictlySortedBy cell_order cells → i < length cells → get_or cells i d ≡ cell → slot_in cells cell ≡ i
slot_found cell [] i d ascend within is = absurd (omega arith)
slot_found cell (first ∷ rest) zero d ascend within is = ap (λ b. cond b 0 (1 + slot_in rest cell)) (ap (same_cell first) (sym is) ∙ same_itself first)
slot_found cell (first ∷ rest) (suc i) d ascend within is =
    ap (λ b. cond b 0 (1 + slot_in rest cell)) (differs (λ c. c) cell first Less refl (ap (cell_order first) (sym is) ∙ Less-from_sorted cell_order (first ∷ rest) 0 (suc i) d ascend (omega arith) within))
    ∙ omega (arith, slot_found cell rest i d (sorted_tail cell_order first rest ascend) (omega arith) is)

-- and one that is none of them has their number
pub slot_absent : (cell : Cell) (cells : List Cell) → All (λ c. same_cell c cell ≡ false) cells → slot_in cells cell ≡ length cells
slot_absent cell [] all = refl
slot_absent cell (first ∷ rest) all =
    ap (λ b. cond b 0 (1 + slot_in rest cell)) (all 0 first (omega arith))
    ∙ omega (arith, slot_absent cell rest (λ k d within. all (suc k) d (omega arith)))

-- equal cells are one
pub same_decides : (a b : Cell) → same_cell a b ≡ true → a ≡ b
same_decides a b tie = cells_exact a b (tied (cell_order a b) (sym (same_by_order a b) ∙ tie))
