-- Cells in order: `in_order` is the one list that ascends and has the same cells.
use Rattle.std.proofs.Common.{◌≡◌, List, [], ◌∷◌, Bool, true, false, ◌||◌, ◌+◌, ◌≤◌, length, refl, sym, ap, subst, ◌∙◌, arith}
use Rattle.std.proofs.lemmas.Cmp.{then_total, on_total, nat_cmp_total, nat_list_cmp_total}
use Rattle.std.proofs.lemmas.Map.Lookups.{exact_unsigned, exact_bytes, exact_pairs, btree_set_from_contains}
use Rattle.std.specs.BTreeMap.{is_at}
use Rattle.std.specs.BTreeSet.{BTreeSet}
use Rattle.std.specs.Cmp.{IsTotalOrder}
use Rattle.std.specs.Cmp.Lexicographic.{slice_cmp}
use Rattle.std.specs.List.{AllByRecursion, list_any}
use Rattle.std.specs.List.Sorted.{IsStrictlySortedBy}
use Rattle.std.specs.Ordering.{nat_cmp, ordering_reverse}
use Rattle.std.specs.declared.cmp.Ordering.TheVariants.{Less, Equal, Greater}
use Rattle.spec_tree.specs.declared.cell.Cell.{Cell}
use Rattle.spec_tree.specs.Boards.{cell_order, placed, placed_by, in_order}

pub cells_total : IsTotalOrder cell_order
cells_total = then_total (on_total (λ (c : Cell). c.scope) nat_cmp_total) (on_total (λ (c : Cell). c.key) nat_list_cmp_total)

-- only equal cells tie
pub cells_exact : (a b : Cell) → cell_order a b ≡ Equal → a ≡ b
cells_exact a b e =
    let parts = exact_pairs nat_cmp (slice_cmp nat_cmp) exact_unsigned exact_bytes (a.scope, a.key) (b.scope, b.key) e in
    λ i. record { scope = (parts i).0; key = (parts i).1 }

-- a placed cell is among the others
all_placed : (P : Cell → Type 0) (cell : Cell) (cells : List Cell) → P cell → AllByRecursion P cells → AllByRecursion P (placed cell cells)
all_placed P cell [] p all = (p, tt)
all_placed P cell (first ∷ rest) p all =
    elim (cell_order cell first) as (λ o. AllByRecursion P (placed_by o cell first rest (placed cell rest))) [
      | Less ↦ (p, all)
      | Equal ↦ all
      | Greater ↦ (all.0, all_placed P cell rest p all.1)
    ]

all_above : (low cell : Cell) (cells : List Cell) → cell_order low cell ≡ Less → AllByRecursion (λ c. cell_order cell c ≡ Less) cells → AllByRecursion (λ c. cell_order low c ≡ Less) cells
all_above low cell [] e all = tt
all_above low cell (first ∷ rest) e all = (cells_total.trans low cell first e all.0, all_above low cell rest e all.1)

-- and they ascend as before
placed_ascends : (cell : Cell) (cells : List Cell) → IsStrictlySortedBy cell_order cells → IsStrictlySortedBy cell_order (placed cell cells)
unfolding IsStrictlySortedBy
placed_ascends cell [] s = (tt, tt)
placed_ascends cell (first ∷ rest) s =
    elim (cell_order cell first) as (λ o. cell_order cell first ≡ o → IsStrictlySortedBy cell_order (placed_by o cell first rest (placed cell rest))) [
      | Less ↦ λ e. ((e, all_above cell first rest e s.0), s)
      | Equal ↦ λ _. s
      | Greater ↦ λ e. (all_placed (λ c. cell_order first c ≡ Less) cell rest (cells_total.antisymm first cell ∙ ap ordering_reverse e) s.0, placed_ascends cell rest s.1)
    ] refl

pub in_order_ascends : (cells : List Cell) → IsStrictlySortedBy cell_order (in_order cells)
unfolding IsStrictlySortedBy
in_order_ascends [] = tt
in_order_ascends (cell ∷ cells) = placed_ascends cell (in_order cells) (in_order_ascends cells)

same_first : (a b c : Bool) → a ≡ b → b || c ≡ a || (b || c)
same_first true b c e = ap (λ x. x || c) (sym e)
same_first false b c e = refl

swap_firsts : (a b c : Bool) → b || (a || c) ≡ a || (b || c)
swap_firsts true true c = refl
swap_firsts true false c = refl
swap_firsts false b c = refl

pub placed_any : (p : Cell → Bool) (cell : Cell) (cells : List Cell) → list_any p (placed cell cells) ≡ p cell || list_any p cells
placed_any p cell [] = refl
placed_any p cell (first ∷ rest) =
    elim (cell_order cell first) as (λ o. cell_order cell first ≡ o → list_any p (placed_by o cell first rest (placed cell rest)) ≡ p cell || list_any p (first ∷ rest)) [
      | Less ↦ λ _. refl
      | Equal ↦ λ e. same_first (p cell) (p first) (list_any p rest) (ap p (cells_exact cell first e))
      | Greater ↦ λ _. ap (λ b. p first || b) (placed_any p cell rest) ∙ swap_firsts (p cell) (p first) (list_any p rest)
    ] refl

-- each test has some cell of the ordered ones exactly where it has some of the others
pub in_order_any : (p : Cell → Bool) (cells : List Cell) → list_any p (in_order cells) ≡ list_any p cells
in_order_any p [] = refl
in_order_any p (cell ∷ cells) = placed_any p cell (in_order cells) ∙ ap (λ b. p cell || b) (in_order_any p cells)

-- a list that ascends and has the same cells is `in_order`
pub in_order_is : (ordered cells : List Cell) → IsStrictlySortedBy cell_order ordered → ((p : Cell → Bool) → list_any p ordered ≡ list_any p cells) → ordered ≡ in_order cells
in_order_is ordered cells ascends same =
    let s : BTreeSet Cell = record { keys = ordered } in
    let t : BTreeSet Cell = record { keys = in_order cells } in
    btree_set_from_contains cells_total s t ascends (in_order_ascends cells)
    (λ q. same (is_at (cell_order q)) ∙ sym (in_order_any (is_at (cell_order q)) cells)) cells_exact

placed_length : (cell : Cell) (cells : List Cell) → length (placed cell cells) ≤ 1 + length cells
placed_length cell [] = omega arith
placed_length cell (first ∷ rest) =
    elim (cell_order cell first) as (λ o. length (placed_by o cell first rest (placed cell rest)) ≤ 1 + length (first ∷ rest)) [
      | Less ↦ omega arith
      | Equal ↦ omega arith
      | Greater ↦ omega (arith, placed_length cell rest)
    ]

-- there are no more cells in order than there were
pub in_order_length : (cells : List Cell) → length (in_order cells) ≤ length cells
in_order_length [] = omega arith
in_order_length (cell ∷ cells) = omega (arith, placed_length cell (in_order cells), in_order_length cells)

-- what is known of a list that is some cells in order
pub record AreInOrder (cells : List Cell) (of : List Cell) : Type 0 where
  pub is : cells ≡ in_order of

pub ascends_in_order : {cells of : List Cell} → AreInOrder cells of → IsStrictlySortedBy cell_order cells
ascends_in_order {cells} {of} h = subst (IsStrictlySortedBy cell_order) (sym h.is) (in_order_ascends of)

pub length_in_order : {cells of : List Cell} → AreInOrder cells of → length cells ≤ length of
length_in_order {cells} {of} h = omega (arith, in_order_length of, ap (λ (cs : List Cell). length cs) h.is)
