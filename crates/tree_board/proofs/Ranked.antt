-- Numbers of keys that are in order are ordered as their keys are.
use Rattle.std.proofs.Common.{◌≡◌, ℕ, zero, suc, ◌+◌, ◌<◌, List, [], ◌∷◌, true, false, true≢false, cond, ◌||◌, Bool, map, length, get_or, refl, sym, ap, subst, ◌∙◌, arith}
use Rattle.std.proofs.lemmas.Cmp.{nat_cmp_total, nat_list_cmp_total, on_total, then_total, tied_itself}
use Rattle.std.proofs.lemmas.List.{get_or-map}
use Rattle.std.proofs.lemmas.Map.Keys.{Less-from_sorted, below_from_sorted}
use Rattle.std.proofs.lemmas.Map.Lookups.{exact_bytes, exact_unsigned}
use Rattle.std.specs.Cmp.{IsTotalOrder}
use Rattle.std.specs.Cmp.Lexicographic.{slice_cmp}
use Rattle.std.specs.List.{AllByRecursion, list_any}
use Rattle.std.specs.List.Sorted.{IsStrictlySortedBy}
use Rattle.std.specs.Ordering.{is_eq, nat_cmp, ordering_then}
use Rattle.std.specs.declared.cmp.Ordering.{Ordering}
use Rattle.std.specs.declared.cmp.Ordering.TheVariants.{Less, Equal, Greater}
use Rattle.spec_tree.specs.Boards.{cell_order, owner, same_cell, slot_in}
use Rattle.tree_board.specs.declared.rows.Row.{Row}
use Rattle.tree_board.specs.Rows.{IsWithin, cell_by, first_by, key_at, naming_by, place_order}
use Rattle.tree_board.specs.Slots.{ranked}
use Rattle.tree_board.proofs.Firsts.{first_found, first_is, first_within}
use Rattle.tree_board.proofs.Searched.{same_by_order}

abbrev pub bytes_order : List ℕ → List ℕ → Ordering
bytes_order = slice_cmp nat_cmp

both : (a b : Bool) → (a ≡ true → b ≡ true) → (b ≡ true → a ≡ true) → a ≡ b
both true b f g = sym (f refl)
both false true f g = g refl
both false false f g = refl

tied : (o : Ordering) → is_eq o ≡ true → o ≡ Equal
tied Less e = absurd (true≢false (sym e))
tied Equal e = refl
tied Greater e = absurd (true≢false (sym e))

then_alike : (o a b : Ordering) → is_eq a ≡ is_eq b → is_eq (ordering_then o a) ≡ is_eq (ordering_then o b)
then_alike Less a b e = refl
then_alike Equal a b e = e
then_alike Greater a b e = refl

then_less : (o a b : Ordering) → (a ≡ Less → b ≡ Less) → ordering_then o a ≡ Less → ordering_then o b ≡ Less
then_less Less a b f e = refl
then_less Equal a b f e = f e
then_less Greater a b f e = e

lower : (a b : ℕ) → nat_cmp a b ≡ Less → a < b
unfolding IsStrictlySortedBy
lower a b less = below_from_sorted (a ∷ b ∷ []) 0 1 0 ((less, tt), (tt, tt)) (omega arith) (omega arith)

or_true : (b : Bool) → b || true ≡ true
or_true true = refl
or_true false = refl

module _ (keys : List (List ℕ)) (ascend : IsStrictlySortedBy bytes_order keys) where
  -- a number is that of a key exactly where its key is this one
  pub ranks_tell : (n : ℕ) (key : List ℕ) → n < length keys → is_eq (bytes_order (key_at keys n) key) ≡ is_eq (nat_cmp n (first_by bytes_order keys key))
  ranks_tell n key within =
      let first = first_by bytes_order keys key in
      both (is_eq (bytes_order (key_at keys n) key)) (is_eq (nat_cmp n first))
      (λ tie. ap (λ m. is_eq (nat_cmp n m)) (first_found bytes_order nat_list_cmp_total keys n key [] ascend within (tied (bytes_order (key_at keys n) key) tie)) ∙ ap is_eq (tied_itself nat_cmp_total n))
      (λ tie. let is : n ≡ first = exact_unsigned n first (tied (nat_cmp n first) tie) in
      ap (λ m. is_eq (bytes_order (key_at keys m) key)) is ∙ ap is_eq (first_is bytes_order nat_list_cmp_total keys key [] (subst (λ m. m < length keys) is within)))

  -- a cell by its numbers is that of a scope and a key exactly where the numbers are theirs
  pub cells_tell : (place : ℕ × ℕ) (scope : ℕ) (key : List ℕ) → place.1 < length keys
      → same_cell (cell_by keys place) (owner scope key) ≡ is_eq (place_order place (scope, first_by bytes_order keys key))
  cells_tell place scope key within =
      same_by_order (cell_by keys place) (owner scope key) ∙ then_alike (nat_cmp place.0 scope) (bytes_order (key_at keys place.1) key) (nat_cmp place.1 (first_by bytes_order keys key)) (ranks_tell place.1 key within)

  places_tell : (a b : ℕ × ℕ) → a.1 < length keys → b.1 < length keys → same_cell (cell_by keys a) (cell_by keys b) ≡ is_eq (place_order a b)
  places_tell a b a_within b_within =
      let key = key_at keys b.1 in
      cells_tell a b.0 key a_within
      ∙ ap (λ n. is_eq (place_order a (b.0, n))) (first_found bytes_order nat_list_cmp_total keys b.1 key [] ascend b_within (tied_itself nat_list_cmp_total key))

  -- the slot of a cell is the place of its numbers
  pub slot_is_place : (places : List (ℕ × ℕ)) (place : ℕ × ℕ) → AllByRecursion (λ (p : ℕ × ℕ). p.1 < length keys) places → place.1 < length keys
      → first_by place_order places place ≡ slot_in (map (cell_by keys) places) (cell_by keys place)
  slot_is_place [] place all within = refl
  slot_is_place (p ∷ places) place all within =
      ap (λ b. cond b 0 (1 + first_by place_order places place)) (sym (places_tell p place all.0 within))
      ∙ ap (λ n. cond (same_cell (cell_by keys p) (cell_by keys place)) 0 (1 + n)) (slot_is_place places place all.1 within)

  -- cells ascend as their numbers do
  cells_less : (a b : ℕ × ℕ) → b.1 < length keys → place_order a b ≡ Less → cell_order (cell_by keys a) (cell_by keys b) ≡ Less
  cells_less a b within = then_less (nat_cmp a.0 b.0) (nat_cmp a.1 b.1) (bytes_order (key_at keys a.1) (key_at keys b.1))
      (λ less. Less-from_sorted bytes_order keys a.1 b.1 [] ascend (lower a.1 b.1 less) within)

  all_less : {X : Type 0} (place : X → ℕ × ℕ) (low : X) (xs : List X) → AllByRecursion (λ x. (place x).1 < length keys) xs
      → AllByRecursion (λ x. place_order (place low) (place x) ≡ Less) xs → AllByRecursion (λ c. cell_order (cell_by keys (place low)) c ≡ Less) (map (λ x. cell_by keys (place x)) xs)
  all_less place low [] within all = tt
  all_less place low (x ∷ xs) within all = (cells_less (place low) (place x) within.0 all.0, all_less place low xs within.1 all.1)

  pub cells_ascend : {X : Type 0} (place : X → ℕ × ℕ) (xs : List X) → AllByRecursion (λ x. (place x).1 < length keys) xs
      → IsStrictlySortedBy (λ a b. place_order (place a) (place b)) xs → IsStrictlySortedBy cell_order (map (λ x. cell_by keys (place x)) xs)
  unfolding IsStrictlySortedBy
  cells_ascend place [] within s = tt
  cells_ascend place (x ∷ xs) within s = (all_less place x xs within.1 s.0, cells_ascend place xs within.1 s.1)

all_unmapped : {X Y : Type 0} (order : Y → Y → Ordering) (f : X → Y) (low : X) (xs : List X) → AllByRecursion (λ y. order (f low) y ≡ Less) (map f xs)
    → AllByRecursion (λ x. order (f low) (f x) ≡ Less) xs
all_unmapped order f low [] all = tt
all_unmapped order f low (x ∷ xs) all = (all.0, all_unmapped order f low xs all.1)

-- what ascends by a map is in the order of what it gives
pub unmapped : {X Y : Type 0} (order : Y → Y → Ordering) (f : X → Y) (xs : List X) → IsStrictlySortedBy order (map f xs) → IsStrictlySortedBy (λ a b. order (f a) (f b)) xs
unfolding IsStrictlySortedBy
unmapped order f [] s = tt
unmapped order f (x ∷ xs) s = (all_unmapped order f x xs s.0, unmapped order f xs s.1)

pub places_total : IsTotalOrder place_order
places_total = then_total (on_total (λ (p : ℕ × ℕ). p.0) nat_cmp_total) (on_total (λ (p : ℕ × ℕ). p.1) nat_cmp_total)

any_at : {X : Type 0} (p : X → Bool) (xs : List X) (n : ℕ) (d : X) → n < length xs → p (get_or xs n d) ≡ true → list_any p xs ≡ true
any_at p [] n d within e = absurd (omega arith)
any_at p (x ∷ xs) zero d within e = ap (λ b. b || list_any p xs) e
any_at p (x ∷ xs) (suc n) d within e = ap (λ b. p x || b) (any_at p xs n d (omega arith) e) ∙ or_true (p x)

-- a row with the places of its keys in order as their numbers
abbrev pub ranked_row : List ℕ → Row → Row
ranked_row ranks row = record { named = ranked ranks row.named; cell = ranked ranks row.cell }

module _ (keys ordered : List (List ℕ)) (ascend : IsStrictlySortedBy bytes_order ordered)
    (same : (p : List ℕ → Bool) → list_any p ordered ≡ list_any p keys) where
  abbrev pub ranks : List ℕ
  ranks = map (first_by bytes_order ordered) keys

  rank_is : (n : ℕ) → n < length keys → (get_or ranks n 0 < length ordered) × (key_at ordered (get_or ranks n 0) ≡ key_at keys n)
  rank_is n within =
      let key = key_at keys n in
      let is : get_or ranks n 0 ≡ first_by bytes_order ordered key = get_or-map (first_by bytes_order ordered) keys n [] 0 within in
      let some = same (λ x. is_eq (bytes_order x key)) ∙ any_at (λ x. is_eq (bytes_order x key)) keys n [] within (ap is_eq (tied_itself nat_list_cmp_total key)) in
      let low = first_within bytes_order nat_list_cmp_total ordered key some in (
        subst (λ m. m < length ordered) (sym is) low,
        ap (key_at ordered) is ∙ exact_bytes (key_at ordered (first_by bytes_order ordered key)) key (first_is bytes_order nat_list_cmp_total ordered key [] low),
      )

  pub rows_ranked : (rows : List Row) → AllByRecursion (IsWithin (length keys)) rows → AllByRecursion (IsWithin (length ordered)) (map (ranked_row ranks) rows)
  rows_ranked [] all = tt
  rows_ranked (row ∷ rows) all = (((rank_is row.named.1 all.0.0).0, (rank_is row.cell.1 all.0.1).0), rows_ranked rows all.1)

  pub namings_ranked : (rows : List Row) → AllByRecursion (IsWithin (length keys)) rows → map (naming_by ordered) (map (ranked_row ranks) rows) ≡ map (naming_by keys) rows
  namings_ranked [] all = refl
  namings_ranked (row ∷ rows) all =
      let named = (rank_is row.named.1 all.0.0).1 in
      let owned = (rank_is row.cell.1 all.0.1).1 in
      let rest = namings_ranked rows all.1 in
      λ i. record { number = row.named.0; key = named i; cell = owner row.cell.0 (owned i) } ∷ rest i
