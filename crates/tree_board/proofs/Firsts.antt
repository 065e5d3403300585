-- The first item of a list that is equal to another: in a list that ascends, a binary search finds it.
use Rattle.std.proofs.Common.{◌≡◌, ℕ, zero, suc, ◌+◌, ◌<◌, List, [], ◌∷◌, true, false, true≢false, cond, ◌||◌, Err, length, get_or, refl, sym, ap, subst, ◌∙◌, arith, ⊎_elim}
use Rattle.std.proofs.lemmas.Bool.{cases_lt}
use Rattle.std.proofs.lemmas.List.Sorted.{searchable_from_sorted}
use Rattle.std.proofs.lemmas.Map.Keys.{Less-from_sorted, sorted_tail}
use Rattle.std.specs.Cmp.{IsTotalOrder}
use Rattle.std.specs.List.{All, list_any}
use Rattle.std.specs.List.Sorted.{IsStrictlySortedBy, IsSortedBy, IsBinarySearchResult}
use Rattle.std.specs.Ordering.{is_eq, is_lt, ordering_reverse}
use Rattle.std.specs.declared.cmp.Ordering.{Ordering}
use Rattle.std.specs.declared.cmp.Ordering.TheVariants.{Less, Equal, Greater}
use Rattle.tree_board.specs.Rows.{first_by}

module _ {K : Type 0} (c : K → K → Ordering) (total : IsTotalOrder c) where
  module _ {X : Type 0} (key : X → K) where
    adjacent : (xs : List X) → IsStrictlySortedBy (λ a b. c (key a) (key b)) xs → IsSortedBy (λ a b. is_lt (c (key a) (key b))) xs
    adjacent xs ascend k d _ within =
        ap is_lt (total.antisymm (key (get_or xs (k + 1) d)) (key (get_or xs k d)) ∙ ap ordering_reverse (Less-from_sorted (λ a b. c (key a) (key b)) xs k (k + 1) d ascend (omega arith) within))

    -- where nothing is found, each item lies apart
    pub all_apart : (item : K) (xs : List X) (i : ℕ) → IsStrictlySortedBy (λ a b. c (key a) (key b)) xs → IsBinarySearchResult (λ x. c (key x) item) xs (Err i)
        → All (λ x. is_eq (c (key x) item) ≡ false) xs
    all_apart item xs i ascend found k d within =
        let parts = found (searchable_from_sorted total key xs item (adjacent xs ascend)) in
        ⊎_elim (λ below. ap is_eq (parts.0 k d (omega arith) below)) (λ above. ap is_eq (parts.1 k d above within)) (cases_lt k i)

  -- an item that is found is the first
  pub first_found : (xs : List K) (i : ℕ) (item d : K) → IsStrictlySortedBy c xs → i < length xs → c (get_or xs i d) item ≡ Equal → first_by c xs item ≡ i
  first_found [] i item d ascend within is = absurd (omega arith)
  first_found (x ∷ xs) zero item d ascend within is = ap (λ b. cond b 0 (1 + first_by c xs item)) (ap is_eq is)
  first_found (x ∷ xs) (suc i) item d ascend within is =
      let y = get_or xs i d in
      let less : c x y ≡ Less = Less-from_sorted c (x ∷ xs) 0 (suc i) d ascend (omega arith) within in
      let below : c x item ≡ Less = total.antisymm x item ∙ ap ordering_reverse (sym (total.congr y item x is) ∙ total.antisymm y x ∙ ap ordering_reverse less) in
      ap (λ b. cond b 0 (1 + first_by c xs item)) (ap is_eq below)
      ∙ omega (arith, first_found xs i item d (sorted_tail c x xs ascend) (omega arith) is)

  -- and one that is none of them has their number
  pub first_absent : (item : K) (xs : List K) → All (λ x. is_eq (c x item) ≡ false) xs → first_by c xs item ≡ length xs
  first_absent item [] all = refl
  first_absent item (x ∷ xs) all =
      ap (λ b. cond b 0 (1 + first_by c xs item)) (all 0 x (omega arith))
      ∙ omega (arith, first_absent item xs (λ k d within. all (suc k) d (omega arith)))

  tied : (o : Ordering) → is_eq o ≡ true → o ≡ Equal
  tied Less e = absurd (true≢false (sym e))
  tied Equal e = refl
  tied Greater e = absurd (true≢false (sym e))

  -- the first is equal, where there is one
  pub first_is : (xs : List K) (item d : K) → first_by c xs item < length xs → c (get_or xs (first_by c xs item) d) item ≡ Equal
  first_is [] item d within = absurd (omega arith)
  first_is (x ∷ xs) item d within =
      elim (is_eq (c x item)) as (λ b. is_eq (c x item) ≡ b → cond b 0 (1 + first_by c xs item) < length (x ∷ xs)
      → c (get_or (x ∷ xs) (cond b 0 (1 + first_by c xs item)) d) item ≡ Equal) [
        | true ↦ λ e _. tied (c x item) e
        | false ↦ λ _ low.
            let next : suc (first_by c xs item) ≡ 1 + first_by c xs item = omega arith in
            subst (λ m. c (get_or (x ∷ xs) m d) item ≡ Equal) next (first_is xs item d (omega (arith, low)))
      ] refl within

  -- and there is one where one of the items is equal
  pub first_within : (xs : List K) (item : K) → list_any (λ x. is_eq (c x item)) xs ≡ true → first_by c xs item < length xs
  first_within [] item some = absurd (true≢false (sym some))
  first_within (x ∷ xs) item some =
      elim (is_eq (c x item)) as (λ b. b || list_any (λ y. is_eq (c y item)) xs ≡ true → cond b 0 (1 + first_by c xs item) < length (x ∷ xs)) [
        | true ↦ λ _. omega arith
        | false ↦ λ rest. omega (arith, first_within xs item rest)
      ] some
