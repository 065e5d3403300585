-- The first item of a list that passes a test.
use Rattle.std.proofs.Common.{◌≡◌, ℕ, suc, ◌+◌, ◌<◌, ◌≤◌, Bool, true, false, cond, ◌&&◌, List, [], ◌∷◌, ◌++◌, length, drop, get_or, Option, Some, None, refl, ap, sym, ◌∙◌, add-one, drop-cons, append-nil, append_assoc}
use Rattle.std.specs.Prelude.{slice_get}
use Rattle.std.specs.List.{filter, find, list_any}
use Rattle.std.specs.Option.{option_map_or}
use Rattle.std.proofs.lemmas.List.{drop_all}
use Rattle.std.proofs.lemmas.Map.Keys.{any_passes_from_place}

module _ {X : Type 0} (test : X → Bool) where
  module _ (xs : List X) (i : ℕ) (d : X) (within : i < length xs) where
    at_item : find test (drop i xs) ≡ cond (test (get_or xs i d)) (Some (get_or xs i d)) (find test (drop (suc i) xs))
    at_item = ap (find test) (drop-cons xs i d within)

    pub found_item : test (get_or xs i d) ≡ true → find test (drop i xs) ≡ Some (get_or xs i d)
    found_item passes = at_item ∙ ap (λ (b : Bool). cond b (Some (get_or xs i d)) (find test (drop (suc i) xs))) passes

    pub passed_item : test (get_or xs i d) ≡ false → find test (drop (i + 1) xs) ≡ find test (drop i xs)
    passed_item fails =
        ap (λ (n : ℕ). find test (drop n xs)) (add-one i) ∙ sym (at_item ∙ ap (λ (b : Bool). cond b (Some (get_or xs i d)) (find test (drop (suc i) xs))) fails)

  pub find_ended : (xs : List X) (i : ℕ) → length xs ≤ i → find test (drop i xs) ≡ None
  find_ended xs i past = ap (find test) (drop_all i xs past)

  pub first_passing : (xs : List X) → slice_get (filter test xs) 0 ≡ find test xs
  first_passing [] = refl
  first_passing (x ∷ xs) = elim (test x) as (λ b. slice_get (cond b (x ∷ filter test xs) (filter test xs)) 0 ≡ cond b (Some x) (find test xs)) [
    | true ↦ refl
    | false ↦ first_passing xs
  ]

-- the items that pass, one more at a time
module _ {X : Type 0} (test : X → Bool) (found xs : List X) (i : ℕ) (d : X) (within : i < length xs) where
  filter_at : filter test (drop i xs) ≡ cond (test (get_or xs i d)) (get_or xs i d ∷ filter test (drop (suc i) xs)) (filter test (drop (suc i) xs))
  filter_at = ap (filter test) (drop-cons xs i d within)

  pub filter_taken : test (get_or xs i d) ≡ true → (found ++ get_or xs i d ∷ []) ++ filter test (drop (i + 1) xs) ≡ found ++ filter test (drop i xs)
  filter_taken passes =
      append_assoc found (get_or xs i d ∷ []) (filter test (drop (i + 1) xs))
      ∙ ap (λ (n : ℕ). found ++ get_or xs i d ∷ filter test (drop n xs)) (add-one i)
      ∙ ap (λ (l : List X). found ++ l) (sym (filter_at ∙ ap (λ (b : Bool). cond b (get_or xs i d ∷ filter test (drop (suc i) xs)) (filter test (drop (suc i) xs))) passes))

  pub filter_passed : test (get_or xs i d) ≡ false → found ++ filter test (drop (i + 1) xs) ≡ found ++ filter test (drop i xs)
  filter_passed fails =
      ap (λ (n : ℕ). found ++ filter test (drop n xs)) (add-one i)
      ∙ ap (λ (l : List X). found ++ l) (sym (filter_at ∙ ap (λ (b : Bool). cond b (get_or xs i d ∷ filter test (drop (suc i) xs)) (filter test (drop (suc i) xs))) fails))

pub filter_ended : {X : Type 0} (test : X → Bool) (found xs : List X) (i : ℕ) → length xs ≤ i → found ++ filter test (drop i xs) ≡ found
filter_ended test found xs i past = ap (λ l. found ++ filter test l) (drop_all i xs past) ∙ append-nil found

pub filter_alike : {X : Type 0} (test other : X → Bool) → ((x : X) → test x ≡ other x) → (xs : List X) → filter test xs ≡ filter other xs
filter_alike test other same [] = refl
filter_alike test other same (x ∷ xs) =
    ap (λ (b : Bool). cond b (x ∷ filter test xs) (filter test xs)) (same x) ∙ ap (λ l. cond (other x) (x ∷ l) l) (filter_alike test other same xs)

-- the first of the items that pass one test to pass another passes both
pub find_both : {X : Type 0} (test other : X → Bool) (xs : List X) → find other (filter test xs) ≡ find (λ (x : X). test x && other x) xs
find_both test other [] = refl
find_both test other (x ∷ xs) = elim (test x) as (λ (b : Bool). find other (cond b (x ∷ filter test xs) (filter test xs)) ≡ cond (b && other x) (Some x) (find (λ y. test y && other y) xs)) [
  | true ↦ ap (λ o. cond (other x) (Some x) o) (find_both test other xs)
  | false ↦ find_both test other xs
]

pub find_none : {X : Type 0} (test : X → Bool) → ((x : X) → test x ≡ false) → (xs : List X) → find test xs ≡ None
find_none test never [] = refl
find_none test never (x ∷ xs) = ap (λ (b : Bool). cond b (Some x) (find test xs)) (never x) ∙ find_none test never xs

pub find_alike : {X : Type 0} (test other : X → Bool) → ((x : X) → test x ≡ other x) → (xs : List X) → find test xs ≡ find other xs
find_alike test other same [] = refl
find_alike test other same (x ∷ xs) =
    ap (λ (b : Bool). cond b (Some x) (find test xs)) (same x) ∙ ap (λ o. cond (other x) (Some x) o) (find_alike test other same xs)

pub none_first : {X : Type 0} (xs : List X) → slice_get xs 0 ≡ None → xs ≡ []
none_first [] none = refl
none_first (x ∷ xs) none = absurd (cc none)

pub first_none : {X : Type 0} (xs : List X) → xs ≡ [] → slice_get xs 0 ≡ None
first_none xs is = ap (λ l. slice_get l 0) is

-- a list has an item that passes where the one at some place does
module _ {X : Type 0} (test : X → Bool) (xs : List X) (i : ℕ) where
  any_of : (item : Option X) → slice_get xs i ≡ item → option_map_or test item false ≡ true → list_any test xs ≡ true
  any_of None at passes = absurd (cc (passes))
  any_of (Some x) at passes = any_passes_from_place test xs i x at passes

  pub any_at : option_map_or test (slice_get xs i) false ≡ true → list_any test xs ≡ true
  any_at = any_of (slice_get xs i) refl
