-- Facts are copied one after another: each has a new name.
use Rattle.std.proofs.Common.{◌≡◌, ℕ, ◌<◌, Bool, false, ◌||◌, List, [], ◌∷◌, ◌++◌, map, length, Vec, refl, sym, ap, subst, ◌∙◌, arith}
use Rattle.std.specs.Prelude.{bytes_eq}
use Rattle.std.specs.Global.{Global}
use Rattle.std.specs.List.{AllByRecursion, IsDistinct, list_any}
use Rattle.std.specs.Cmp.Lexicographic.{nat_list_eq_equiv}
use Rattle.std.proofs.lemmas.List.{length-append, map-append}
use Rattle.std.proofs.lemmas.Map.Keys.{IsDistinct-head, IsDistinct-tail}
use Rattle.indexmap.specs.IndexMap.{IndexMap, keys, values}
use Rattle.spec_world.specs.declared.world.Fact.{Fact}
use Rattle.spec_world.specs.Worlds.{names_of_facts}
use Rattle.world_draft.specs.Rows.{FactsKept}
use Rattle.world_draft.specs.Tables.{names_in}

-- whether keys are the same, by their bytes
abbrev same_key : Vec ℕ Global → Vec ℕ Global → Bool
same_key x y = bytes_eq x.items y.items

abbrev names : List (Vec ℕ Global) → List (List ℕ)
names ks = map (λ k. k.items) ks

apart_names : (k : Vec ℕ Global) (ks : List (Vec ℕ Global)) → AllByRecursion (λ y. same_key k y ≡ false) ks → AllByRecursion (λ y. bytes_eq k.items y ≡ false) (names ks)
apart_names k [] h = tt
apart_names k (y ∷ ks) h = (h.0, apart_names k ks h.1)

-- keys that differ have names that differ
distinct_names : (ks : List (Vec ℕ Global)) → IsDistinct same_key ks → IsDistinct bytes_eq (names ks)
unfolding IsDistinct
distinct_names [] h = tt
distinct_names (k ∷ ks) h = (apart_names k ks h.0, distinct_names ks h.1)

among : (z x : List ℕ) (xs ys : List (List ℕ)) → AllByRecursion (λ y. bytes_eq z y ≡ false) (xs ++ x ∷ ys) → bytes_eq x z ≡ false
among z x [] ys h = nat_list_eq_equiv.symm x z ∙ h.0
among z x (y ∷ xs) ys h = among z x xs ys h.1

-- none of the names before one is the same
new_name : (x : List ℕ) (xs ys : List (List ℕ)) → IsDistinct bytes_eq (xs ++ x ∷ ys) → list_any (bytes_eq x) xs ≡ false
new_name x [] ys h = refl
new_name x (z ∷ xs) ys h =
    ap (λ (b : Bool). b || list_any (bytes_eq x) xs) (among z x xs ys (IsDistinct-head bytes_eq z (xs ++ x ∷ ys) h))
    ∙ new_name x xs ys (IsDistinct-tail bytes_eq z (xs ++ x ∷ ys) h)

module _ {S : Type 0} (m : IndexMap (Vec ℕ Global) Fact S) (kept : FactsKept m) (before rest : List Fact) (fact : Fact) (all : before ++ fact ∷ rest ≡ values m) where
  -- the next fact has a name that none of those before has
  pub next_is_new : IsDistinct same_key (keys m) → list_any (bytes_eq fact.name) (names_of_facts before) ≡ false
  next_is_new unique =
      let split : names_in m ≡ names_of_facts before ++ fact.name ∷ names_of_facts rest = kept.named ∙ ap names_of_facts (sym all) ∙ map-append (λ (f : Fact). f.name) before (fact ∷ rest) in
      new_name fact.name (names_of_facts before) (names_of_facts rest) (subst (IsDistinct bytes_eq) split (distinct_names (keys m) unique))

  -- and there is room for it
  pub next_has_room : length before < 1024
  next_has_room = omega (arith, kept.few, ap (λ (fs : List Fact). length fs) all, length-append before (fact ∷ rest))
