-- Where the place of a key comes from: the key is the first one, or stands below it, or behind it.
use Rattle.std.proofs.Common.{◌≡◌, ◌≢◌, ℕ, nat_eq, [], Option, Some, None, refl, sym, ◌∙◌, ◌⊎◌, inl, inr}
use Rattle.std.specs.Prelude.{option_map}
use Rattle.std.specs.Option.{option_or}
use Rattle.spec_plan.specs.declared.part.Part.{Part}
use Rattle.spec_plan.specs.Forests.{Forest, Empty, Tree, Place, after_first, below_first, place_of, times}
use Rattle.plan_tree.proofs.Counted.{chosen, skipped, test_other, test_same, zero_or}
use Rattle.plan_tree.proofs.Expansions.{node_found}
use Rattle.plan_tree.proofs.Places.{placed}

pub record InFirst (k key : ℕ) (part : Part) (below rest : Forest) (p : Place) : Type 0 where
  pub q : Place
  pub found : place_of k below ≡ Some q
  pub is : p ≡ below_first key part q

pub record InRest (k key : ℕ) (part : Part) (below rest : Forest) (p : Place) : Type 0 where
  pub q : Place
  pub found : place_of k rest ≡ Some q
  pub lacks : times k below ≡ 0
  pub is : p ≡ after_first key part below q

pub no_place_lacks : (k : ℕ) (f : Forest) → place_of k f ≡ None → times k f ≡ 0
no_place_lacks k f none = elim (zero_or (times k f)) [
  | inl lacks ↦ lacks
  | inr has ↦
      let node = node_found k f has in
      let place = placed k f node.0 node.1 in
      absurd (cc (none, place.1))
]

abbrev pub top : Place
top = record { before = Empty; above = [] }

module _ (k key : ℕ) (part : Part) (below rest : Forest) (p : Place) (found : place_of k (Tree key part below rest) ≡ Some p) where
  abbrev next : Option Place
  next = option_or (option_map (below_first key part) (place_of k below)) (option_map (after_first key part below) (place_of k rest))

  pub first_place : key ≡ k → p ≡ top
  first_place is = let both : Some p ≡ Some top = sym found ∙ chosen (nat_eq key k) (Some top) next (test_same key k is) in cc both

  pub other_place : key ≢ k → (InFirst k key part below rest p) ⊎ (InRest k key part below rest p)
  other_place differs =
      let e : next ≡ Some p = sym (skipped (nat_eq key k) (Some top) next (test_other key k differs)) ∙ found in
      elim (place_of k below) as (λ (o : Option Place). place_of k below ≡ o → option_or (option_map (below_first key part) o) (option_map (after_first key part below) (place_of k rest)) ≡ Some p →
      (InFirst k key part below rest p) ⊎ (InRest k key part below rest p)) [
        | Some q ↦ λ inside e. inl (record { q = q; found = inside; is = let w : below_first key part q ≡ p = cc e in sym w })
        | None ↦ λ inside e.
            elim (place_of k rest) as (λ (o : Option Place). place_of k rest ≡ o → option_map (after_first key part below) o ≡ Some p →
            (InFirst k key part below rest p) ⊎ (InRest k key part below rest p)) [
              | Some q ↦ λ following e. inr (record { q = q; found = following; lacks = no_place_lacks k below inside; is = let w : after_first key part below q ≡ p = cc e in sym w })
              | None ↦ λ following e. absurd (cc e)
            ] refl e
      ] refl e
