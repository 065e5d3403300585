-- Names with the places that the leaf rule gives them.
use Rattle.std.proofs.Common.{◌≡◌, ℕ, ◌+◌, ◌<◌, ◌≤◌, true, false, if◌then◌else◌, List, [], ◌∷◌, length, map, inl, inr, refl, ap, sym, subst, ◌∙◌, arith}
use Rattle.std.specs.List.{All, Contains}
use Rattle.std.specs.Str.{bytes_eq}
use Rattle.std.proofs.lemmas.List.{length-map}
use Rattle.std.proofs.lemmas.List.Elements.{All-nil, All-cons, All-contains, All-contains_itself, All-map, All-weaker, Contains-append_cases}
use Rattle.std.proofs.lemmas.Slice.Eq.{bytes_eq-Decides}
use Rattle.script_code.specs.Sources.{IsListed, slot_of}
use Rattle.spec_world.specs.declared.world.Fact.{Fact}
use Rattle.spec_run.specs.Drivers.{kind_of_sort}
use Rattle.base_tables.specs.DriverCalls.{kind_of_way}
use Rattle.spec_run.specs.Leaf.{place_from, place_of, way_of}
use Rattle.spec_world.specs.Worlds.{names_of_facts}
use Rattle.spec_world.specs.declared.world.RowSort.{RowSort}
use Rattle.spec_world.specs.declared.world.RowSort.TheVariants as sort
use Rattle.run_driver.specs.Places.{with_places}

-- ---- names with places

module _ (place : List ℕ → ℕ) where
  listed : (names : List (List ℕ)) → map (λ (pair : List ℕ × ℕ). pair.0) (with_places place names) ≡ names
  listed [] = refl
  listed (name ∷ names) = ap (λ ns. name ∷ ns) (listed names)

  -- each of these names is listed
  pub all_listed : (names : List (List ℕ)) → All (IsListed (with_places place names)) names
  all_listed names = subst (λ (ns : List (List ℕ)). All (Contains ns) names) (sym (listed names)) (All-contains_itself names)

  true_not_false : true ≡ false → ⊥
  true_not_false is = cc

  -- each of these names has its place
  found : (names : List (List ℕ)) (name : List ℕ) → Contains names name → slot_of (with_places place names) name ≡ place name
  found [] name has = absurd (omega (arith, has.1))
  found (key ∷ keys) name has =
      elim (bytes_eq key name) as (λ b. bytes_eq key name ≡ b → (if b then place key else slot_of (with_places place keys) name) ≡ place name) [
        | true ↦ λ is. ap place ((bytes_eq-Decides key name).0 is)
        | false ↦ λ is. elim (Contains-append_cases (key ∷ []) keys name has) [
          | inl here ↦
              let same : name ≡ key = All-contains (λ x. x ≡ key) (key ∷ []) name (All-cons (λ x. x ≡ key) key [] refl (All-nil (λ x. x ≡ key))) here in
              let equal : bytes_eq key name ≡ true = (bytes_eq-Decides key name).1 (sym same) in
              absurd (true_not_false (sym equal ∙ is))
          | inr there ↦ found keys name there
        ]
      ] refl

  pub all_found : (names : List (List ℕ)) → All (λ name. slot_of (with_places place names) name ≡ place name) names
  all_found names = All-weaker (Contains names) (λ name. slot_of (with_places place names) name ≡ place name) (found names) names (All-contains_itself names)

-- ---- the places of a row's names

-- a place from this one on is within a bound, as what stands for a name that is not there is
place_within : (n place : ℕ) (names : List (List ℕ)) (name : List ℕ) (other : ℕ) → place + length names ≤ n → other < n → place_from place names name other < n
place_within n place [] name other few low = low
place_within n place (first ∷ names) name other few low =
    elim (bytes_eq first name) as (λ b. (if b then place else place_from (place + 1) names name other) < n) [
      | true ↦ omega arith
      | false ↦ place_within n (place + 1) names name other (omega arith) low
    ]

-- each name has the place of an input or of a fact
place_below : (ports : List (List ℕ)) (facts : List Fact) → length ports ≤ 8 → (name : List ℕ) → place_of ports facts name < 8 + length facts
place_below ports facts few name =
    place_within (8 + length facts) 0 ports name (place_from 8 (names_of_facts facts) name 0) (omega arith)
    (place_within (8 + length facts) 8 (names_of_facts facts) name 0 (omega (arith, length-map facts (λ (f : Fact). f.name))) (omega arith))

-- so does each of some names
pub places_below : (ports : List (List ℕ)) (facts : List Fact) → length ports ≤ 8 → (names : List (List ℕ)) →
    All (λ (pair : List ℕ × ℕ). pair.1 < 8 + length facts) (with_places (place_of ports facts) names)
places_below ports facts few names =
    All-map (λ (pair : List ℕ × ℕ). pair.1 < 8 + length facts) (λ (name : List ℕ). (name, place_of ports facts name)) names
    (All-weaker (Contains names) (λ name. place_of ports facts name < 8 + length facts) (λ name _. place_below ports facts few name) names (All-contains_itself names))

-- ---- kinds

-- a row made ready has the kind of the row
pub same_kind_of_row : (places : List ℕ → ℕ) (s : RowSort) → kind_of_way (way_of places s) ≡ kind_of_sort s
same_kind_of_row places (sort.Is fact op value) = refl
same_kind_of_row places (sort.When test) = refl
same_kind_of_row places (sort.Timed ms fails) = refl
same_kind_of_row places (sort.TimedBy length fails) = refl
same_kind_of_row places (sort.Replay ms outcomes) = refl
same_kind_of_row places (sort.Gate test) = refl
same_kind_of_row places sort.Sensed = refl
same_kind_of_row places (sort.Told outs) = refl
