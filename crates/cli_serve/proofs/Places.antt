-- The models of a file are found by their places.
use Rattle.std.proofs.Common.{◌≡◌, ◌<◌, ◌≤◌, ℕ, suc, ◌+◌, Bool, true, false, ◌||◌, cond, if◌then◌else◌, List, [], ◌∷◌, ◌++◌, length, get_or, drop, filter, Option, Some, None, refl, sym, ap, ◌∙◌, arith}
use Rattle.std.specs.Prelude.{bytes_eq, is_some, option_to_list}
use Rattle.std.specs.List.{list_any, slice_get}
use Rattle.std.specs.Map.{keys_of, lookup}
use Rattle.std.specs.Option.{option_or}
use Rattle.std.proofs.lemmas.Bool.{both_ways}
use Rattle.std.proofs.lemmas.List.{drop_all, drop_more}
use Rattle.std.proofs.lemmas.Map.Made.{is_some-lookup}
use Rattle.std.proofs.lemmas.Slice.Eq.{bytes_eq-Decides}
use Rattle.indexmap.specs.IndexMap.{IndexMap, insert_entry}
use Rattle.indexmap.proofs.CallerLemmas.{insert_entry-new}
use Rattle.cli_serve.proofs.Tables.{none_is}
use Rattle.spec_serve.specs.Rows.{model_of, node_id}
use Rattle.spec_tree.specs.Names.{is_among}
use Rattle.spec_tree_file.specs.declared.element.Element.{Element}
use Rattle.spec_tree_file.specs.Models.{attributes_of, is_model, name_of}
use Rattle.cli_serve.specs.Places.{FindModels, Places, model_place, modelled_id, with_model, with_place}

-- ---- One model more

-- the place of a new ID
pub place_added : {S : Type 0} (m : IndexMap (List ℕ) ℕ S) (more : Places) (id key : List ℕ) (at : ℕ) → is_some (lookup (bytes_eq id) m.entries) ≡ false → key ≡ id
    → more ≡ insert_entry bytes_eq m.entries key at → more ≡ with_place id at m.entries
place_added m more id key at gone is added =
    added ∙ ap (λ (k : List ℕ). insert_entry bytes_eq m.entries k at) is
    ∙ insert_entry-new bytes_eq m id at (none_is (lookup (bytes_eq id) m.entries) gone)
    ∙ ap (λ (b : Bool). if b then m.entries else m.entries ++ (id, at) ∷ []) (sym gone ∙ is_some-lookup (bytes_eq id) m.entries)

-- one that has a place
pub place_kept : (places : Places) (id : List ℕ) (at : ℕ) → is_some (lookup (bytes_eq id) places) ≡ true → places ≡ with_place id at places
place_kept places id at there =
    ap (λ (b : Bool). if b then places else places ++ (id, at) ∷ []) (sym there ∙ is_some-lookup (bytes_eq id) places)

module _ (id : List ℕ) where
  last_found : (places : Places) (key : List ℕ) (at : ℕ) → lookup (bytes_eq id) (places ++ (key, at) ∷ []) ≡ option_or (lookup (bytes_eq id) places) (cond (bytes_eq id key) (Some at) None)
  last_found [] key at = refl
  last_found (place ∷ places) key at = by (bytes_eq id place.0) (last_found places key at)
    where
      by : (b : Bool) → lookup (bytes_eq id) (places ++ (key, at) ∷ []) ≡ option_or (lookup (bytes_eq id) places) (cond (bytes_eq id key) (Some at) None)
          → cond b (Some place.1) (lookup (bytes_eq id) (places ++ (key, at) ∷ [])) ≡ option_or (cond b (Some place.1) (lookup (bytes_eq id) places)) (cond (bytes_eq id key) (Some at) None)
      by true more = refl
      by false more = more

  before_last : (o : Option ℕ) (b : Bool) (at : ℕ) (rest : Option ℕ) → option_or (option_or o (cond b (Some at) None)) rest ≡ option_or o (if b || false then Some at else rest)
  before_last None true at rest = refl
  before_last None false at rest = refl
  before_last (Some p) b at rest = refl

  found_before : (o : Option ℕ) (a b : Option ℕ) → is_some o ≡ true → option_or o a ≡ option_or o b
  found_before None a b e = absurd (both_ways false refl e)
  found_before (Some p) a b e = refl

  -- what is found with one model more is found before it, or is that one, or one of the rest
  found_more : (of : Option (List ℕ)) (at : ℕ) (places : Places) (rest : Option ℕ)
      → option_or (lookup (bytes_eq id) (with_model of at places)) rest ≡ option_or (lookup (bytes_eq id) places) (if list_any (bytes_eq id) (option_to_list of) then Some at else rest)
  found_more None at places rest = refl
  found_more (Some key) at places rest = by (is_among key (keys_of places)) refl
    where
      by_own : (b : Bool) → bytes_eq id key ≡ b → is_among key (keys_of places) ≡ true
          → option_or (lookup (bytes_eq id) places) rest ≡ option_or (lookup (bytes_eq id) places) (if b || false then Some at else rest)
      by_own false apart there = refl
      by_own true same there =
          found_before (lookup (bytes_eq id) places) rest (Some at)
          (is_some-lookup (bytes_eq id) places ∙ ap (λ (name : List ℕ). is_among name (keys_of places)) ((bytes_eq-Decides id key).0 same) ∙ there)

      by : (b : Bool) → is_among key (keys_of places) ≡ b
          → option_or (lookup (bytes_eq id) (if b then places else places ++ (key, at) ∷ [])) rest ≡ option_or (lookup (bytes_eq id) places) (if bytes_eq id key || false then Some at else rest)
      by true there = by_own (bytes_eq id key) refl there
      by false gone =
          ap (λ (o : Option ℕ). option_or o rest) (last_found places key at)
          ∙ before_last (lookup (bytes_eq id) places) (bytes_eq id key) at rest

-- all models are found, or among those that are left
pub model_more : (models : List Element) (i : ℕ) (e : Element) (places more : Places) → i < length models → e ≡ get_or models i e → more ≡ with_model (modelled_id e) i places
    → ((id : List ℕ) → option_or (lookup (bytes_eq id) places) (model_place id i (drop i models)) ≡ model_place id 0 models)
    → (id : List ℕ) → option_or (lookup (bytes_eq id) more) (model_place id (i + 1) (drop (i + 1) models)) ≡ model_place id 0 models
model_more models i e places more within is added so_far id =
    ap (λ (all : Places). option_or (lookup (bytes_eq id) all) (model_place id (i + 1) (drop (i + 1) models))) added
    ∙ found_more id (modelled_id e) i places (model_place id (i + 1) (drop (i + 1) models))
    ∙ ap (λ (es : List Element). option_or (lookup (bytes_eq id) places) (model_place id i es))
    (ap (λ (x : Element). x ∷ drop (i + 1) models) is ∙ sym (drop_more models i e within))
    ∙ so_far id

-- none are left
pub all_placed : (models : List Element) (i : ℕ) (places : Places) → length models ≤ i
    → ((id : List ℕ) → option_or (lookup (bytes_eq id) places) (model_place id i (drop i models)) ≡ model_place id 0 models)
    → FindModels places models
all_placed models i places ended so_far id =
    sym (or_none (lookup (bytes_eq id) places))
    ∙ ap (λ (es : List Element). option_or (lookup (bytes_eq id) places) (model_place id i es)) (sym (drop_all i models ended))
    ∙ so_far id
  where
    or_none : (o : Option ℕ) → option_or o None ≡ o
    or_none None = refl
    or_none (Some p) = refl

-- ---- The model at a place

abbrev candidates : List Element → List Element
candidates es = filter (λ m. is_model (name_of m)) es

module _ (id : List ℕ) where
  -- an element stands at a place, of elements of which the first stands at this one
  abbrev StandsAt : ℕ → ℕ → List Element → Option Element → Type 0
  StandsAt at k es found = (j : ℕ) × (at ≡ k + j) × (slice_get es j ≡ found)

  one_further : (at k : ℕ) (e : Element) (es : List Element) (found : Option Element) → StandsAt at (k + 1) es found → StandsAt at k (e ∷ es) found
  one_further at k e es found stands = let is = stands.1 in (suc stands.0, omega (arith, is), stands.2)

  stands : (k at : ℕ) (es : List Element) → model_place id k es ≡ Some at → StandsAt at k es (model_of id (candidates es))
  stands k at [] found = absurd (cc)
  stands k at (e ∷ es) found = by (is_model (name_of e)) found (stands (k + 1) at es)
    where
      own : Option (List ℕ)
      own = node_id (name_of e) (attributes_of e)

      by_own : (b : Bool) → (if b then Some k else model_place id (k + 1) es) ≡ Some at → (model_place id (k + 1) es ≡ Some at → StandsAt at (k + 1) es (model_of id (candidates es)))
          → StandsAt at k (e ∷ es) (if b then Some e else model_of id (candidates es))
      by_own true found more = let here : k ≡ at = cc in (0, omega (arith, here), refl)
      by_own false found more = one_further at k e es (model_of id (candidates es)) (more found)

      by : (b : Bool) → (if list_any (bytes_eq id) (option_to_list (if b then own else None)) then Some k else model_place id (k + 1) es) ≡ Some at
          → (model_place id (k + 1) es ≡ Some at → StandsAt at (k + 1) es (model_of id (candidates es)))
          → StandsAt at k (e ∷ es) (model_of id (cond b (e ∷ candidates es) (candidates es)))
      by true found more = by_own (list_any (bytes_eq id) (option_to_list own)) found more
      by false found more = one_further at k e es (model_of id (candidates es)) (more found)

  is_placed : (k : ℕ) (es : List Element) → is_some (model_place id k es) ≡ is_some (model_of id (candidates es))
  is_placed k [] = refl
  is_placed k (e ∷ es) = by (is_model (name_of e)) (is_placed (k + 1) es)
    where
      own : Option (List ℕ)
      own = node_id (name_of e) (attributes_of e)

      by_own : (b : Bool) → is_some (model_place id (k + 1) es) ≡ is_some (model_of id (candidates es))
          → is_some (if b then Some k else model_place id (k + 1) es) ≡ is_some (if b then Some e else model_of id (candidates es))
      by_own true more = refl
      by_own false more = more

      by : (b : Bool) → is_some (model_place id (k + 1) es) ≡ is_some (model_of id (candidates es))
          → is_some (if list_any (bytes_eq id) (option_to_list (if b then own else None)) then Some k else model_place id (k + 1) es)
          ≡ is_some (model_of id (cond b (e ∷ candidates es) (candidates es)))
      by true more = by_own (list_any (bytes_eq id) (option_to_list own)) more
      by false more = more

module _ (places : Places) (models : List Element) (find : FindModels places models) (id : List ℕ) where
  -- an ID has a place where it has a model
  pub place_tells : is_some (lookup (bytes_eq id) places) ≡ is_some (model_of id (candidates models))
  place_tells = ap is_some (find id) ∙ is_placed id 0 models

  -- the model stands there
  pub model_found : (at : ℕ) → lookup (bytes_eq id) places ≡ Some at → slice_get models at ≡ model_of id (candidates models)
  model_found at is =
      let here = stands id 0 at models (sym (find id) ∙ is) in
      let counted = here.1 in
      let same : at ≡ here.0 = omega (arith, counted) in
      ap (slice_get models) same ∙ here.2

  pub no_model : lookup (bytes_eq id) places ≡ None → None ≡ model_of id (candidates models)
  no_model is = sym (none_is (model_of id (candidates models)) (sym place_tells ∙ ap is_some is))
