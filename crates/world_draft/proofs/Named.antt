-- Tests of names in maps, sets and lists.
use Rattle.std.proofs.Common.{◌≡◌, ℕ, ◌+◌, ◌<◌, Bool, true, false, not, cond, ◌||◌, List, [], ◌∷◌, ◌++◌, map, length, take, drop, get_or, Option, Some, None, Vec, refl, sym, ap, ◌∙◌}
use Rattle.std.specs.Prelude.{position, nat_lt, is_some, bytes_eq}
use Rattle.std.specs.Global.{Global}
use Rattle.std.specs.List.{list_any, position_or_len}
use Rattle.std.specs.Map.{keys_of, values_of, lookup}
use Rattle.std.proofs.lemmas.List.{length-map, map-append, drop_more, take_more}
use Rattle.std.proofs.lemmas.Map.Made.{is_some-lookup}
use Rattle.indexmap.specs.IndexMap.{IndexMap, values, insert_entry}
use Rattle.indexmap.specs.IndexSet.{IndexSet, insert_key}
use Rattle.indexmap.proofs.CallerLemmas.{insert_entry-new}
use Rattle.spec_world_file.specs.WorldFile.{repeats}
use Rattle.world_draft.specs.Tables.{names_in, names_of_set}

pub any-map : {X Y : Type 0} (p : Y → Bool) (f : X → Y) (xs : List X) → list_any p (map f xs) ≡ list_any (λ x. p (f x)) xs
any-map p f [] = refl
any-map p f (x ∷ xs) = ap (λ (b : Bool). p (f x) || b) (any-map p f xs)

place-map : {X Y : Type 0} (p : Y → Bool) (f : X → Y) (xs : List X) → position_or_len p (map f xs) ≡ position_or_len (λ x. p (f x)) xs
place-map p f [] = refl
place-map p f (x ∷ xs) = ap (λ (n : ℕ). cond (not (p (f x))) (1 + n) 0) (place-map p f xs)

pub position-map : {X Y : Type 0} (p : Y → Bool) (f : X → Y) (xs : List X) → position p (map f xs) ≡ position (λ x. p (f x)) xs
position-map p f xs =
    ap (λ (n : ℕ). cond (nat_lt n (length (map f xs))) (Some n) None) (place-map p f xs)
    ∙ ap (λ (n : ℕ). cond (nat_lt (position_or_len (λ x. p (f x)) xs) n) (Some (position_or_len (λ x. p (f x)) xs)) None) (length-map xs f)

none-is : {X : Type 0} (o : Option X) → is_some o ≡ false → o ≡ None
none-is None h = refl
none-is (Some x) h = absurd (cc)

-- a key that none of the names equals is not there
absent : {V : Type 0} (key : Vec ℕ Global) (es : List (Vec ℕ Global × V)) → list_any (bytes_eq key.items) (map (λ k. k.items) (keys_of es)) ≡ false → lookup (λ k. bytes_eq key.items k.items) es ≡ None
absent key es h =
    none-is (lookup (λ k. bytes_eq key.items k.items) es)
    (is_some-lookup (λ k. bytes_eq key.items k.items) es ∙ sym (any-map (bytes_eq key.items) (λ k. k.items) (keys_of es)) ∙ h)

module _ {V S : Type 0} (m n : IndexMap (Vec ℕ Global) V S) (key : Vec ℕ Global) (v : V) (name : List ℕ) where
  -- a value under a new name goes last
  last : key.items ≡ name → list_any (bytes_eq name) (names_in m) ≡ false → n.entries ≡ insert_entry (λ x y. bytes_eq x.items y.items) m.entries key v → n.entries ≡ m.entries ++ (key, v) ∷ []
  last is free e = e ∙ insert_entry-new (λ x y. bytes_eq x.items y.items) m key v (absent key m.entries (ap (λ (q : List ℕ). list_any (bytes_eq q) (names_in m)) is ∙ free))

  pub added_name : key.items ≡ name → list_any (bytes_eq name) (names_in m) ≡ false → n.entries ≡ insert_entry (λ x y. bytes_eq x.items y.items) m.entries key v → names_in n ≡ names_in m ++ name ∷ []
  added_name is free e =
      ap (λ (es : List (Vec ℕ Global × V)). map (λ k. k.items) (keys_of es)) (last is free e)
      ∙ ap (map (λ k. k.items)) (map-append (λ p. p.0) m.entries ((key, v) ∷ []))
      ∙ map-append (λ k. k.items) (keys_of m.entries) (key ∷ []) ∙ ap (λ (q : List ℕ). names_in m ++ q ∷ []) is

  pub added_value : key.items ≡ name → list_any (bytes_eq name) (names_in m) ≡ false → n.entries ≡ insert_entry (λ x y. bytes_eq x.items y.items) m.entries key v → values n ≡ values m ++ v ∷ []
  added_value is free e = ap (λ (es : List (Vec ℕ Global × V)). values_of es) (last is free e) ∙ map-append (λ p. p.1) m.entries ((key, v) ∷ [])

-- names are put into a set, one after another
module _ {S : Type 0} (set : IndexSet (Vec ℕ Global) S) (key : Vec ℕ Global) (names : List (List ℕ)) (i : ℕ) (d : List ℕ) (within : i < length names) (is : key.items ≡ get_or names i d) (held : names_of_set set ≡ take i names) where
  found : list_any (λ k. bytes_eq key.items k.items) set.keys ≡ list_any (bytes_eq (get_or names i d)) (take i names)
  found =
      sym (any-map (bytes_eq key.items) (λ k. k.items) set.keys) ∙ ap (λ (q : List ℕ). list_any (bytes_eq q) (names_of_set set)) is
      ∙ ap (λ (ns : List (List ℕ)). list_any (bytes_eq (get_or names i d)) ns) held

  next : (t : Bool) → list_any (λ k. bytes_eq key.items k.items) set.keys ≡ t → repeats (take i names) (drop i names) ≡ (t || repeats (take (i + 1) names) (drop (i + 1) names))
  next t h =
      ap (repeats (take i names)) (drop_more names i d within)
      ∙ ap (λ (b : Bool). b || repeats (take i names ++ get_or names i d ∷ []) (drop (i + 1) names)) (sym found ∙ h)
      ∙ ap (λ (ns : List (List ℕ)). t || repeats ns (drop (i + 1) names)) (sym (take_more names i d within))

  -- one that is there already stands twice
  pub twice : (whole r : Bool) → repeats (take i names) (drop i names) ≡ whole → r ≡ not (list_any (λ k. bytes_eq key.items k.items) set.keys) → r ≡ false → whole ≡ true
  twice whole r rest added fails = sym rest ∙ next true (was (list_any (λ k. bytes_eq key.items k.items) set.keys) (sym added ∙ fails))
    where
      was : (b : Bool) → not b ≡ false → b ≡ true
      was true h = refl
      was false h = sym h

  fresh : (r : Bool) → r ≡ not (list_any (λ k. bytes_eq key.items k.items) set.keys) → r ≡ true → list_any (λ k. bytes_eq key.items k.items) set.keys ≡ false
  fresh r added holds = was (list_any (λ k. bytes_eq key.items k.items) set.keys) (sym added ∙ holds)
    where
      was : (b : Bool) → not b ≡ true → b ≡ false
      was true h = sym h
      was false h = refl

  -- and a new one goes on
  pub goes_on : (whole r : Bool) → repeats (take i names) (drop i names) ≡ whole → r ≡ not (list_any (λ k. bytes_eq key.items k.items) set.keys) → r ≡ true → repeats (take (i + 1) names) (drop (i + 1) names) ≡ whole
  goes_on whole r rest added holds = sym (next false (fresh r added holds)) ∙ rest

  pub holds_more : (more : IndexSet (Vec ℕ Global) S) (r : Bool) → more.keys ≡ insert_key (λ x y. bytes_eq x.items y.items) set.keys key → r ≡ not (list_any (λ k. bytes_eq key.items k.items) set.keys) → r ≡ true → names_of_set more ≡ take (i + 1) names
  holds_more more r e added holds =
      ap (map (λ k. k.items)) (e ∙ ap (λ (b : Bool). cond b set.keys (set.keys ++ key ∷ [])) (fresh r added holds))
      ∙ map-append (λ k. k.items) set.keys (key ∷ []) ∙ ap (λ (ns : List (List ℕ)). ns ++ key.items ∷ []) held
      ∙ ap (λ (q : List ℕ). take i names ++ q ∷ []) is ∙ sym (take_more names i d within)
