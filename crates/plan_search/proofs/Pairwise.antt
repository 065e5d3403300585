-- Two choices, options or lists whose values are related one by one.
use Rattle.std.proofs.Common.{◌≡◌, Bool, true, false, if◌then◌else◌, List, [], ◌∷◌, ◌++◌, map, Option, Some, None, refl, ap, ◌∙◌, subst}
use Rattle.std.specs.Prelude.{option_map, slice_get}
use Rattle.std.specs.List.{filter, find, flat_map}
use Rattle.std.specs.Option.{option_or}

-- two lists, element by element
abbrev pub AllPaired : {X : Type 0} → (X → X → Type 0) → List X → List X → Type 0
AllPaired R [] [] = Unit {0}
AllPaired R (x ∷ xs) (y ∷ ys) = R x y × AllPaired R xs ys
AllPaired R _ _ = ⊥

-- both have a value, or none has
abbrev pub OptionPaired : {X : Type 0} → (X → X → Type 0) → Option X → Option X → Type 0
OptionPaired R None None = Unit {0}
OptionPaired R (Some x) (Some y) = R x y
OptionPaired R _ _ = ⊥

pub choice_paired : {X : Type 0} (R : X → X → Type 0) (b c : Bool) (x u y v : X) → b ≡ c → R x y → R u v → R (if b then x else u) (if c then y else v)
choice_paired R true true x u y v same one other = one
choice_paired R false false x u y v same one other = other
choice_paired R true false x u y v same one other = absurd (cc same)
choice_paired R false true x u y v same one other = absurd (cc same)

module _ {X : Type 0} (R : X → X → Type 0) where
  pub or_paired : (a b c d : Option X) → OptionPaired R a b → OptionPaired R c d → OptionPaired R (option_or a c) (option_or b d)
  or_paired None None c d first next = next
  or_paired (Some x) (Some y) c d first next = first
  or_paired None (Some y) c d first next = absurd first
  or_paired (Some x) None c d first next = absurd first

  pub map_paired : {Y : Type 0} (S : Y → Y → Type 0) (make other : X → Y) (a b : Option X) → ((x y : X) → R x y → S (make x) (other y)) → OptionPaired R a b → OptionPaired S (option_map make a) (option_map other b)
  map_paired S make other None None each both = tt
  map_paired S make other (Some x) (Some y) each both = each x y both
  map_paired S make other None (Some y) each both = absurd both
  map_paired S make other (Some x) None each both = absurd both

  pub append_paired : (xs ys us vs : List X) → AllPaired R xs ys → AllPaired R us vs → AllPaired R (xs ++ us) (ys ++ vs)
  append_paired [] [] us vs first next = next
  append_paired (x ∷ xs) (y ∷ ys) us vs (one, later) next = (one, append_paired xs ys us vs later next)
  append_paired [] (y ∷ ys) us vs first next = absurd first
  append_paired (x ∷ xs) [] us vs first next = absurd first

module _ {X : Type 0} (R : X → X → Type 0) where
  pub find_paired : (test other : X → Bool) (xs ys : List X) → ((x y : X) → R x y → test x ≡ other y) → AllPaired R xs ys → OptionPaired R (find test xs) (find other ys)
  find_paired test other [] [] each both = tt
  find_paired test other (x ∷ xs) (y ∷ ys) each (one, later) =
      choice_paired (OptionPaired R) (test x) (other y) (Some x) (find test xs) (Some y) (find other ys) (each x y one) one (find_paired test other xs ys each later)
  find_paired test other [] (y ∷ ys) each both = absurd both
  find_paired test other (x ∷ xs) [] each both = absurd both

  pub filter_paired : (test other : X → Bool) (xs ys : List X) → ((x y : X) → R x y → test x ≡ other y) → AllPaired R xs ys → AllPaired R (filter test xs) (filter other ys)
  filter_paired test other [] [] each both = tt
  filter_paired test other (x ∷ xs) (y ∷ ys) each (one, later) =
      let more = filter_paired test other xs ys each later in
      choice_paired (AllPaired R) (test x) (other y) (x ∷ filter test xs) (filter test xs) (y ∷ filter other ys) (filter other ys) (each x y one) (one, more) more
  filter_paired test other [] (y ∷ ys) each both = absurd both
  filter_paired test other (x ∷ xs) [] each both = absurd both

  pub all_map_paired : {Y : Type 0} (S : Y → Y → Type 0) (make other : X → Y) (xs ys : List X) → ((x y : X) → R x y → S (make x) (other y)) → AllPaired R xs ys → AllPaired S (map make xs) (map other ys)
  all_map_paired S make other [] [] each both = tt
  all_map_paired S make other (x ∷ xs) (y ∷ ys) each (one, later) = (each x y one, all_map_paired S make other xs ys each later)
  all_map_paired S make other [] (y ∷ ys) each both = absurd both
  all_map_paired S make other (x ∷ xs) [] each both = absurd both

  pub flat_paired : {Y : Type 0} (S : Y → Y → Type 0) (make other : X → List Y) (xs ys : List X) → ((x y : X) → R x y → AllPaired S (make x) (other y)) → AllPaired R xs ys → AllPaired S (flat_map make xs) (flat_map other ys)
  flat_paired S make other [] [] each both = tt
  flat_paired S make other (x ∷ xs) (y ∷ ys) each (one, later) =
      append_paired S (make x) (other y) (flat_map make xs) (flat_map other ys) (each x y one) (flat_paired S make other xs ys each later)
  flat_paired S make other [] (y ∷ ys) each both = absurd both
  flat_paired S make other (x ∷ xs) [] each both = absurd both

  pub first_paired : (xs ys : List X) → AllPaired R xs ys → OptionPaired R (slice_get xs 0) (slice_get ys 0)
  first_paired [] [] both = tt
  first_paired (x ∷ xs) (y ∷ ys) both = both.0
  first_paired [] (y ∷ ys) both = absurd both
  first_paired (x ∷ xs) [] both = absurd both

  pub other_some : (a b : Option X) (x : X) → OptionPaired R a b → a ≡ Some x → (y : X) × (b ≡ Some y) × R x y
  other_some (Some w) (Some y) x both is = let same : w ≡ x = cc is in (y, refl, subst (λ (z : X). R z y) same both)
  other_some None b x both is = absurd (cc is)
  other_some (Some w) None x both is = absurd both

  pub other_none : (a b : Option X) → OptionPaired R a b → a ≡ None → b ≡ None
  other_none None None both is = refl
  other_none None (Some y) both is = absurd both
  other_none (Some x) b both is = absurd (cc is)

  pub same_maps : {Y : Type 0} (make other : X → Y) (xs ys : List X) → ((x y : X) → R x y → make x ≡ other y) → AllPaired R xs ys → map make xs ≡ map other ys
  same_maps make other [] [] each both = refl
  same_maps {Y = Y} make other (x ∷ xs) (y ∷ ys) each (one, later) =
      ap (λ (z : Y). z ∷ map make xs) (each x y one) ∙ ap (λ (zs : List Y). other y ∷ zs) (same_maps make other xs ys each later)
  same_maps make other [] (y ∷ ys) each both = absurd both
  same_maps make other (x ∷ xs) [] each both = absurd both

  pub self_paired : ((x : X) → R x x) → (xs : List X) → AllPaired R xs xs
  self_paired each [] = tt
  self_paired each (x ∷ xs) = (each x, self_paired each xs)
