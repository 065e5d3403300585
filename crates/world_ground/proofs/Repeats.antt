-- Whether one of some names stands twice, name by name.
use Rattle.std.proofs.Common.{◌≡◌, ℕ, ◌+◌, ◌<◌, Bool, true, false, ◌||◌, List, [], ◌∷◌, ◌++◌, length, take, drop, get_or, refl, sym, ◌∙◌, ap}
use Rattle.std.specs.Prelude.{bytes_eq}
use Rattle.std.specs.List.{list_any}
use Rattle.std.proofs.lemmas.List.{drop_more, take_more}
use Rattle.spec_world_file.specs.WorldFile.{repeats}

or_true : (a b : Bool) → a ≡ true → (a || b) ≡ true
or_true true b h = refl
or_true false b h = absurd (cc)

or_false : (a b : Bool) → a ≡ false → (a || b) ≡ b
or_false true b h = absurd (cc)
or_false false b h = refl

module _ (names : List (List ℕ)) (i : ℕ) (d : List ℕ) (within : i < length names) where
  next : repeats (take i names) (drop i names) ≡ (list_any (bytes_eq (get_or names i d)) (take i names) || repeats (take i names ++ get_or names i d ∷ []) (drop (i + 1) names))
  next = ap (repeats (take i names)) (drop_more names i d within)

  -- a name that stands among the earlier ones stands twice
  pub twice : (all : Bool) → repeats (take i names) (drop i names) ≡ all → list_any (bytes_eq (get_or names i d)) (take i names) ≡ true → true ≡ all
  twice all h e = sym (or_true (list_any (bytes_eq (get_or names i d)) (take i names)) _ e) ∙ sym next ∙ h

  -- and where it does not, the next names decide
  pub once : (all : Bool) → repeats (take i names) (drop i names) ≡ all → list_any (bytes_eq (get_or names i d)) (take i names) ≡ false → repeats (take (i + 1) names) (drop (i + 1) names) ≡ all
  once all h e =
      ap (λ (earlier : List (List ℕ)). repeats earlier (drop (i + 1) names)) (take_more names i d within)
      ∙ sym (or_false (list_any (bytes_eq (get_or names i d)) (take i names)) _ e)
      ∙ sym next
      ∙ h
