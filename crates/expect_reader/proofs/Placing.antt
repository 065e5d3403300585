-- The nodes of a term in pre-order: its own, and then those of its children.
use Rattle.std.proofs.Common.{◌≡◌, ℕ, Bool, ◌||◌, List, [], ◌∷◌, ◌++◌, map, refl, ap, ◌∙◌}
use Rattle.std.specs.List.{flat_map, list_any}
use Rattle.spec_tree.specs.declared.term.Term.{Term, fold_out-Term, out-Term}
use Rattle.spec_tree_file.specs.Substitutions.{inside}
use Rattle.spec_expect.specs.declared.place.Place.{Place}
use Rattle.spec_expect.specs.Leaves.{places_all, places_below, places_step}

pub any_map : {X Y : Type 0} (p : Y → Bool) (f : X → Y) (xs : List X) → list_any p (map f xs) ≡ list_any (λ x. p (f x)) xs
any_map p f [] = refl
any_map p f (x ∷ xs) = ap (λ (b : Bool). p (f x) || b) (any_map p f xs)

all_are : (terms : List Term) (above : List ℕ) → places_all (map places_below terms) above ≡ flat_map (λ (t : Term). places_below t above) terms
all_are [] above = refl
all_are (t ∷ terms) above = ap (λ (ps : List Place). places_below t above ++ ps) (all_are terms above)

-- the node of a term where paths begin with this text
abbrev pub own_place : Term → List ℕ → Place
own_place t above = record { kind = (out-Term t).kind; id = (out-Term t).id; name = (out-Term t).name; path = above ++ (out-Term t).name }

abbrev pub inside_of : Term → List ℕ → List ℕ
inside_of t above = inside (out-Term t).kind (out-Term t).name above

pub places_out : (t : Term) (above : List ℕ) → places_below t above ≡ own_place t above ∷ flat_map (λ (c : Term). places_below c (inside_of t above)) (out-Term t).children
places_out t above =
    ap (λ (f : List ℕ → List Place). f above) (fold_out-Term (List ℕ → List Place) places_step t)
    ∙ ap (λ (ps : List Place). own_place t above ∷ ps) (all_are (out-Term t).children (inside_of t above))
