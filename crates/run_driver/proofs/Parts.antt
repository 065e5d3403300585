-- The two parts of a list whose items all have a property.
use Rattle.std.proofs.Common.{List, [], ◌∷◌, ◌++◌}
use Rattle.std.specs.List.{All}
use Rattle.std.proofs.lemmas.List.Elements.{All-nil, All-cons, All-head, All-tail}

module _ {X : Type 0} (P : X → Type 0) where
  pub All-left : (xs ys : List X) → All P (xs ++ ys) → All P xs
  All-left [] ys all = All-nil P
  All-left (x ∷ xs) ys all = All-cons P x xs (All-head P x (xs ++ ys) all) (All-left xs ys (All-tail P x (xs ++ ys) all))

  pub All-right : (xs ys : List X) → All P (xs ++ ys) → All P ys
  All-right [] ys all = all
  All-right (x ∷ xs) ys all = All-right xs ys (All-tail P x (xs ++ ys) all)
