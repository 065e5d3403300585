-- What holds of each element of a list, and of the first that passes.
use Rattle.std.proofs.Common.{◌≡◌, Bool, true, false, cond, List, [], ◌∷◌, ◌++◌, map, Some, subst}
use Rattle.std.specs.Prelude.{slice_get}
use Rattle.std.specs.List.{AllByRecursion, filter, flat_map}

pub all_both : {X : Type 0} (P : X → Type 0) (xs ys : List X) → AllByRecursion P xs → AllByRecursion P ys → AllByRecursion P (xs ++ ys)
all_both P [] ys p q = q
all_both P (x ∷ xs) ys p q = (p.0, all_both P xs ys p.1 q)

pub all_filter : {X : Type 0} (P : X → Type 0) (test : X → Bool) (xs : List X) → AllByRecursion P xs → AllByRecursion P (filter test xs)
all_filter P test [] p = tt
all_filter P test (x ∷ xs) p = elim (test x) as (λ (b : Bool). AllByRecursion P (cond b (x ∷ filter test xs) (filter test xs))) [
  | true ↦ (p.0, all_filter P test xs p.1)
  | false ↦ all_filter P test xs p.1
]

pub all_flat : {X Y : Type 0} (P : Y → Type 0) (f : X → List Y) (xs : List X) → ((x : X) → AllByRecursion P (f x)) → AllByRecursion P (flat_map f xs)
all_flat P f [] p = tt
all_flat P f (x ∷ xs) p = all_both P (f x) (flat_map f xs) (p x) (all_flat P f xs p)

pub all_flat_of : {X Y : Type 0} (Q : X → Type 0) (P : Y → Type 0) (f : X → List Y) (xs : List X) → ((x : X) → Q x → AllByRecursion P (f x)) → AllByRecursion Q xs → AllByRecursion P (flat_map f xs)
all_flat_of Q P f [] p q = tt
all_flat_of Q P f (x ∷ xs) p q = all_both P (f x) (flat_map f xs) (p x q.0) (all_flat_of Q P f xs p q.1)

pub all_map : {X Y : Type 0} (Q : X → Type 0) (P : Y → Type 0) (f : X → Y) (xs : List X) → ((x : X) → Q x → P (f x)) → AllByRecursion Q xs → AllByRecursion P (map f xs)
all_map Q P f [] p q = tt
all_map Q P f (x ∷ xs) p q = (p x q.0, all_map Q P f xs p q.1)

pub all_first : {X : Type 0} (P : X → Type 0) (xs : List X) (x : X) → AllByRecursion P xs → slice_get xs 0 ≡ Some x → P x
all_first P [] x p is = absurd (cc is)
all_first P (y ∷ xs) x p is = let same : y ≡ x = cc is in subst P same p.0
