-- Lists that are put in order, each item once.
use Rattle.std.proofs.Common.{◌≡◌, List, [], ◌∷◌, Bool, true, false, cond, ◌||◌, true≢false, Result, Ok, Err, IfOk, refl, ap, ◌∙◌}
use Rattle.std.specs.List.{list_any, dedup, dedup_from}

-- a test that takes equal items alike
abbrev pub TakesAlike : {X : Type 0} → (X → X → Bool) → (X → Bool) → Type 0
TakesAlike {X} E p = (x y : X) → E x y ≡ true → p x ≡ p y

same_or : (a b c : Bool) → b ≡ a → a || c ≡ a || (b || c)
same_or true b c e = refl
same_or false true c e = absurd (true≢false e)
same_or false false c e = refl

list_any-dedup_from : {X : Type 0} (E : X → X → Bool) (p : X → Bool) → TakesAlike E p → (x : X) (xs : List X) → list_any p (dedup_from E x xs) ≡ list_any p (x ∷ xs)
list_any-dedup_from E p alike x [] = refl
list_any-dedup_from E p alike x (y ∷ ys) =
    elim (E y x) as (λ b. E y x ≡ b → list_any p (cond b (dedup_from E x ys) (x ∷ dedup_from E y ys)) ≡ list_any p (x ∷ y ∷ ys)) [
      | true ↦ λ e. list_any-dedup_from E p alike x ys ∙ same_or (p x) (p y) (list_any p ys) (alike y x e)
      | false ↦ λ _. ap (λ b. p x || b) (list_any-dedup_from E p alike y ys)
    ] refl

-- what is left has each test's items
pub list_any-dedup : {X : Type 0} (E : X → X → Bool) (p : X → Bool) → TakesAlike E p → (xs : List X) → list_any p (dedup E xs) ≡ list_any p xs
list_any-dedup E p alike [] = refl
list_any-dedup E p alike (x ∷ xs) = list_any-dedup_from E p alike x xs

-- what follows from two clauses on an answer
pub if_ok_both : {X E : Type 0} (r : Result X E) (P Q R : X → Type 0) → ((x : X) → P x → Q x → R x) → IfOk r P → IfOk r Q → IfOk r R
if_ok_both (Ok x) P Q R f p q = f x p q
if_ok_both (Err e) P Q R f p q = tt
