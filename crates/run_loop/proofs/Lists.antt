-- Lists in which one entry is set.
use Rattle.std.proofs.Common.{◌≡◌, ◌⊎◌, inl, inr, ℕ, zero, suc, ◌<◌, List, [], ◌∷◌, Some, map, length, slice_get, set, refl, ap, arith}

-- an entry of a list in which one was set is that one, or is at another place
pub set_is : {A : Type 0} (xs : List A) (i : ℕ) (new : A) (k : ℕ) (y : A) → slice_get (set xs i new) k ≡ Some y → ((k ≡ i) × (new ≡ y)) ⊎ ((k ≡ i → ⊥) × (slice_get xs k ≡ Some y))
set_is [] i new k y e = inr ((λ same. cc), e)
set_is (x ∷ xs) zero new zero y e = inl (refl, cc)
set_is (x ∷ xs) zero new (suc k) y e = inr ((λ same. cc), e)
set_is (x ∷ xs) (suc i) new zero y e = inr ((λ same. cc), e)
set_is (x ∷ xs) (suc i) new (suc k) y e = elim (set_is xs i new k y e) [
  | inl here ↦ inl (ap suc here.0, here.1)
  | inr there ↦ inr ((λ same. there.0 (omega (arith, same))), there.1)
]

-- the place of an entry is less than the length
pub within : {A : Type 0} (xs : List A) (k : ℕ) (y : A) → slice_get xs k ≡ Some y → k < length xs
within [] k y e = cc
within (x ∷ xs) zero y e = omega arith
within (x ∷ xs) (suc k) y e = omega (arith, within xs k y e)

-- each place less than the length has an entry
pub entry : {A : Type 0} (xs : List A) (k : ℕ) → k < length xs → (y : A) × (slice_get xs k ≡ Some y)
entry [] k low = absurd (omega (arith, low))
entry (x ∷ xs) zero low = (x, refl)
entry (x ∷ xs) (suc k) low = entry xs k (omega (arith, low))

module _ {A B : Type 0} (f g : A → B) where
  -- two functions that agree on the entries give equal lists
  pub map_alike : (xs : List A) → ((k : ℕ) (x : A) → slice_get xs k ≡ Some x → f x ≡ g x) → map f xs ≡ map g xs
  map_alike [] agree = refl
  map_alike (x ∷ xs) agree = λ i. agree 0 x refl i ∷ map_alike xs (λ k y e. agree (suc k) y e) i

  -- two functions that agree on all entries except one give equal lists where that one is set
  pub set_alike : (xs : List A) (i : ℕ) (y : B) → ((k : ℕ) (x : A) → slice_get xs k ≡ Some x → (k ≡ i → ⊥) → f x ≡ g x) → set (map f xs) i y ≡ set (map g xs) i y
  set_alike [] i y agree = refl
  set_alike (x ∷ xs) zero y agree = ap (λ ys. y ∷ ys) (map_alike xs (λ k z e. agree (suc k) z e (λ same. cc)))
  set_alike (x ∷ xs) (suc i) y agree = λ j. agree 0 x refl (λ same. cc) j ∷ set_alike xs i y (λ k z e apart. agree (suc k) z e (λ same. apart (omega (arith, same)))) j
