-- What holds of each entry of a list still holds after one is set, or after all are mapped.
use Rattle.std.proofs.Common.{◌≡◌, ℕ, zero, suc, List, [], ◌∷◌, map, Some, refl, subst, slice_get, slice_set, replicate}

module _ {A : Type 0} (P : A → Type 0) where
  found : (x y : A) → Some x ≡ Some y → P x → P y
  found x y e holds = subst P (let same : x ≡ y = cc in same) holds

  -- an entry of a list in which one is set
  pub set_entry : (xs : List A) (place k : ℕ) (new y : A) → P new → ((x : A) → slice_get xs k ≡ Some x → P x) → slice_get (slice_set xs place new) k ≡ Some y → P y
  set_entry [] place k new y here old e = old y e
  set_entry (x ∷ xs) zero zero new y here old e = found new y e here
  set_entry (x ∷ xs) zero (suc k) new y here old e = old y e
  set_entry (x ∷ xs) (suc place) zero new y here old e = old y e
  set_entry (x ∷ xs) (suc place) (suc k) new y here old e = set_entry xs place k new y here old e

  -- an entry of a list of equal ones
  pub equal_entry : (n k : ℕ) (x y : A) → P x → slice_get (replicate n x) k ≡ Some y → P y
  equal_entry zero k x y holds e = cc
  equal_entry (suc n) zero x y holds e = found x y e holds
  equal_entry (suc n) (suc k) x y holds e = equal_entry n k x y holds e

-- an entry of a list whose entries are mapped
pub mapped_entry : {A B : Type 0} (P : B → Type 0) (f : A → B) (xs : List A) (k : ℕ) (y : B) → ((x : A) → slice_get xs k ≡ Some x → P (f x)) → slice_get (map f xs) k ≡ Some y → P y
mapped_entry P f [] k y holds e = cc
mapped_entry P f (x ∷ xs) zero y holds e = found P (f x) y e (holds x refl)
mapped_entry P f (x ∷ xs) (suc k) y holds e = mapped_entry P f xs k y holds e
