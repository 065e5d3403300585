-- Drivers that are prepared one after another.
use Rattle.std.proofs.Common.{◌≡◌, ℕ, zero, suc, ◌+◌, ◌<◌, ◌≤◌, false, List, [], ◌∷◌, length, map, take, set, get_or, replicate, Result, Ok, Err, OnErr, refl, sym, ap, subst, ◌∙◌, add-one, arith}
use Rattle.std.proofs.lemmas.List.{get_or-map, length-map, map-set}
use Rattle.std.proofs.Math.Seq.{map-set_same}
use Rattle.spec_run.specs.declared.leaf.DriverKind.TheVariants.{Condition}
use Rattle.spec_run.specs.Leaf.{fresh}
use Rattle.spec_run.specs.Drivers.{DriverState, HoldsNothing, NothingHeld, driver_at, is_held, new_driver, prepared, roster_prepared}

-- the next driver is as it was
pub untouched : (ds : List DriverState) (counts : List ℕ) (k : ℕ) → driver_at (roster_prepared ds (take k counts)) k ≡ driver_at ds k
untouched ds counts zero = refl
untouched ds [] (suc k) = refl
untouched [] (c ∷ cs) (suc k) = refl
untouched (d ∷ ds) (c ∷ cs) (suc k) = untouched ds cs k

-- one more is prepared
pub one_more : (ds : List DriverState) (counts : List ℕ) (k n : ℕ) → k < length ds → k < length counts →
    set (roster_prepared ds (take k counts)) k (prepared (driver_at ds k) (get_or counts k n)) ≡ roster_prepared ds (take (suc k) counts)
one_more [] counts k n there counted = absurd (omega arith)
one_more (d ∷ ds) [] k n there counted = absurd (omega arith)
one_more (d ∷ ds) (c ∷ cs) zero n there counted = refl
one_more (d ∷ ds) (c ∷ cs) (suc k) n there counted = ap (λ (xs : List DriverState). prepared d c ∷ xs) (one_more ds cs k n (omega arith) (omega arith))

fresh_quiet : (n i : ℕ) → is_held (get_or (replicate n fresh) i fresh) ≡ false
fresh_quiet zero i = refl
fresh_quiet (suc n) zero = refl
fresh_quiet (suc n) (suc i) = fresh_quiet n i

-- no instance is held then
pub quiet_after : (ds : List DriverState) (counts : List ℕ) → NothingHeld ds → (place : ℕ) → HoldsNothing (driver_at (roster_prepared ds counts) place)
quiet_after ds [] none place = none place
quiet_after [] (c ∷ cs) none place = none place
quiet_after (d ∷ ds) (c ∷ cs) none zero = fresh_quiet c
quiet_after (d ∷ ds) (c ∷ cs) none (suc place) = quiet_after ds cs (λ p. none (suc p)) place

pub length_prepared : (ds : List DriverState) (counts : List ℕ) → length (roster_prepared ds counts) ≡ length ds
length_prepared ds [] = refl
length_prepared [] (c ∷ cs) = refl
length_prepared (d ∷ ds) (c ∷ cs) = ap suc (length_prepared ds cs)

-- ---- Values that show as these drivers, of which a prefix is prepared

module _ {B : Type 0} (state : B → DriverState) (items : List B) (ds : List DriverState) (counts : List ℕ) (k : ℕ) (b : B)
    (same : map state items ≡ roster_prepared ds (take k counts)) (is : b ≡ get_or items k b) (counted : k < length counts) (enough : length counts ≤ length ds) where
  next_there : k < length items
  next_there = omega (arith, sym (length-map items state) ∙ ap length same ∙ length_prepared ds (take k counts))

  next_is : state b ≡ driver_at ds k
  next_is =
      ap state is ∙ sym (get_or-map state items k b (new_driver Condition) next_there)
      ∙ ap (λ (xs : List DriverState). driver_at xs k) same ∙ untouched ds counts k

  -- the next driver holds nothing
  pub next_quiet : NothingHeld ds → HoldsNothing (state b)
  next_quiet none = subst (λ (d : DriverState). HoldsNothing d) (sym next_is) (none k)

  -- where it is prepared, one more is
  pub next_prepared : (new : B) → state new ≡ prepared (state b) (get_or counts k 0) → map state (set items k new) ≡ roster_prepared ds (take (k + 1) counts)
  next_prepared new made =
      map-set state items k new
      ∙ (λ i. set (same i) k ((made ∙ ap (λ (d : DriverState). prepared d (get_or counts k 0)) next_is) i))
      ∙ one_more ds counts k 0 (omega arith) counted
      ∙ ap (λ n. roster_prepared ds (take n counts)) (sym (add-one k))

  -- where there is want of memory, it is as before
  pub next_refused : (new : B) → state new ≡ state b → map state (set items k new) ≡ roster_prepared ds (take k counts)
  next_refused new kept = map-set_same state items k new b (kept ∙ ap state is) ∙ same

pub on_err : {A E P : Type 0} (r : Result A E) → P → OnErr r P
on_err (Ok x) p = tt
on_err (Err e) p = p

pub quiet_of : (now ds : List DriverState) (counts : List ℕ) → now ≡ roster_prepared ds counts → NothingHeld ds → NothingHeld now
quiet_of now ds counts same none = subst (λ (xs : List DriverState). NothingHeld xs) (sym same) (quiet_after ds counts none)
