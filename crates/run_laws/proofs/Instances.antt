-- One instance is set, and the others stay.
use Rattle.std.proofs.Common.{◌≡◌, ◌≢◌, ℕ, zero, suc, ◌≤◌, List, [], ◌∷◌, Bool, Option, Some, None, refl, sym, ap, ◌∙◌, arith, option_map, is_some, length, slice_get, slice_index_or, slice_set}
use Rattle.std.proofs.lemmas.List.{length-set}
use Rattle.spec_run.specs.declared.leaf.Instance.{Instance}
use Rattle.spec_world.specs.declared.world.Telling.{Telling}
use Rattle.spec_run.specs.Done.{State}
use Rattle.spec_run.specs.Leaf.{fresh, told}
use Rattle.spec_run.specs.Leaves.{instance_at}
use Rattle.base_tables.specs.Sound.{Dated, Within, held_at}

abbrev pub held_in : List Instance → ℕ → Option Bool
held_in instances uid = option_map (λ (i : Instance). is_some i.since) (slice_get instances uid)

abbrev pub since_in : List Instance → ℕ → Option (Option ℕ)
since_in instances uid = option_map (λ (i : Instance). i.since) (slice_get instances uid)

same_place : (xs : List Instance) (uid : ℕ) (w : Instance) (b : Bool) → held_in xs uid ≡ Some b → held_in (slice_set xs uid w) uid ≡ Some (is_some w.since)
same_place [] uid w b e = cc
same_place (x ∷ xs) zero w b e = refl
same_place (x ∷ xs) (suc uid) w b e = same_place xs uid w b e

other_place : (xs : List Instance) (uid p : ℕ) (w : Instance) → p ≢ uid → slice_get (slice_set xs uid w) p ≡ slice_get xs p
other_place [] uid p w other = refl
other_place (x ∷ xs) zero zero w other = absurd (other refl)
other_place (x ∷ xs) zero (suc p) w other = refl
other_place (x ∷ xs) (suc uid) zero w other = refl
other_place (x ∷ xs) (suc uid) (suc p) w other = other_place xs uid p w (λ e. other (ap suc e))

dated_set : (xs : List Instance) (uid p : ℕ) (w : Instance) (moment since : ℕ) → ((t : ℕ) → w.since ≡ Some t → t ≤ moment) → ((t : ℕ) → since_in xs p ≡ Some (Some t) → t ≤ moment) →
    since_in (slice_set xs uid w) p ≡ Some (Some since) → since ≤ moment
dated_set [] uid p w moment since here old e = old since e
dated_set (x ∷ xs) zero zero w moment since here old e = here since cc
dated_set (x ∷ xs) zero (suc p) w moment since here old e = old since e
dated_set (x ∷ xs) (suc uid) zero w moment since here old e = old since e
dated_set (x ∷ xs) (suc uid) (suc p) w moment since here old e = dated_set xs uid p w moment since here old e

since_of : (xs : List Instance) (uid t : ℕ) → (slice_index_or xs uid fresh).since ≡ Some t → since_in xs uid ≡ Some (Some t)
since_of [] uid t e = cc
since_of (x ∷ xs) zero t e = ap Some e
since_of (x ∷ xs) (suc uid) t e = since_of xs uid t e

-- instances that are held since the same times are held where they were
pub held_by_since : (xs ys : List Instance) (p : ℕ) → since_in xs p ≡ since_in ys p → held_in xs p ≡ held_in ys p
held_by_since xs ys p same = held_of (slice_get xs p) ∙ ap (λ (o : Option (Option ℕ)). option_map (λ (since : Option ℕ). is_some since) o) same ∙ sym (held_of (slice_get ys p))
  where
    held_of : (o : Option Instance) → option_map (λ (i : Instance). is_some i.since) o ≡ option_map (λ (since : Option ℕ). is_some since) (option_map (λ (i : Instance). i.since) o)
    held_of None = refl
    held_of (Some i) = refl

-- where a leaf is told something, all instances are held since the times since which they were
pub told_since : (xs : List Instance) (uid p : ℕ) (t : Telling) → since_in (slice_set xs uid (told t (slice_index_or xs uid fresh))) p ≡ since_in xs p
told_since [] uid p t = refl
told_since (x ∷ xs) zero zero t = refl
told_since (x ∷ xs) zero (suc p) t = refl
told_since (x ∷ xs) (suc uid) zero t = refl
told_since (x ∷ xs) (suc uid) (suc p) t = told_since xs uid p t

-- the instance of a node is held since a time that is not later than now
pub instance_dated : (s : State) (uid t : ℕ) → Dated s → (instance_at s uid).since ≡ Some t → t ≤ s.moment
instance_dated s uid t dated e = dated uid t (since_of s.instances uid t e)

module _ (s s1 : State) (uid : ℕ) (w : Instance) (is_set : s1.instances ≡ slice_set s.instances uid w) where
  -- the instance of a node is set
  pub set_here : (b : Bool) → held_at s uid ≡ Some b → held_at s1 uid ≡ Some (is_some w.since)
  set_here b e = ap (λ (xs : List Instance). held_in xs uid) is_set ∙ same_place s.instances uid w b e

  set_elsewhere : (p : ℕ) → p ≢ uid → slice_get s1.instances p ≡ slice_get s.instances p
  set_elsewhere p other = ap (λ (xs : List Instance). slice_get xs p) is_set ∙ other_place s.instances uid p w other

  -- only this node's instance changes; if it is held since a time not later than now, all still are
  pub set_within :
      length s1.board ≡ length s.board → length s1.facts ≡ length s.facts → s1.moment ≡ s.moment →
      (Dated s → (t : ℕ) → w.since ≡ Some t → t ≤ s.moment) → Within uid 1 s s1
  set_within slots facts moment here = record {
    below = λ p e. set_elsewhere p (λ same. absurd (omega (arith, same, e)));
    above = λ p e. set_elsewhere p (λ same. absurd (omega (arith, same, e)));
    slots = slots;
    facts = facts;
    instances = ap length is_set ∙ length-set s.instances uid w;
    moment = moment;
    dated = λ dated p since e. rw moment (dated_set s.instances uid p w s.moment since (here dated) (dated p) (ap (λ (xs : List Instance). since_in xs p) (sym is_set) ∙ e));
  }
