-- A child at its place among the children: what happens to it happens to one of them.
use Rattle.std.proofs.Common.{◌≡◌, ℕ, zero, suc, ◌+◌, ◌<◌, ◌≤◌, List, [], ◌∷◌, map, length, slice_get, slice_set, Option, Some, None, refl, ap, subst, ◌∙◌, arith, ◌⊎◌, inl, inr, ⊎_elim}
use Rattle.spec_run.specs.declared.memory.Memory.{Memory}
use Rattle.spec_world.specs.declared.world.Row.{Row}
use Rattle.spec_run.specs.Done.{State}
use Rattle.spec_run.specs.Sites.{View, child_of, children_from, memory_at}
use Rattle.base_tables.specs.Sound.{Within}
use Rattle.spec_run.specs.Steps.{Child, child_at, nobody}
use Rattle.run_laws.proofs.Parts.{held_same}
use Rattle.run_laws.proofs.Children.{Family, SoundAll, all_move, size_all, size_cons}

-- the child at this place has this uid: its rules are among those of all, and what a part leaves of it is among what
-- it leaves of all
pub record Seat (F : Family) (rows : List Row) (cs : List F.Child) (uid place : ℕ) (c : F.Child) (at : ℕ) : Type 0 where
  pub low : uid ≤ at
  pub high : at + (F.meaning c).size ≤ uid + size_all F cs
  pub there : place < length cs
  pub is : slice_get cs place ≡ Some c
  pub sound : (ms : List Memory) (s : State) → SoundAll F rows cs None uid ms s → F.rules c rows None at (memory_at ms place) s
  pub back : (fault : Option ℕ) (ms : List Memory) (m : Memory) (s s1 : State) →
      SoundAll F rows cs None uid ms s → Within at (F.meaning c).size s s1 → F.rules c rows fault at m s1 → SoundAll F rows cs fault uid (slice_set ms place m) s1

module _ (F : Family) (rows : List Row) where
  abbrev All : List F.Child → Option ℕ → ℕ → List Memory → State → Type 0
  All cs fault uid ms s = SoundAll F rows cs fault uid ms s

  no_time_back : {uid size : ℕ} {s s1 : State} → Within uid size s s1 → s.moment ≤ s1.moment
  no_time_back w = omega (arith, w.moment)

  module _ (c : F.Child) (cs : List F.Child) (uid : ℕ) where
    first_sound : (ms : List Memory) (s : State) → All (c ∷ cs) None uid ms s → F.rules c rows None uid (memory_at ms zero) s
    first_sound [] s all = absurd all
    first_sound (m ∷ ms) s all = all.0

    first_back : (fault : Option ℕ) (ms : List Memory) (m : Memory) (s s1 : State) →
        All (c ∷ cs) None uid ms s → Within uid (F.meaning c).size s s1 → F.rules c rows fault uid m s1 → All (c ∷ cs) fault uid (slice_set ms zero m) s1
    first_back fault [] m s s1 all w here = absurd all
    first_back fault (old ∷ ms) m s s1 all w here = (here, all_move F rows cs fault (uid + (F.meaning c).size) ms s s1 all.1 (λ p a b. held_same s s1 p (w.above p a)) (no_time_back w))

    pub first_seat : Seat F rows (c ∷ cs) uid zero c uid
    first_seat = record { low = omega arith; high = omega (arith, size_cons F c cs); there = omega arith; is = refl; sound = first_sound; back = first_back }

    module _ (d : F.Child) (place at : ℕ) (seat : Seat F rows cs (uid + (F.meaning c).size) place d at) where
      later_sound : (ms : List Memory) (s : State) → All (c ∷ cs) None uid ms s → F.rules d rows None at (memory_at ms (suc place)) s
      later_sound [] s all = absurd all
      later_sound (m ∷ ms) s all = seat.sound ms s all.1

      later_back : (fault : Option ℕ) (ms : List Memory) (m : Memory) (s s1 : State) →
          All (c ∷ cs) None uid ms s → Within at (F.meaning d).size s s1 → F.rules d rows fault at m s1 → All (c ∷ cs) fault uid (slice_set ms (suc place) m) s1
      later_back fault [] m s s1 all w here = absurd all
      later_back fault (old ∷ ms) m s s1 all w here =
          ((F.keeps c).moves rows fault uid old s s1 all.0 (λ p a b. held_same s s1 p (w.below p (omega (arith, b, seat.low)))) (no_time_back w), seat.back fault ms m s s1 all.1 w here)

      pub later_seat : Seat F rows (c ∷ cs) uid (suc place) d at
      later_seat = record {
        low = omega (arith, seat.low);
        high = omega (arith, seat.high, size_cons F c cs);
        there = omega (arith, seat.there);
        is = seat.is;
        sound = later_sound;
        back = later_back;
      }

-- the child at a place, where there is one
pub record Sits (F : Family) (view : View) (cs : List F.Child) (uid place index : ℕ) (child : Child) : Type 0 where
  pub who : F.Child
  pub at : ℕ
  pub seat : Seat F view.rows cs uid place who at
  pub is_child : child ≡ child_of view (F.meaning who) at index

-- there is a child at a place, or the place is after the last one
pub sits : (F : Family) (view : View) (cs : List F.Child) (uid first place : ℕ) →
    Sits F view cs uid place (first + place) (child_at (children_from view (map F.meaning cs) uid first) place)
    ⊎ ((length cs ≤ place) × (child_at (children_from view (map F.meaning cs) uid first) place ≡ nobody))
sits F view [] uid first place = inr (omega arith, refl)
sits F view (c ∷ cs) uid first zero = inl (record {
  who = c;
  at = uid;
  seat = first_seat F view.rows c cs uid;
  is_child = ap (λ k. child_of view (F.meaning c) uid k) (let e : first ≡ first + 0 = omega arith in e);
})
sits F view (c ∷ cs) uid first (suc place) =
    ⊎_elim
    (λ s. inl (record {
      who = s.who;
      at = s.at;
      seat = later_seat F view.rows c cs uid s.who place s.at s.seat;
      is_child = s.is_child ∙ ap (λ k. child_of view (F.meaning s.who) s.at k) (let e : first + 1 + place ≡ first + suc place = omega arith in e);
    }))
    (λ none. inr (omega (arith, none.0), none.1))
    (sits F view cs (uid + (F.meaning c).size) (first + 1) place)

-- the child at a place, where the places count from 0
pub seated : (F : Family) (view : View) (cs : List F.Child) (uid place : ℕ) →
    Sits F view cs uid place place (child_at (children_from view (map F.meaning cs) uid 0) place)
    ⊎ ((length cs ≤ place) × (child_at (children_from view (map F.meaning cs) uid 0) place ≡ nobody))
seated F view cs uid place =
    let child : Child = child_at (children_from view (map F.meaning cs) uid 0) place in
    subst (λ (index : ℕ). Sits F view cs uid place index child ⊎ ((length cs ≤ place) × (child ≡ nobody))) (let e : 0 + place ≡ place = omega arith in e) (sits F view cs uid 0 place)

-- a node sees as many children as it has
pub number_of_children : (F : Family) (view : View) (cs : List F.Child) (uid first : ℕ) → length (children_from view (map F.meaning cs) uid first) ≡ length cs
number_of_children F view [] uid first = refl
number_of_children F view (c ∷ cs) uid first = ap suc (number_of_children F view cs (uid + (F.meaning c).size) (first + 1))
