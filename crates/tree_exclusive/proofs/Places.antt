-- Which child of a node has a leaf, and how two leaves below a node may meet.
use Rattle.std.proofs.Common.{◌≡◌, ◌⊎◌, ⊎_elim, inl, inr, ℕ, zero, suc, ◌+◌, ◌<◌, ◌≤◌, List, [], ◌∷◌, map, nat_lt, Bool, true, false, None, refl, ap, subst, ◌∙◌, arith}
use Rattle.std.proofs.lemmas.Bool.{cases_lt, cond-true, cond-false, le-ltb, lt-ltb}
use Rattle.base_tables.specs.Shapes.{is_running, status_at}
use Rattle.base_tables.specs.Sound.{Sound, statuses}
use Rattle.run_laws.proofs.Children.{Family, SoundAll, size_all, size_cons, status_in}
use Rattle.run_laws.proofs.Keeping.{family, term_keeps}
use Rattle.run_laws.proofs.Quiet.{rests_hold_nothing}
use Rattle.spec_exclusive.specs.declared.meeting.Meeting.{Meeting}
use Rattle.spec_exclusive.specs.Meetings.{meeting_at, meeting_below, meetings}
use Rattle.spec_run.specs.declared.memory.Memory.{Memory}
use Rattle.spec_run.specs.Done.{State}
use Rattle.spec_run.specs.Sites.{View, child_of, children_from, memory_at}
use Rattle.spec_run.specs.Steps.{Child, child_at, nobody}
use Rattle.spec_run.specs.Visit.{meaning}
use Rattle.spec_tree.specs.declared.term.Kind.{Kind}
use Rattle.spec_tree.specs.declared.term.Term.{Term}
use Rattle.spec_world.specs.declared.world.Row.{Row}
use Rattle.tree_exclusive.proofs.Held.{held_among, there}

-- what is known of a term has as many nodes as it means
abbrev pub SameSize : Term → Type 0
SameSize t = (meetings t).size ≡ (meaning t).size

module _ {X : Type 0} (term : X → Term) (same_size : (c : X) → SameSize (term c)) where
  -- the children, which keep their rules
  abbrev pub kept : Family
  kept = family term (λ c. term_keeps (term c))

  abbrev pub size_of : X → ℕ
  size_of c = (meaning (term c)).size

  abbrev pub sizes_of : List X → ℕ
  sizes_of cs = size_all kept cs

  -- how two leaves may meet below children of a node of this kind, of which the first has this place and this uid
  abbrev pub below : Kind → ℕ → ℕ → List X → ℕ → ℕ → Meeting
  below kind place uid cs p q = meeting_below kind place uid (map (λ c. meetings (term c)) cs) p q

  -- the child at a place, of children of which the first has this uid, has this node
  abbrev pub Has : List X → ℕ → ℕ → ℕ → Type 0
  Has [] uid k p = ⊥
  Has (c ∷ cs) uid zero p = (uid ≤ p) × (p < uid + size_of c)
  Has (c ∷ cs) uid (suc k) p = Has cs (uid + size_of c) k p

  pub has_from : (cs : List X) (uid k p : ℕ) → Has cs uid k p → uid ≤ p
  has_from [] uid k p has = absurd has
  has_from (c ∷ cs) uid zero p has = has.0
  has_from (c ∷ cs) uid (suc k) p has = let later : uid + size_of c ≤ p = has_from cs (uid + size_of c) k p has in omega (arith, later)

  -- each node below is that of some child
  pub had_by_some : (cs : List X) (uid p : ℕ) → uid ≤ p → p < uid + sizes_of cs → (k : ℕ) × Has cs uid k p
  had_by_some [] uid p low high = absurd (omega (arith, low, high))
  had_by_some (c ∷ cs) uid p low high = ⊎_elim
      (λ here. (zero, (low, here)))
      (λ past. let rest : (k : ℕ) × Has cs (uid + size_of c) k p = had_by_some cs (uid + size_of c) p past (omega (arith, high, size_cons kept c cs)) in (suc rest.0, rest.1))
      (cases_lt p (uid + size_of c))

  -- an earlier node is that of an earlier child, or of the same
  pub in_order : (cs : List X) (uid j k p q : ℕ) → Has cs uid j p → Has cs uid k q → p < q → j ≤ k
  in_order [] uid j k p q one other less = absurd one
  in_order (c ∷ cs) uid zero k p q one other less = omega arith
  in_order (c ∷ cs) uid (suc j) zero p q one other less = let from : uid + size_of c ≤ p = has_from cs (uid + size_of c) j p one in absurd (omega (arith, from, other.1, less))
  in_order (c ∷ cs) uid (suc j) (suc k) p q one other less = let rest : j ≤ k = in_order cs (uid + size_of c) j k p q one other less in omega (arith, rest)

  -- how leaves of two children may meet
  pub meets_apart : (kind : Kind) (cs : List X) (place uid j k p q : ℕ) → j < k → Has cs uid j p → Has cs uid k q → below kind place uid cs p q ≡ meeting_at kind (place + j)
  meets_apart kind [] place uid j k p q less one other = absurd one
  meets_apart kind (c ∷ cs) place uid j zero p q less one other = absurd (omega (arith, less))
  meets_apart kind (c ∷ cs) place uid zero (suc k) p q less one other =
      let from : uid + size_of c ≤ q = has_from cs (uid + size_of c) k q other in
      let size : uid + (meetings (term c)).size ≡ uid + size_of c = ap (λ n. uid + n) (same_size c) in
      cond-false (nat_lt q (uid + (meetings (term c)).size)) _ _ (le-ltb q (uid + (meetings (term c)).size) (omega (arith, from, size)))
      ∙ cond-true (nat_lt p (uid + (meetings (term c)).size)) _ _ (lt-ltb p (uid + (meetings (term c)).size) (omega (arith, one.1, size)))
      ∙ ap (meeting_at kind) (let e : place ≡ place + 0 = omega arith in e)
  meets_apart kind (c ∷ cs) place uid (suc j) (suc k) p q less one other =
      let from : uid + size_of c ≤ q = has_from cs (uid + size_of c) k q other in
      let before : uid + size_of c ≤ p = has_from cs (uid + size_of c) j p one in
      let size : uid + (meetings (term c)).size ≡ uid + size_of c = ap (λ n. uid + n) (same_size c) in
      cond-false (nat_lt q (uid + (meetings (term c)).size)) _ _ (le-ltb q (uid + (meetings (term c)).size) (omega (arith, from, size)))
      ∙ cond-false (nat_lt p (uid + (meetings (term c)).size)) _ _ (le-ltb p (uid + (meetings (term c)).size) (omega (arith, before, size)))
      ∙ ap (λ (at : ℕ). below kind (place + 1) at cs p q) size
      ∙ meets_apart kind cs (place + 1) (uid + size_of c) j k p q (omega (arith, less)) one other
      ∙ ap (meeting_at kind) (let e : place + 1 + j ≡ place + suc j = omega arith in e)

  -- a child whose leaf is held is RUNNING
  both_tests : {b : Bool} → b ≡ true → b ≡ false → ⊥
  both_tests one other = cc

  runs_by : (b : Bool) → (b ≡ false → ⊥) → b ≡ true
  runs_by true never = refl
  runs_by false never = absurd (never refl)

  pub held_runs : (rows : List Row) (cs : List X) (uid k p : ℕ) (ms : List Memory) (s : State) → SoundAll kept rows cs None uid ms s → Has cs uid k p → held_among s.instances p ≡ true → is_running (status_at (statuses ms) k) ≡ true
  held_runs rows [] uid k p ms s all has held = absurd has
  held_runs rows (c ∷ cs) uid k p [] s all has held = absurd all
  held_runs rows (c ∷ cs) uid zero p (m ∷ ms) s all has held =
      runs_by (is_running (status_in m)) (λ rests. both_tests held (ap there (rests_hold_nothing (term c) rows uid m s all.0 rests p has.0 has.1)))
  held_runs rows (c ∷ cs) uid (suc k) p (m ∷ ms) s all has held = held_runs rows cs (uid + size_of c) k p ms s all.1 has held

  -- ---- The child at a place

  -- the child at a place stands at this uid
  pub record Stands (view : View) (cs : List X) (uid place index : ℕ) (child : Child) : Type 0 where
    pub who : X
    pub at : ℕ
    pub is_child : child ≡ child_of view (meaning (term who)) at index
    pub high : at + size_of who ≤ uid + sizes_of cs
    pub low : uid ≤ at
    pub sound : (rows : List Row) (ms : List Memory) (s : State) → SoundAll kept rows cs None uid ms s → Sound (term who) rows None at (memory_at ms place) s
    pub has : (p : ℕ) → at ≤ p → p < at + size_of who → Has cs uid place p
    pub only : (p : ℕ) → Has cs uid place p → (at ≤ p) × (p < at + size_of who)
    pub same : (kind : Kind) (first p q : ℕ) → at ≤ p → p < q → q < at + size_of who → below kind first uid cs p q ≡ (meetings (term who)).meeting at p q

  stands_first : (view : View) (c : X) (cs : List X) (uid index : ℕ) → Stands view (c ∷ cs) uid zero index (child_of view (meaning (term c)) uid index)
  stands_first view c cs uid index = record {
    who = c;
    at = uid;
    is_child = refl;
    high = omega (arith, size_cons kept c cs);
    low = omega arith;
    sound = first_sound;
    has = λ p low high. (low, high);
    only = λ p has. has;
    same = λ kind first p q low less high.
        let size : uid + (meetings (term c)).size ≡ uid + size_of c = ap (λ n. uid + n) (same_size c) in
        cond-true (nat_lt q (uid + (meetings (term c)).size)) _ _ (lt-ltb q (uid + (meetings (term c)).size) (omega (arith, high, size)));
  } where
    first_sound : (rows : List Row) (ms : List Memory) (s : State) → SoundAll kept rows (c ∷ cs) None uid ms s → Sound (term c) rows None uid (memory_at ms zero) s
    first_sound rows [] s all = absurd all
    first_sound rows (m ∷ ms) s all = all.0

  stands_later : (view : View) (c : X) (cs : List X) (uid place index : ℕ) (child : Child) → Stands view cs (uid + size_of c) place index child → Stands view (c ∷ cs) uid (suc place) index child
  stands_later view c cs uid place index child one = record {
    who = one.who;
    at = one.at;
    is_child = one.is_child;
    high = omega (arith, one.high, size_cons kept c cs);
    low = omega (arith, one.low);
    sound = later_sound;
    has = one.has;
    only = one.only;
    same = λ kind first p q low less high.
        let size : uid + (meetings (term c)).size ≡ uid + size_of c = ap (λ n. uid + n) (same_size c) in
        cond-false (nat_lt q (uid + (meetings (term c)).size)) _ _ (le-ltb q (uid + (meetings (term c)).size) (omega (arith, low, less, one.low, size)))
        ∙ cond-false (nat_lt p (uid + (meetings (term c)).size)) _ _ (le-ltb p (uid + (meetings (term c)).size) (omega (arith, low, one.low, size)))
        ∙ ap (λ (at : ℕ). below kind (first + 1) at cs p q) size
        ∙ one.same kind (first + 1) p q low less high;
  } where
    later_sound : (rows : List Row) (ms : List Memory) (s : State) → SoundAll kept rows (c ∷ cs) None uid ms s → Sound (term one.who) rows None one.at (memory_at ms (suc place)) s
    later_sound rows [] s all = absurd all
    later_sound rows (m ∷ ms) s all = one.sound rows ms s all.1

  -- there is a child at a place, or none
  stands_from : (view : View) (cs : List X) (uid first place : ℕ) →
      Stands view cs uid place (first + place) (child_at (children_from view (map kept.meaning cs) uid first) place)
      ⊎ (child_at (children_from view (map kept.meaning cs) uid first) place ≡ nobody)
  stands_from view [] uid first place = inr refl
  stands_from view (c ∷ cs) uid first zero =
      inl (subst (λ (index : ℕ). Stands view (c ∷ cs) uid zero index (child_of view (meaning (term c)) uid first)) (let e : first ≡ first + 0 = omega arith in e) (stands_first view c cs uid first))
  stands_from view (c ∷ cs) uid first (suc place) = ⊎_elim
      (λ one. inl (stands_later view c cs uid place (first + suc place) _
      (subst (λ (index : ℕ). Stands view cs (uid + size_of c) place index (child_at (children_from view (map kept.meaning cs) (uid + size_of c) (first + 1)) place)) (let e : first + 1 + place ≡ first + suc place = omega arith in e) one)))
      (λ none. inr none)
      (stands_from view cs (uid + size_of c) (first + 1) place)

  pub stands : (view : View) (cs : List X) (uid place : ℕ) →
      Stands view cs uid place place (child_at (children_from view (map kept.meaning cs) uid 0) place)
      ⊎ (child_at (children_from view (map kept.meaning cs) uid 0) place ≡ nobody)
  stands view cs uid place =
      let child : Child = child_at (children_from view (map kept.meaning cs) uid 0) place in
      subst (λ (index : ℕ). Stands view cs uid place index child ⊎ (child ≡ nobody)) (let e : 0 + place ≡ place = omega arith in e) (stands_from view cs uid 0 place)
