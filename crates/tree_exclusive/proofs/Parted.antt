-- Parts of an event in which some pairs of leaves are never both held.
use Rattle.std.proofs.Common.{◌≡◌, ◌⊎◌, ⊎_elim, inl, inr, ℕ, ◌+◌, ◌<◌, ◌≤◌, List, [], ◌∷◌, ◌++◌, Option, None, Result, Ok, Err, Bool, true, refl, sym, ap, subst, ◌∙◌, arith}
use Rattle.std.proofs.lemmas.Bool.{cases_lt}
use Rattle.base_tables.specs.Sound.{Left, Within}
use Rattle.run_laws.proofs.ReadNotes.{read_both}
use Rattle.spec_run.specs.declared.fault.NodeFault.{NodeFault}
use Rattle.spec_run.specs.declared.leaf.Instance.{Instance}
use Rattle.spec_run.specs.declared.note.Note.{Note}
use Rattle.spec_run.specs.Done.{Done, State, carried, follow}
use Rattle.tree_exclusive.proofs.Apart.{Apart, Frees, Stays, after, after_note, apart_both, apart_last, frees_apart, stays_both, stays_frees}
use Rattle.tree_exclusive.proofs.Held.{held_among}

-- pairs of leaves, by their uids
abbrev pub Pairs : Type 1
Pairs = ℕ → ℕ → Type 0

-- a node is none of these
abbrev pub Beyond : ℕ → ℕ → ℕ → Type 0
Beyond uid size p = (p < uid) ⊎ (uid + size ≤ p)

-- a node is one of these, or none
pub inside_or : (uid size p : ℕ) → ((uid ≤ p) × (p < uid + size)) ⊎ Beyond uid size p
inside_or uid size p = ⊎_elim
    (λ low. inr (inl low))
    (λ from. ⊎_elim (λ below. inl (from, below)) (λ past. inr (inr past)) (cases_lt p (uid + size)))
    (cases_lt p uid)

-- no two leaves of these pairs are both held
abbrev pub Free : Pairs → State → Type 0
Free pairs s = (p q : ℕ) → pairs p q → held_among s.instances p ≡ true → held_among s.instances q ≡ true → ⊥

module _ (runner : ℕ) where
  pub after_stays : (p : ℕ) (ns : List Note) (known : Bool) → Stays runner p ns → after runner p ns known ≡ known
  after_stays p [] known stays = refl
  after_stays p (n ∷ ns) known stays = after_stays p ns (after_note runner p n known) stays.1 ∙ stays.0 known

  -- the notes of a part say whether this leaf is held after it
  abbrev pub Reads : State → List Note → State → ℕ → Type 0
  Reads s notes s1 p = after runner p notes (held_among s.instances p) ≡ held_among s1.instances p

  -- what a part of an event leaves of some nodes: other leaves are as they were, its notes say which leaves are held after
  -- it, and two leaves of these pairs were never both held
  pub record Parted (pairs : Pairs) (uid size : ℕ) (s : State) (notes : List Note) (s1 : State) : Type 0 where
    pub stays : (p : ℕ) → Beyond uid size p → Stays runner p notes
    pub reads : (p q : ℕ) → pairs p q → Reads s notes s1 p × Reads s notes s1 q
    pub apart : (p q : ℕ) → pairs p q → Apart runner p q notes (held_among s.instances p) (held_among s.instances q)

  module _ {pairs : Pairs} {uid size : ℕ} where
    pub parted_free : {s s1 : State} {notes : List Note} → Parted pairs uid size s notes s1 → Free pairs s1
    parted_free {notes = notes} parted = λ p q pair a b. apart_last runner p q notes _ _ (parted.apart p q pair) ((parted.reads p q pair).0 ∙ a) ((parted.reads p q pair).1 ∙ b)

    pub nothing_parted : (s s1 : State) → s1.instances ≡ s.instances → Free pairs s → Parted pairs uid size s [] s1
    nothing_parted s s1 same free = record { stays = λ p out. tt; reads = λ p q pair. (ap (λ (is : List Instance). held_among is p) (sym same), ap (λ (is : List Instance). held_among is q) (sym same)); apart = free }

    pub silent_parted : (s s1 : State) (notes : List Note) → notes ≡ [] → s1.instances ≡ s.instances → Free pairs s → Parted pairs uid size s notes s1
    silent_parted s s1 notes silent same free = subst (λ (ns : List Note). Parted pairs uid size s ns s1) (sym silent) (nothing_parted s s1 same free)

    -- notes of no call
    pub told_parted : (s : State) (notes : List Note) → ((p : ℕ) → Stays runner p notes) → Free pairs s → Parted pairs uid size s notes s
    told_parted s notes stays free = record {
      stays = λ p out. stays p;
      reads = λ p q pair. (after_stays p notes (held_among s.instances p) (stays p), after_stays q notes (held_among s.instances q) (stays q));
      apart = λ p q pair. frees_apart runner p q notes _ _ (stays_frees runner p notes (stays p)) (stays_frees runner q notes (stays q)) (free p q pair);
    }

    -- notes that only free leaves
    pub freed_parted : (s s1 : State) (notes : List Note) → ((p : ℕ) → Beyond uid size p → Stays runner p notes) → ((p : ℕ) → Frees runner p notes) →
        ((p : ℕ) → Reads s notes s1 p) → Free pairs s → Parted pairs uid size s notes s1
    freed_parted s s1 notes stays frees reads free = record {
      stays = stays;
      reads = λ p q pair. (reads p, reads q);
      apart = λ p q pair. frees_apart runner p q notes _ _ (frees p) (frees q) (free p q pair);
    }

    -- one part and the next one
    pub parted_both : {s s1 s2 : State} {xs ys : List Note} → Parted pairs uid size s xs s1 → Parted pairs uid size s1 ys s2 → Parted pairs uid size s (xs ++ ys) s2
    parted_both {s} {s1} {s2} {xs} {ys} one other = record {
      stays = λ p out. stays_both runner p xs ys (one.stays p out) (other.stays p out);
      reads = λ p q pair. (reads_both p (one.reads p q pair).0 (other.reads p q pair).0, reads_both q (one.reads p q pair).1 (other.reads p q pair).1);
      apart = λ p q pair. apart_both runner p q xs ys (held_among s.instances p) (held_among s.instances q) (one.apart p q pair)
          (subst (λ (b : Bool). Apart runner p q ys b (after runner q xs (held_among s.instances q))) (sym (one.reads p q pair).0)
          (subst (λ (b : Bool). Apart runner p q ys (held_among s1.instances p) b) (sym (one.reads p q pair).1) (other.apart p q pair)));
    } where
      reads_both : (p : ℕ) → Reads s xs s1 p → Reads s1 ys s2 p → Reads s (xs ++ ys) s2 p
      reads_both p first second = read_both (after_note runner p) xs ys (held_among s.instances p) ∙ ap (λ b. after runner p ys b) first ∙ second

  module _ (pairs : Pairs) (uid size : ℕ) where
    -- .. by all that it leaves
    abbrev pub Parts : {A M : Type 0} → State → Done A M → Type 0
    Parts s d = Parted pairs uid size s d.notes d.state

    module _ {A M B N : Type 0} where
      carried_each : (r : Result A NodeFault) (d : Done A M) (place : M → N) (go : A → M → State → Done B N) (s : State) → Parts s d → ((a : A) → Parts d.state (go a d.memory d.state)) → Parts s (carried r d place go)
      carried_each (Ok a) d place go s parts goes = parted_both parts (goes a)
      carried_each (Err f) d place go s parts goes = parts

      -- a part, and what is done with each answer
      pub follow_each : (d : Done A M) (place : M → N) (go : A → M → State → Done B N) (s : State) → Parts s d → ((a : A) → Parts d.state (go a d.memory d.state)) → Parts s (follow d place go)
      follow_each d = carried_each d.answer d

      module _ {rules : Option ℕ → M → State → Type 0} {fits : A → M → State → Type 0} {uid1 size1 : ℕ} where
        carried_parts :
            (r : Result A NodeFault) (d : Done A M) (place : M → N) (go : A → M → State → Done B N) (s : State) →
            Left rules fits uid1 size1 s r d.memory d.state → Parts s d →
            ((a : A) → fits a d.memory d.state → rules None d.memory d.state → Within uid1 size1 s d.state → Parts d.state (go a d.memory d.state)) → Parts s (carried r d place go)
        carried_parts (Ok a) d place go s left parts goes = parted_both parts (goes a left.ends left.sound left.within)
        carried_parts (Err f) d place go s left parts goes = parts

        -- a part that keeps the rules of states, and what is done with its answer
        pub follow_parts :
            (d : Done A M) (place : M → N) (go : A → M → State → Done B N) (s : State) →
            Left rules fits uid1 size1 s d.answer d.memory d.state → Parts s d →
            ((a : A) → fits a d.memory d.state → rules None d.memory d.state → Within uid1 size1 s d.state → Parts d.state (go a d.memory d.state)) → Parts s (follow d place go)
        follow_parts d = carried_parts d.answer d

-- what a part leaves of some nodes, among more nodes and of pairs that are among these
pub more_parted : (runner : ℕ) (pairs some : Pairs) (uid size uid1 size1 : ℕ) (s s1 : State) (notes : List Note) → uid ≤ uid1 → uid1 + size1 ≤ uid + size → ((p q : ℕ) → some p q → pairs p q) →
    Parted runner pairs uid1 size1 s notes s1 → Parted runner some uid size s notes s1
more_parted runner pairs some uid size uid1 size1 s s1 notes low high goes parted = record {
  stays = λ p out. parted.stays p (⊎_elim (λ below. inl (omega (arith, below, low))) (λ past. inr (omega (arith, past, high))) out);
  reads = λ p q pair. parted.reads p q (goes p q pair);
  apart = λ p q pair. parted.apart p q (goes p q pair);
}
