-- A child at its place among the children.
use Rattle.std.proofs.Common.{◌≡◌, ℕ, zero, suc, ◌+◌, List, [], ◌∷◌, map, Bool, true, false, slice_set, refl, sym, ap, subst, ◌∙◌, arith, ◌⊎◌, inl, inr, ⊎_elim}
use Rattle.spec_run.specs.declared.memory.Memory.{Memory, out-Memory}
use Rattle.spec_run.specs.declared.status.Answer.{Answer}
use Rattle.spec_run.specs.declared.status.Answer.TheVariants.{Skipped}
use Rattle.spec_world.specs.declared.world.Row.{Row}
use Rattle.spec_run.specs.Done.{Done, State}
use Rattle.spec_run.specs.Run.{settled}
use Rattle.spec_run.specs.Sites.{Meaning, View, child_of, children_from, memory_at, remembered}
use Rattle.spec_run.specs.Steps.{Child, child_at, nobody}
use Rattle.spec_dead.specs.declared.answers.Answers.{Answers}
use Rattle.spec_dead.specs.Answers.{only}
use Rattle.spec_dead.specs.Reached.{answers_at}
use Rattle.tree_dead.proofs.Parts.{Leaves, left_into, nothing_left}
use Rattle.tree_dead.proofs.Fits.{StandAll}
use Rattle.tree_dead.proofs.Sets.{Has}

module _ (is_dead : ℕ → Bool) (rows : List Row) where
  -- what is known of a child: a reset leaves it standing, and so does a visit, where it is reached, with an answer that
  -- it may give; a child that is reached is not dead, and it may become IDLE once it has completed
  pub record Keeps (c : Meaning) (answers : Answers) (stands : Bool → ℕ → Memory → Type 0) : Type 0 where
    pub reset : (view : View) → view.rows ≡ rows → (reached : Bool) (uid : ℕ) (m : Memory) (s : State) → stands reached uid m → Leaves is_dead (λ _ m1. stands reached uid m1) s (c.reset view uid m s)
    pub visit : (view : View) → view.rows ≡ rows → (uid : ℕ) (m : Memory) (s : State) → stands true uid m →
        Leaves is_dead (λ a m1. Has a answers × stands true uid m1) s (c.visit view uid m s)
    pub settles : (uid : ℕ) (m : Memory) → stands true uid m → stands true uid (remembered (settled (out-Memory m).status) (out-Memory m).memo (out-Memory m).children)
    pub lives : (uid : ℕ) (m : Memory) → stands true uid m → is_dead uid ≡ false

  -- children of some type, with what each means and may answer, and what is asked of it
  pub record Family : Type 1 where
    pub Child : Type 0
    pub meaning : Child → Meaning
    pub answers : Child → Answers
    pub stands : Child → Bool → ℕ → Memory → Type 0
    pub keeps : (c : Child) → Keeps (meaning c) (answers c) (stands c)

  module _ (F : Family) (visits : ℕ → Bool) where
    abbrev pub AllStand : List F.Child → ℕ → ℕ → List Memory → Type 0
    AllStand cs uid place ms = StandAll is_dead rows (λ c. (F.meaning c).size) F.stands visits cs uid place ms

    -- the child at this place, counted from another one, has this uid
    pub record Seat (view : View) (cs : List F.Child) (uid first place : ℕ) (child : Child) : Type 0 where
      pub who : F.Child
      pub at : ℕ
      pub is_child : child ≡ child_of view (F.meaning who) at (first + place)
      pub answers : answers_at (map F.answers cs) place ≡ F.answers who
      pub stands : (ms : List Memory) → AllStand cs uid first ms → F.stands who (visits (first + place)) at (memory_at ms place)
      pub back : (ms : List Memory) (m : Memory) → AllStand cs uid first ms → F.stands who (visits (first + place)) at m → AllStand cs uid first (slice_set ms place m)

    module _ (view : View) (c : F.Child) (cs : List F.Child) (uid first : ℕ) where
      first_stands : (k : ℕ) → k ≡ first → (ms : List Memory) → AllStand (c ∷ cs) uid first ms → F.stands c (visits k) uid (memory_at ms zero)
      first_stands k is [] all = absurd all
      first_stands k is (m ∷ ms) all = subst (λ (x : ℕ). F.stands c (visits x) uid m) (sym is) all.0

      first_back : (k : ℕ) → k ≡ first → (ms : List Memory) (m : Memory) → AllStand (c ∷ cs) uid first ms → F.stands c (visits k) uid m → AllStand (c ∷ cs) uid first (slice_set ms zero m)
      first_back k is [] m all here = absurd all
      first_back k is (old ∷ ms) m all here = (subst (λ (x : ℕ). F.stands c (visits x) uid m) is here, all.1)

      module _ (d : F.Child) (place at k : ℕ) where
        later_stands : ((ms : List Memory) → AllStand cs (uid + (F.meaning c).size) (first + 1) ms → F.stands d (visits k) at (memory_at ms place)) →
            (ms : List Memory) → AllStand (c ∷ cs) uid first ms → F.stands d (visits k) at (memory_at ms (suc place))
        later_stands known [] all = absurd all
        later_stands known (m ∷ ms) all = known ms all.1

        later_back : ((ms : List Memory) (m : Memory) → AllStand cs (uid + (F.meaning c).size) (first + 1) ms → F.stands d (visits k) at m → AllStand cs (uid + (F.meaning c).size) (first + 1) (slice_set ms place m)) →
            (ms : List Memory) (m : Memory) → AllStand (c ∷ cs) uid first ms → F.stands d (visits k) at m → AllStand (c ∷ cs) uid first (slice_set ms (suc place) m)
        later_back known [] m all here = absurd all
        later_back known (old ∷ ms) m all here = (all.0, known ms m all.1 here)

    -- there is a child at a place, or it is after the last one
    seats : (view : View) (cs : List F.Child) (uid first place : ℕ) →
        Seat view cs uid first place (child_at (children_from view (map F.meaning cs) uid first) place)
        ⊎ ((child_at (children_from view (map F.meaning cs) uid first) place ≡ nobody) × (answers_at (map F.answers cs) place ≡ only Skipped))
    seats view [] uid first place = inr (refl, refl)
    seats view (c ∷ cs) uid first zero =
        let at_first : first + 0 ≡ first = omega arith in
        inl (record {
          who = c;
          at = uid;
          is_child = ap (λ k. child_of view (F.meaning c) uid k) (sym at_first);
          answers = refl;
          stands = first_stands view c cs uid first (first + 0) at_first;
          back = first_back view c cs uid first (first + 0) at_first;
        })
    seats view (c ∷ cs) uid first (suc place) =
        let next : first + 1 + place ≡ first + suc place = omega arith in
        ⊎_elim
        (λ s. inl (record {
          who = s.who;
          at = s.at;
          is_child = s.is_child ∙ ap (λ k. child_of view (F.meaning s.who) s.at k) next;
          answers = s.answers;
          stands = subst (λ (k : ℕ). (ms : List Memory) → AllStand (c ∷ cs) uid first ms → F.stands s.who (visits k) s.at (memory_at ms (suc place))) next
              (later_stands view c cs uid first s.who place s.at (first + 1 + place) s.stands);
          back = subst (λ (k : ℕ). (ms : List Memory) (m : Memory) → AllStand (c ∷ cs) uid first ms → F.stands s.who (visits k) s.at m → AllStand (c ∷ cs) uid first (slice_set ms (suc place) m)) next
              (later_back view c cs uid first s.who place s.at (first + 1 + place) s.back);
        }))
        (λ none. inr none)
        (seats view cs (uid + (F.meaning c).size) (first + 1) place)

    module _ (view : View) (same : view.rows ≡ rows) (cs : List F.Child) (uid : ℕ) where
      abbrev pub children_here : List Child
      children_here = children_from view (map F.meaning cs) uid 0

      abbrev pub All : List Memory → Type 0
      All ms = AllStand cs uid 0 ms

      zero_place : (place : ℕ) → 0 + place ≡ place
      zero_place place = omega arith

      -- the child at a place is reset
      pub reset_at : (place : ℕ) (ms : List Memory) (s : State) → All ms → Leaves is_dead (λ _ ms1. All ms1) s ((child_at children_here place).reset ms s)
      reset_at place ms s all =
          let Goal : Child → Type 0 = λ child. Leaves is_dead (λ _ ms1. All ms1) s (child.reset ms s) in
          ⊎_elim
          (λ seat. subst Goal (sym (seat.is_child ∙ ap (λ k. child_of view (F.meaning seat.who) seat.at k) (zero_place place)))
          (let d : Done (Unit {0}) Memory = (F.meaning seat.who).reset view seat.at (memory_at ms place) s in
          left_into is_dead (λ _ m1. F.stands seat.who (visits (0 + place)) seat.at m1) (λ _ ms1. All ms1) s d.answer d.memory (slice_set ms place d.memory) d.state d.notes
          ((F.keeps seat.who).reset view same (visits (0 + place)) seat.at (memory_at ms place) s (seat.stands ms all))
          (λ _ stands. seat.back ms d.memory all stands)))
          (λ none. subst Goal (sym none.0) (nothing_left is_dead (λ _ ms1. All ms1) tt ms s all))
          (seats view cs uid 0 place)

      -- it is visited, where it is reached
      pub visit_at : (place : ℕ) (ms : List Memory) (s : State) → visits place ≡ true → All ms →
          Leaves is_dead (λ a ms1. Has a (answers_at (map F.answers cs) place) × All ms1) s ((child_at children_here place).visit ms s)
      visit_at place ms s comes all =
          let Goal : Child → Type 0 = λ child. Leaves is_dead (λ a ms1. Has a (answers_at (map F.answers cs) place) × All ms1) s (child.visit ms s) in
          let here : visits (0 + place) ≡ true = ap visits (zero_place place) ∙ comes in
          ⊎_elim
          (λ seat. subst Goal (sym (seat.is_child ∙ ap (λ k. child_of view (F.meaning seat.who) seat.at k) (zero_place place)))
          (let d : Done Answer Memory = (F.meaning seat.who).visit view seat.at (memory_at ms place) s in
          left_into is_dead (λ a m1. Has a (F.answers seat.who) × F.stands seat.who true seat.at m1) (λ a ms1. Has a (answers_at (map F.answers cs) place) × All ms1) s d.answer d.memory (slice_set ms place d.memory) d.state d.notes
          ((F.keeps seat.who).visit view same seat.at (memory_at ms place) s (subst (λ (b : Bool). F.stands seat.who b seat.at (memory_at ms place)) here (seat.stands ms all)))
          (λ a is. (subst (λ (x : Answers). Has a x) (sym seat.answers) is.0, seat.back ms d.memory all (subst (λ (b : Bool). F.stands seat.who b seat.at d.memory) (sym here) is.1)))))
          (λ none. subst Goal (sym none.0) (nothing_left is_dead (λ a ms1. Has a (answers_at (map F.answers cs) place) × All ms1) Skipped ms s (subst (λ (x : Answers). Has Skipped x) (sym none.1) refl, all)))
          (seats view cs uid 0 place)
