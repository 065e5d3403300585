-- The resets of the children of a node, one after another.
use Rattle.std.proofs.Common.{◌≡◌, ℕ, ◌+◌, ◌<◌, ◌≤◌, List, [], ◌∷◌, ◌++◌, map, length, take, slice_set, refl, sym, ap, subst, ◌∙◌, append_assoc, length-append, arith, Bool, true, false, if◌then◌else◌, Result, Ok, Err}
use Rattle.std.proofs.lemmas.List.{set-get_or}
use Rattle.std.proofs.lemmas.List.Sums.{sum_by-cons}
use Rattle.base_texts.specs.declared.stop.Stop.{Stop}
use Rattle.base_texts.specs.declared.stop.Stop.TheVariants as stop
use Rattle.spec_run.specs.declared.fault.NodeFault.{NodeFault}
use Rattle.spec_run.specs.declared.memory.Memory.{Memory}
use Rattle.spec_run.specs.declared.moves.Span.{Span}
use Rattle.spec_run.specs.declared.note.Note.{Note}
use Rattle.spec_tree.specs.declared.term.Term.{Term}
use Rattle.spec_run.specs.Done.{Done, State, done, follow}
use Rattle.spec_run.specs.declared.memory.Memo.TheVariants.{Nothing}
use Rattle.spec_run.specs.declared.status.Status.TheVariants.{Idle}
use Rattle.spec_run.specs.Sites.{Meaning, View, child_of, children_from, memory_at, placed, remembered, sizes}
use Rattle.spec_run.specs.Steps.{resets, spans}
use Rattle.spec_run.specs.Visit.{meaning}
use Rattle.run_arena.specs.declared.nodes.Node.{Node}
use Rattle.run_arena.specs.Scenes.{Scene, state_in}
use Rattle.run_arena.specs.Stands.{Beside, memories_of, memory_of, uid_of}
use Rattle.run_arena.specs.Ends.{IsMade, Meets}
use Rattle.run_nodes.specs.Halting.Halts.{reset_if}
use Rattle.run_arena.proofs.Follows.{done_met, followed, stopped}
use Rattle.run_nodes.proofs.AboutHalting.Memories.{IsChild, child_memory, child_placed, front_split}

-- a child that is reset, or left alone, is so among the others
within_is : (wanted : Bool) (c : Term) (view : View) (uid place : ℕ) (ms : List Memory) (s : State) →
    (if wanted then (child_of view (meaning c) uid place).reset ms s else done tt ms s) ≡ placed place ms (reset_if wanted c view uid (memory_at ms place) s)
within_is true c view uid place ms s = refl
within_is false c view uid place ms s = ap (λ (l : List Memory). done tt l s) (sym (set-get_or ms place (remembered Idle Nothing [])))

-- the child that comes next, and the others
pub record NextChild (ts rest : List Term) (first place uid : ℕ) : Type 0 where
  pub child : Term
  pub others : List Term
  pub is_next : rest ≡ child ∷ others
  pub is_child : IsChild ts first place child uid

-- the sizes of one more term
sizes_more : (front : List Term) (c : Term) → sizes (map meaning (front ++ c ∷ [])) ≡ sizes (map meaning front) + (meaning c).size
sizes_more [] c = omega (arith, sum_by-cons (λ (d : Meaning). d.size) (meaning c) [])
sizes_more (t ∷ front) c = omega (arith, sizes_more front c, sum_by-cons (λ (d : Meaning). d.size) (meaning t) (map meaning front), sum_by-cons (λ (d : Meaning). d.size) (meaning t) (map meaning (front ++ c ∷ [])))

module _ (nodes : List Node) (moment : ℕ) (which : Span) (view : View) (ts : List Term) (first : ℕ) where
  -- a reset of one child that meets its definition does so among the others
  module _ {A : Type 0} (place : ℕ) (c : Term) (uid : ℕ) (k : IsChild ts first place c uid) (s0 s1 : Scene) (n0 n1 : List Note) (beside : Beside uid (meaning c).size s0.kept s1.kept) (d : Done A Memory) where
    abbrev among : Done A (List Memory)
    among = placed place (memories_of ts first s0.kept) d

    made_among : (r : Result A NodeFault) → IsMade nodes moment (memory_of c uid) r s0 s1 n0 n1 d → IsMade nodes moment (memories_of ts first) r s0 s1 n0 n1 among
    made_among r m = record {
      answer = m.answer;
      memory = ap (slice_set (memories_of ts first s0.kept) place) m.memory ∙ child_placed k s0.kept s1.kept beside;
      state = m.state;
      notes = m.notes;
      drivers = m.drivers;
    }

    pub met_among : (r : Result A (Stop NodeFault)) → Meets nodes moment (memory_of c uid) r s0 s1 n0 n1 d → Meets nodes moment (memories_of ts first) r s0 s1 n0 n1 among
    met_among (Ok a) m = (made_among (Ok a) m.0, m.1)
    met_among (Err (stop.Fault f)) m = made_among (Err f) m
    met_among (Err stop.NoMemory) m = record { told = m.told; untold = m.untold; made = m.made; unmade = m.unmade; all_notes = m.all_notes; all_calls = m.all_calls; named = m.named; notes = m.notes; drivers = m.drivers }

  -- the resets of all children, from this scene on
  abbrev pub all_resets : Scene → Done (Unit {0}) (List Memory)
  all_resets s = resets which (children_from view (map meaning ts) first 0) 0 (memories_of ts first s.kept) (state_in nodes s moment)

  -- the resets of the children still to come, from this uid and this place on
  abbrev pub resets_left : List Term → ℕ → ℕ → Scene → Done (Unit {0}) (List Memory)
  resets_left rest place uid s = resets which (children_from view (map meaning rest) uid place) place (memories_of ts first s.kept) (state_in nodes s moment)

  -- The children before this place are reset: if the resets still to come meet their definition, the whole does.
  pub record StillResets (before : Scene) (old : List Note) (place uid : ℕ) (s : Scene) (n : List Note) : Type 0 where
    pub front : List Term
    pub rest : List Term
    pub all : ts ≡ front ++ rest
    pub place_is : length front ≡ place
    pub uid_is : uid ≡ first + sizes (map meaning front)
    pub still : (r : Result (Unit {0}) (Stop NodeFault)) (s2 : Scene) (n2 : List Note) → Meets nodes moment (memories_of ts first) r s s2 n n2 (resets_left rest place uid s) → Meets nodes moment (memories_of ts first) r before s2 old n2 (all_resets before)

  -- the uid is that at the place
  at_place : (before : Scene) (old : List Note) (place uid : ℕ) (s : Scene) (n : List Note) (k : StillResets before old place uid s n) → uid ≡ uid_of ts first place
  at_place before old place uid s n k =
      k.uid_is
      ∙ ap (λ (l : List Term). first + sizes (map meaning l)) (sym (front_split k.front k.rest place k.place_is))
      ∙ ap (λ (l : List Term). first + sizes (map meaning (take place l))) (sym k.all)

  pub still_at_place : (before : Scene) (old : List Note) (place uid : ℕ) (s : Scene) (n : List Note) → StillResets before old place uid s n → StillResets before old place (uid_of ts first place) s n
  still_at_place before old place uid s n k = subst (λ (u : ℕ). StillResets before old place u s n) (at_place before old place uid s n k) k

  pub none_reset : (s : Scene) (n : List Note) → StillResets s n 0 (uid_of ts first 0) s n
  none_reset s n = still_at_place s n 0 first s n (record { front = []; rest = ts; all = refl; place_is = refl; uid_is = omega arith; still = λ r s2 n2 m. m })

  module _ (before : Scene) (old : List Note) (place uid : ℕ) (s : Scene) (n : List Note) (k : StillResets before old place uid s n) where
    -- all are reset
    pub all_reset : length ts ≤ place → Meets nodes moment (memories_of ts first) (Ok tt) before s old n (all_resets before)
    all_reset over =
        let whole : length ts ≡ length k.front + length k.rest = ap length k.all ∙ length-append k.front k.rest in
        let none : length k.rest ≡ 0 = omega (arith, over, whole, k.place_is) in
        none_left k.rest none k.still where
          none_left : (rest : List Term) → length rest ≡ 0 → ((r : Result (Unit {0}) (Stop NodeFault)) (s2 : Scene) (n2 : List Note) → Meets nodes moment (memories_of ts first) r s s2 n n2 (resets_left rest place uid s) → Meets nodes moment (memories_of ts first) r before s2 old n2 (all_resets before)) → Meets nodes moment (memories_of ts first) (Ok tt) before s old n (all_resets before)
          none_left [] none still = still (Ok tt) s n (done_met nodes moment (memories_of ts first) tt s n)
          none_left (t ∷ rest) none still = cc

    next_of : (rest : List Term) → k.rest ≡ rest → 0 < length rest → NextChild ts k.rest first place uid
    next_of [] is some = absurd (omega (arith, some))
    next_of (c ∷ others) is some = record {
      child = c;
      others = others;
      is_next = is;
      is_child = record { front = k.front; rest = others; all = k.all ∙ ap (λ (l : List Term). k.front ++ l) is; place_is = k.place_is; uid_is = k.uid_is };
    }

    pub next_child : place < length ts → NextChild ts k.rest first place uid
    next_child more =
        let whole : length ts ≡ length k.front + length k.rest = ap length k.all ∙ length-append k.front k.rest in
        next_of k.rest refl (omega (arith, more, whole, k.place_is))

    module _ (next : NextChild ts k.rest first place uid) (s1 : Scene) (n1 : List Note) (beside : Beside uid (meaning next.child).size s.kept s1.kept) where
      abbrev reset_of_child : Done (Unit {0}) Memory
      reset_of_child = reset_if (spans which place) next.child view uid (memory_of next.child uid s.kept) (state_in nodes s moment)

      abbrev goes_on : Unit {0} → List Memory → State → Done (Unit {0}) (List Memory)
      goes_on _ ms1 s2 = resets which (children_from view (map meaning next.others) (uid + (meaning next.child).size) (place + 1)) (place + 1) ms1 s2

      -- the resets still to come are that of this child, and then those of the others
      left_is : resets_left k.rest place uid s ≡ follow (placed place (memories_of ts first s.kept) reset_of_child) (λ ms1. ms1) goes_on
      left_is =
          ap (λ (l : List Term). resets_left l place uid s) next.is_next
          ∙ ap (λ (d : Done (Unit {0}) (List Memory)). follow d (λ ms1. ms1) goes_on) (within_is (spans which place) next.child view uid place (memories_of ts first s.kept) (state_in nodes s moment))
          ∙ ap (λ (m : Memory). follow (placed place (memories_of ts first s.kept) (reset_if (spans which place) next.child view uid m (state_in nodes s moment))) (λ ms1. ms1) goes_on) (child_memory next.is_child s.kept)

      -- the reset of the child was made
      pub child_reset : Meets nodes moment (memory_of next.child uid) (Ok tt) s s1 n n1 reset_of_child → StillResets before old (place + 1) (uid + (meaning next.child).size) s1 n1
      child_reset m = record {
        front = k.front ++ next.child ∷ [];
        rest = next.others;
        all = k.all ∙ ap (λ (l : List Term). k.front ++ l) next.is_next ∙ sym (append_assoc k.front (next.child ∷ []) next.others);
        place_is = omega (arith, k.place_is, length-append k.front (next.child ∷ []));
        uid_is = omega (arith, k.uid_is, sizes_more k.front next.child);
        still = λ r s2 n2 rest. k.still r s2 n2
            (subst (λ (d : Done (Unit {0}) (List Memory)). Meets nodes moment (memories_of ts first) r s s2 n n2 d) (sym left_is)
            (followed nodes moment (memories_of ts first) (memories_of ts first) s s1 n n1 (placed place (memories_of ts first s.kept) reset_of_child) (λ ms1. ms1) goes_on tt r s2 n2
            (met_among place next.child uid next.is_child s s1 n n1 beside reset_of_child (Ok tt) m) rest));
      }

      -- the reset of the child stopped
      pub child_stopped : (e : Stop NodeFault) → Meets {A = Unit {0}} nodes moment (memory_of next.child uid) (Err e) s s1 n n1 reset_of_child → Meets {A = Unit {0}} nodes moment (memories_of ts first) (Err e) before s1 old n1 (all_resets before)
      child_stopped e m = k.still (Err e) s1 n1
          (subst (λ (d : Done (Unit {0}) (List Memory)). Meets {A = Unit {0}} nodes moment (memories_of ts first) (Err e) s s1 n n1 d) (sym left_is)
          (stopped nodes moment (memories_of ts first) (memories_of ts first) s s1 n n1 (placed place (memories_of ts first s.kept) reset_of_child) (λ ms1. ms1) goes_on e refl
          (met_among place next.child uid next.is_child s s1 n n1 beside reset_of_child (Err e) m)))
