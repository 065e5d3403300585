-- What the words of rules do to leaves that are never both held.
use Rattle.std.proofs.Common.{◌≡◌, ⊎_elim, inl, inr, ℕ, ◌+◌, ◌<◌, ◌≤◌, List, [], ◌∷◌, map, length, cond, Bool, true, false, None, refl, sym, ap, subst, ◌∙◌, arith}
use Rattle.std.specs.List.{AllByRecursion}
use Rattle.std.proofs.lemmas.Bool.{cases_lt, cond_both, eq-eqb}
use Rattle.base_tables.specs.Shapes.{is_running, status_at}
use Rattle.base_tables.specs.Sound.{Sound, Within, statuses}
use Rattle.run_laws.proofs.Acts.{All, Changed, children_here, visit_at}
use Rattle.run_laws.proofs.Claims.{ChildMeets, Meets, TermMeets, children_meet, resets_meet}
use Rattle.run_laws.proofs.ReadNotes.{noted, term_reads}
use Rattle.run_laws.proofs.Resting.{Rested, span_leaves}
use Rattle.spec_exclusive.specs.declared.meeting.Meeting.TheVariants.{Never}
use Rattle.spec_exclusive.specs.Meetings.{Meetings, meeting_at, meetings}
use Rattle.spec_run.specs.declared.leaf.Instance.{Instance}
use Rattle.spec_run.specs.declared.memory.Memo.{Memo}
use Rattle.spec_run.specs.declared.memory.Memory.{Memory}
use Rattle.spec_run.specs.declared.moves.Span.{Span}
use Rattle.spec_run.specs.declared.status.Answer.{Answer}
use Rattle.spec_run.specs.declared.status.Status.{Status}
use Rattle.spec_run.specs.Done.{Done, State}
use Rattle.spec_run.specs.Sites.{Meaning, View, memory_at}
use Rattle.spec_run.specs.Steps.{Child, Given, Rule, child_at, is_completed, keep, reset, resets, visit, visit_or_pass}
use Rattle.spec_run.specs.Visit.{meaning, status_of}
use Rattle.spec_tree.specs.declared.term.Kind.{Kind}
use Rattle.spec_tree.specs.declared.term.Term.{Term}
use Rattle.tree_exclusive.proofs.Apart.{Apart, after, first_free_apart, frees_apart, second_free_apart, stays_frees}
use Rattle.tree_exclusive.proofs.Freeing.{children_free, span_freed}
use Rattle.tree_exclusive.proofs.Held.{follows_leaf, held_among, seen}
use Rattle.tree_exclusive.proofs.Parted.{Beyond, Free, Pairs, Parted, Parts, Reads, follow_parts, freed_parted, inside_or, nothing_parted, parted_free}
use Rattle.tree_exclusive.proofs.Places.{Has, SameSize, Stands, below, had_by_some, held_runs, in_order, kept, meets_apart, size_of, sizes_of, stands}

-- two leaves of a term are never held together, by what is known of the term
abbrev pub NeverIn : Meetings → ℕ → ℕ → Pairs
NeverIn m size uid p q = (uid ≤ p) × (p < q) × (q < uid + size) × (m.meeting uid p q ≡ Never)

-- the number of instances stays
abbrev pub Room : ℕ → State → Type 0
Room far s = far ≤ length s.instances

-- in a visit from a state that keeps the rules, the leaves of a term that are never held together stay apart
pub record TermParts (runner : ℕ) (m : Meetings) (c : Meaning) (rules : (view : View) → ℕ → Memory → State → Type 0) : Type 0 where
  pub size : m.size ≡ c.size
  pub visit : (view : View) (uid : ℕ) (mem : Memory) (s : State) → rules view uid mem s → Room (uid + c.size) s → Free (NeverIn m c.size uid) s →
      Parted runner (NeverIn m c.size uid) uid c.size s (c.visit view uid mem s).notes (c.visit view uid mem s).state

-- .. of terms
abbrev pub PartsOf : ℕ → Term → Type 0
PartsOf runner t = TermParts runner (meetings t) (meaning t) (λ view uid m s. Sound t view.rows None uid m s)

-- what is seen of a leaf of the runner itself
seen_self : (runner p : ℕ) (other : Bool) (is : List Instance) → seen runner p runner other is ≡ held_among is p
seen_self runner p other is = ap (λ b. cond b (held_among is p) other) (eq-eqb runner runner refl)

-- the notes of a part say whether a leaf is held after it, where they do with what is seen of the leaf
pub reads_as : {A M : Type 0} (runner p count : ℕ) (s : State) (d : Done A M) → Meets (noted (follows_leaf runner p runner count false)) s d → after runner p d.notes (held_among s.instances p) ≡ held_among d.state.instances p
reads_as runner p count s d meets =
    ap (λ b. after runner p d.notes b) (sym (seen_self runner p false s.instances)) ∙ meets.notes ∙ seen_self runner p false d.state.instances

module _ (runner : ℕ) {X : Type 0} (term : X → Term) (parts : (c : X) → PartsOf runner (term c)) (view : View) (cs : List X) (uid : ℕ) (kind : Kind) where
  abbrev same : (c : X) → SameSize (term c)
  same c = (parts c).size

  -- two leaves below children are never held together
  abbrev pub NeverBelow : Pairs
  NeverBelow p q = (uid ≤ p) × (p < q) × (q < uid + sizes_of term same cs) × (below term same kind 0 uid cs p q ≡ Never)

  abbrev here : List Child
  here = children_here (kept term same) view cs uid

  abbrev Holds : List Memory → State → Type 0
  Holds ms s = All (kept term same) view cs uid None ms s

  -- there is an instance for each node
  abbrev pub HasRoom : State → Type 0
  HasRoom s = Room (uid + sizes_of term same cs) s

  room_after : {at size : ℕ} {s s1 : State} → Within at size s s1 → HasRoom s → HasRoom s1
  room_after w room = omega (arith, w.instances, room)

  -- ---- Reading

  all_meet : (p : ℕ) (s : State) (ds : List X) → AllByRecursion (TermMeets (noted (follows_leaf runner p runner (length s.instances) false))) (map (λ c. meaning (term c)) ds)
  all_meet p s [] = tt
  all_meet p s (d ∷ ds) = (term_reads (follows_leaf runner p runner (length s.instances) false) (term d), all_meet p s ds)

  child_reads : (p : ℕ) (s : State) → HasRoom s → (place : ℕ) → ChildMeets (noted (follows_leaf runner p runner (length s.instances) false)) (child_at here place)
  child_reads p s room place = children_meet (noted (follows_leaf runner p runner (length s.instances) false)) view tt (map (λ c. meaning (term c)) cs) (all_meet p s cs) uid 0 place room

  -- what a part leaves of the children
  abbrev pub PartsHere : {A M : Type 0} → State → Done A M → Type 0
  PartsHere s d = Parts runner NeverBelow uid (sizes_of term same cs) s d

  -- ---- A reset of children

  span_parts : (span : Span) (ms : List Memory) (s : State) → HasRoom s → Free NeverBelow s → PartsHere s (resets span here 0 ms s)
  span_parts span ms s room free =
      let d : Done (Unit {0}) (List Memory) = resets span here 0 ms s in
      let freed = span_freed runner view (map (λ c. meaning (term c)) cs) (children_free runner term cs) span uid 0 ms s in
      freed_parted runner s d.state d.notes freed.stays freed.frees
      (λ p. reads_as runner p (length s.instances) s d (resets_meet (noted (follows_leaf runner p runner (length s.instances) false)) span here 0 ms s (child_reads p s room) refl))
      free

  -- ---- A visit of a child

  -- where a child is visited, those that must not be RUNNING with it are not
  pub record Alone (place : ℕ) (ss : List Status) : Type 0 where
    pub earlier : (k : ℕ) → k < place → meeting_at kind k ≡ Never → is_running (status_at ss k) ≡ false
    pub later : (k : ℕ) → place < k → meeting_at kind place ≡ Never → is_running (status_at ss k) ≡ false

  not_both : {b : Bool} → b ≡ true → b ≡ false → ⊥
  not_both one other = cc

  free_by : (b : Bool) → (b ≡ true → ⊥) → b ≡ false
  free_by true never = absurd (never refl)
  free_by false never = refl

  module _ (place : ℕ) (ms : List Memory) (s : State) (all : Holds ms s) (room : HasRoom s) (free : Free NeverBelow s) (alone : Alone place (statuses ms)) where
    -- a leaf of a child that is not RUNNING is free
    rests_free : (k p : ℕ) → Has term same cs uid k p → is_running (status_at (statuses ms) k) ≡ false → held_among s.instances p ≡ false
    rests_free k p has rests = free_by (held_among s.instances p) (λ held. not_both (held_runs term same view.rows cs uid k p ms s all has held) rests)

    module _ (child : Child) (one : Stands term same view cs uid place place child) where
      abbrev d : Done Answer Memory
      d = (meaning (term one.who)).visit view one.at (memory_at ms place) s

      -- the pairs of the child are among those of all
      its_parts : Parted runner (NeverIn (meetings (term one.who)) (size_of term same one.who) one.at) one.at (size_of term same one.who) s d.notes d.state
      its_parts = (parts one.who).visit view one.at (memory_at ms place) s (one.sound view.rows ms s all) (omega (arith, room, one.high))
          (λ p q pair. free p q (omega (arith, pair.0, one.low), pair.1, omega (arith, pair.2, one.high), one.same kind 0 p q pair.0 pair.1 pair.2 ∙ pair.3))

      -- it has this leaf, or another one has
      away : (p k : ℕ) → Has term same cs uid k p → Beyond one.at (size_of term same one.who) p → k ≡ place → ⊥
      away p k has out is =
          let inside : (one.at ≤ p) × (p < one.at + size_of term same one.who) = one.only p (subst (λ (j : ℕ). Has term same cs uid j p) is has) in
          ⊎_elim (λ low. omega (arith, low, inside.0)) (λ past. omega (arith, past, inside.1)) out

      met : (j k p q : ℕ) → j < k → Has term same cs uid j p → Has term same cs uid k q → NeverBelow p q → meeting_at kind j ≡ Never
      met j k p q less one_has other_has pair =
          ap (meeting_at kind) (let e : j ≡ 0 + j = omega arith in e) ∙ sym (meets_apart term same kind cs 0 uid j k p q less one_has other_has) ∙ pair.3

      strictly : (j k : ℕ) → j ≤ k → (j ≡ k → ⊥) → j < k
      strictly j k low other = ⊎_elim (λ less. less) (λ reached. absurd (other (omega (arith, low, reached)))) (cases_lt j k)

      first_inside : (p q : ℕ) → NeverBelow p q → (one.at ≤ p) × (p < one.at + size_of term same one.who) → Beyond one.at (size_of term same one.who) q → Apart runner p q d.notes (held_among s.instances p) (held_among s.instances q)
      first_inside p q pair inside out =
          let has_p : Has term same cs uid place p = one.has p inside.0 inside.1 in
          let found : (k : ℕ) × Has term same cs uid k q = had_by_some term same cs uid q (omega (arith, pair.0, pair.1)) pair.2 in
          let less : place < found.0 = strictly place found.0 (in_order term same cs uid place found.0 p q has_p found.1 pair.1) (λ e. away q found.0 found.1 out (sym e)) in
          second_free_apart runner p q d.notes (held_among s.instances p) (held_among s.instances q) (stays_frees runner q d.notes (its_parts.stays q out))
          (rests_free found.0 q found.1 (alone.later found.0 less (met place found.0 p q less has_p found.1 pair)))

      second_inside : (p q : ℕ) → NeverBelow p q → Beyond one.at (size_of term same one.who) p → (one.at ≤ q) × (q < one.at + size_of term same one.who) → Apart runner p q d.notes (held_among s.instances p) (held_among s.instances q)
      second_inside p q pair out inside =
          let has_q : Has term same cs uid place q = one.has q inside.0 inside.1 in
          let found : (k : ℕ) × Has term same cs uid k p = had_by_some term same cs uid p pair.0 (omega (arith, pair.1, pair.2)) in
          let less : found.0 < place = strictly found.0 place (in_order term same cs uid found.0 place p q found.1 has_q pair.1) (λ e. away p found.0 found.1 out e) in
          first_free_apart runner p q d.notes (held_among s.instances p) (held_among s.instances q) (stays_frees runner p d.notes (its_parts.stays p out))
          (rests_free found.0 p found.1 (alone.earlier found.0 less (met found.0 place p q less found.1 has_q pair)))

      apart_here : (p q : ℕ) → NeverBelow p q → Apart runner p q d.notes (held_among s.instances p) (held_among s.instances q)
      apart_here p q pair = ⊎_elim
          (λ inside. ⊎_elim
          (λ other. its_parts.apart p q (inside.0, pair.1, other.1, sym (one.same kind 0 p q inside.0 pair.1 other.1) ∙ pair.3))
          (λ out. first_inside p q pair inside out)
          (inside_or one.at (size_of term same one.who) q))
          (λ out. ⊎_elim
          (λ inside. second_inside p q pair out inside)
          (λ other. frees_apart runner p q d.notes (held_among s.instances p) (held_among s.instances q) (stays_frees runner p d.notes (its_parts.stays p out)) (stays_frees runner q d.notes (its_parts.stays q other)) (free p q pair))
          (inside_or one.at (size_of term same one.who) q))
          (inside_or one.at (size_of term same one.who) p)

      its_meets : (p : ℕ) → Meets (noted (follows_leaf runner p runner (length s.instances) false)) s d
      its_meets p = (term_reads (follows_leaf runner p runner (length s.instances) false) (term one.who)).visit view tt one.at (omega (arith, room, one.high)) (memory_at ms place) s refl

      its_reads : (p : ℕ) → Reads runner s d.notes d.state p
      its_reads p = reads_as runner p (length s.instances) s d (its_meets p)

      child_parts : Parted runner NeverBelow uid (sizes_of term same cs) s d.notes d.state
      child_parts = record {
        stays = λ p out. its_parts.stays p (⊎_elim (λ low. inl (omega (arith, low, one.low))) (λ past. inr (omega (arith, past, one.high))) out);
        reads = λ p q pair. (its_reads p, its_reads q);
        apart = apart_here;
      }

    -- a visit of the child at the place
    visit_parts : PartsHere s ((child_at here place).visit ms s)
    visit_parts =
        let Goal : Child → Type 0 = λ child. PartsHere s (child.visit ms s) in
        ⊎_elim
        (λ one. subst Goal (sym one.is_child) (child_parts (child_at here place) one))
        (λ none. subst Goal (sym none) (nothing_parted runner s s refl free))
        (stands term same view cs uid place)

  -- ---- The words

  -- from children with these statuses a rule leaves the leaves apart
  abbrev pub Splits : List Status → Rule → Type 0
  Splits ss rule = (ms : List Memory) (s : State) → statuses ms ≡ ss → Holds ms s → HasRoom s → Free NeverBelow s → PartsHere s (rule here ms s)

  -- .. from children with any statuses
  abbrev pub Always : Rule → Type 0
  Always rule = (ss : List Status) → Splits ss rule

  pub keep_splits : (a : Answer) (memo : Memo) → Always (keep a memo)
  unfolding keep
  keep_splits a memo ss ms s is all room free = nothing_parted runner s s refl free

  pub visit_splits : (place : ℕ) (go : Answer → Rule) (ss : List Status) → Alone place ss → ((a : Answer) (ss1 : List Status) → Changed place (status_of a) ss ss1 → Splits ss1 (go a)) → Splits ss (visit place go)
  unfolding visit
  visit_splits place go ss alone goes ms s is all room free =
      let d : Done Answer (List Memory) = (child_at here place).visit ms s in
      let first : PartsHere s d = visit_parts place ms s all room free (subst (λ (x : List Status). Alone place x) (sym is) alone) in
      follow_parts runner NeverBelow uid (sizes_of term same cs) d (λ ms1. ms1) (λ a ms1 s1. go a here ms1 s1) s (visit_at (kept term same) view cs uid place ms s all) first
      (λ a changed all1 w. goes a (statuses d.memory) (subst (λ (x : List Status). Changed place (status_of a) x (statuses d.memory)) is changed) d.memory d.state refl all1 (room_after w room) (parted_free runner first))

  pub pass_splits : (place : ℕ) (passed : Rule) (go : Answer → Rule) (ss : List Status) → Splits ss passed → Splits ss (visit place go) → Splits ss (visit_or_pass place passed go)
  unfolding visit_or_pass
  pass_splits place passed go ss passes goes ms s is all room free =
      cond_both (is_completed ((child_at here place).status ms)) (passed here ms s) (visit place go here ms s) (λ (d : Done Given (List Memory)). PartsHere s d)
      (λ _. passes ms s is all room free)
      (λ _. goes ms s is all room free)

  pub reset_splits : (span : Span) (rule : Rule) (ss : List Status) → ((ss1 : List Status) → Rested span ss ss1 → Splits ss1 rule) → Splits ss (reset span rule)
  unfolding reset
  reset_splits span rule ss goes ms s is all room free =
      let d : Done (Unit {0}) (List Memory) = resets span here 0 ms s in
      let first : PartsHere s d = span_parts span ms s room free in
      follow_parts runner NeverBelow uid (sizes_of term same cs) d (λ ms1. ms1) (λ _ ms1 s1. rule here ms1 s1) s (span_leaves (kept term same) view cs uid span ms s all) first
      (λ _ rested all1 w. goes (statuses d.memory) (subst (λ (x : List Status). Rested span x (statuses d.memory)) is rested) d.memory d.state refl all1 (room_after w room) (parted_free runner first))
