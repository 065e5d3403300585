-- Two leaves of a runner that are never held together are apart at every moment of a run.
use Rattle.std.proofs.Common.{◌≡◌, ⊎_elim, ℕ, zero, suc, ◌+◌, ◌-◌, ◌≤◌, List, [], ◌∷◌, ◌++◌, map, take, nat_eq, cond, Bool, true, false, ◌&&◌, replicate, slice_get, Option, Some, None, Result, Ok, Err, refl, sym, ap, subst, ◌∙◌, append-nil, arith}
use Rattle.std.specs.List.{AllByRecursion, flat_map}
use Rattle.std.proofs.lemmas.Bool.{cases_eq, ne_eqb}
use Rattle.std.proofs.lemmas.List.{map-append}
use Rattle.base_tables.specs.Sound.{RunSteady, Steady}
use Rattle.run_laws.proofs.Events.{finish_steady, later_steady, step_steady}
use Rattle.run_laws.proofs.ReadNotes.{read_all}
use Rattle.run_laws.proofs.Runs.{InOrderFrom, opening_steady, order_after, step_last}
use Rattle.spec_exclusive.specs.Meetings.{meetings}
use Rattle.spec_run.specs.declared.block.Block.{Block}
use Rattle.spec_run.specs.declared.block.Header.{Header}
use Rattle.spec_run.specs.declared.block.Header.TheVariants as header
use Rattle.spec_run.specs.declared.fault.NodeFault.{NodeFault}
use Rattle.spec_run.specs.declared.fault.RunFault.{RunFault}
use Rattle.spec_run.specs.declared.memory.Memory.{Memory, out-Memory}
use Rattle.spec_run.specs.declared.note.Note.{Note}
use Rattle.spec_run.specs.declared.note.Note.TheVariants as note
use Rattle.spec_run.specs.declared.status.Answer.{Answer}
use Rattle.spec_run.specs.declared.status.Status.{Status}
use Rattle.spec_run.specs.Done.{Call, Done, State}
use Rattle.spec_run.specs.Leaf.{fresh}
use Rattle.spec_run.specs.Run.{RunState, Runner, Stepped, Trace, before_rest, finish, finishes, fresh_runner, opening, quench_notes, quenched_notes, releases, reset_step, root_reset, root_told, root_view, run_from, run_over, runner_at, settled, state_of, step, step_by, tell_step, tick_step, ticked, told, with_runner}
use Rattle.spec_run.specs.Sites.{View}
use Rattle.spec_run.specs.Visit.{change, meaning}
use Rattle.spec_serve.specs.Inputs.{runner_of}
use Rattle.spec_serve.specs.Traces.{Noted, noted_in}
use Rattle.spec_tree.specs.declared.term.Tree.{Tree}
use Rattle.spec_world.specs.declared.world.Event.{Event}
use Rattle.spec_world.specs.declared.world.Telling.{Telling}
use Rattle.spec_world.specs.declared.world.What.{What}
use Rattle.spec_world.specs.declared.world.What.TheVariants.{Tick, Halt, Change, Tell}
use Rattle.spec_world.specs.declared.world.World.{World}
use Rattle.tree_exclusive.specs.Runs.{AreInOrder, NamesRunner}
use Rattle.tree_exclusive.proofs.Apart.{Apart, change_stays, frees_apart, freeing}
use Rattle.tree_exclusive.proofs.Freeing.{term_frees}
use Rattle.tree_exclusive.proofs.Held.{held, held_among, held_by, read_leaf, read_noted}
use Rattle.tree_exclusive.proofs.HeldEvents.{finish_tells, step_tells}
use Rattle.tree_exclusive.proofs.HeldSteps.{Tells, held_here}
use Rattle.tree_exclusive.proofs.Parted.{Free, Pairs, Parted, Parts, follow_each, nothing_parted, parted_both, parted_free, told_parted}
use Rattle.tree_exclusive.proofs.Terms.{term_parts}
use Rattle.tree_exclusive.proofs.Words.{NeverIn}

-- ---- Notes of a run

module _ (runner u v : ℕ) where
  abbrev pub NotBoth : Bool → Bool → Type 0
  NotBoth a b = a ≡ true → b ≡ true → ⊥

  abbrev pub reads_u : Noted → Bool → Bool
  reads_u n known = read_noted runner u n known

  abbrev pub reads_v : Noted → Bool → Bool
  reads_v n known = read_noted runner v n known

  -- two leaves are not both held: not at first, and after none of these notes
  abbrev pub ApartAll : List Noted → Bool → Bool → Type 0
  ApartAll [] a b = NotBoth a b
  ApartAll (n ∷ ns) a b = NotBoth a b × ApartAll ns (reads_u n a) (reads_v n b)

  all_both : (xs ys : List Noted) (a b : Bool) → ApartAll xs a b → ApartAll ys (read_all reads_u xs a) (read_all reads_v xs b) → ApartAll (xs ++ ys) a b
  all_both [] ys a b one other = other
  all_both (n ∷ xs) ys a b one other = (one.0, all_both xs ys (reads_u n a) (reads_v n b) one.1 other)

  pub all_last : (ns : List Noted) (a b : Bool) → ApartAll ns a b → NotBoth (read_all reads_u ns a) (read_all reads_v ns b)
  all_last [] a b apart = apart
  all_last (n ∷ ns) a b apart = all_last ns (reads_u n a) (reads_v n b) apart.1

  pub all_take : (ns : List Noted) (k : ℕ) (a b : Bool) → ApartAll ns a b → NotBoth (read_all reads_u (take k ns) a) (read_all reads_v (take k ns) b)
  all_take [] zero a b apart = apart
  all_take [] (suc k) a b apart = apart
  all_take (n ∷ ns) zero a b apart = apart.0
  all_take (n ∷ ns) (suc k) a b apart = all_take ns k (reads_u n a) (reads_v n b) apart.1

  -- ---- Notes that only free

  abbrev FreesBoth : List Noted → Type 0
  FreesBoth [] = Unit {0}
  FreesBoth (n ∷ ns) = ((known : Bool) → reads_u n known ≡ true → known ≡ true) × ((known : Bool) → reads_v n known ≡ true → known ≡ true) × FreesBoth ns

  frees_all : (ns : List Noted) (a b : Bool) → FreesBoth ns → NotBoth a b → ApartAll ns a b
  frees_all [] a b frees free = free
  frees_all (n ∷ ns) a b frees free = (free, frees_all ns (reads_u n a) (reads_v n b) frees.2 (λ e f. free (frees.0 a e) (frees.1 b f)))

  -- the notes of an event of this runner
  abbrev of_event : ℕ → List Note → List Noted
  of_event by notes = map (λ n. let one : Noted = record { runner = by; note = n } in one) notes

  own_event : (notes : List Note) (a b : Bool) → Apart runner u v notes a b → ApartAll (of_event runner notes) a b
  own_event [] a b apart = apart
  own_event (n ∷ notes) a b apart = (apart.0, own_event notes _ _ apart.1)

  free_test : (b left known : Bool) → b ≡ false → cond b left known ≡ true → known ≡ true
  free_test true left known e is = cc
  free_test false left known e is = is

  and_first : (a b : Bool) → a ≡ false → (a && b) ≡ false
  and_first true b e = cc
  and_first false b e = refl

  other_note : (by uid : ℕ) → nat_eq runner by ≡ false → (n : Note) (known : Bool) → read_leaf runner uid by n known ≡ true → known ≡ true
  other_note by uid other (note.Changed at old new) known is = is
  other_note by uid other (note.Started at a) known is = free_test (nat_eq runner by && nat_eq uid at) _ known (and_first (nat_eq runner by) (nat_eq uid at) other) is
  other_note by uid other (note.Ran at a) known is = free_test (nat_eq runner by && nat_eq uid at) _ known (and_first (nat_eq runner by) (nat_eq uid at) other) is
  other_note by uid other (note.Halted at) known is = free_test (nat_eq runner by && nat_eq uid at) _ known (and_first (nat_eq runner by) (nat_eq uid at) other) is
  other_note by uid other (note.Root of a) known is = is
  other_note by uid other (note.Faulted of at cause) known is = is
  other_note by uid other (note.Quenched of at) known is = freeing runner (nat_eq runner of && nat_eq uid at) known is

  -- the notes of an event of another runner
  other_event : (by : ℕ) → nat_eq runner by ≡ false → (notes : List Note) → FreesBoth (of_event by notes)
  other_event by other [] = tt
  other_event by other (n ∷ notes) = (other_note by u other n, other_note by v other n, other_event by other notes)

  frees_more : (by : ℕ) (xs ys : List Note) → FreesBoth (of_event by xs) → FreesBoth (of_event by ys) → FreesBoth (of_event by (xs ++ ys))
  frees_more by [] ys one other = other
  frees_more by (n ∷ xs) ys one other = (one.0, one.1, frees_more by xs ys one.2 other)

  -- the notes of a quench
  quenched_frees : (by of : ℕ) (calls : List Call) → FreesBoth (of_event by (quenched_notes of calls))
  quenched_frees by of [] = tt
  quenched_frees by of (c ∷ calls) = (freeing runner (nat_eq runner of && nat_eq u c.uid), freeing runner (nat_eq runner of && nat_eq v c.uid), quenched_frees by of calls)

  quench_frees : (by first : ℕ) (rs : List Runner) → FreesBoth (of_event by (quench_notes first rs))
  quench_frees by first [] = tt
  quench_frees by first (r ∷ rs) = frees_more by (quenched_notes first (releases 0 r.instances)) (quench_notes (first + 1) rs) (quenched_frees by first (releases 0 r.instances)) (quench_frees by (first + 1) rs)

-- ---- Events

module _ (tree : Tree) (world : World) (runner : ℕ) where
  -- the pairs of leaves of the tree that are never held together
  abbrev pub NeverHere : Pairs
  NeverHere = NeverIn (meetings tree.term) (meaning tree.term).size 1

  -- none of them are both held
  abbrev pub NotNow : RunState → Type 0
  NotNow s = (u v : ℕ) → NeverHere u v → NotBoth runner u v (held s.runners runner u) (held s.runners runner v)

  -- a step keeps them apart
  abbrev pub Splits : RunState → Stepped → Type 0
  Splits s d = (u v : ℕ) → NeverHere u v → ApartAll runner u v (noted_in d.block) (held s.runners runner u) (held s.runners runner v)

  module _ (s : RunState) (steady : RunSteady tree.term world.rows s) (at : ℕ) (ahead : s.last ≤ at) (apart : NotNow s) where
    abbrev view : View
    view = root_view tree world

    now : (by : ℕ) (x : Runner) → runner_at s by ≡ Some x → Steady tree.term world.rows x.memory (state_of x s.facts at)
    now by x is = later_steady tree world.rows s steady at ahead s.facts (by - 1) x is

    -- in these notes of an event of a runner they stay apart
    abbrev EventSplits : ℕ → List Note → Type 0
    EventSplits by notes = (u v : ℕ) → NeverHere u v → ApartAll runner u v (of_event runner u v by notes) (held s.runners runner u) (held s.runners runner v)

    -- .. by those of a part of this runner's own event
    abbrev OwnApart : List Note → Type 0
    OwnApart notes = (u v : ℕ) → NeverHere u v → Apart runner u v notes (held s.runners runner u) (held s.runners runner v)

    part_splits : (by : ℕ) (notes : List Note) → (runner ≡ by → OwnApart notes) → EventSplits by notes
    part_splits by notes own u v pair = ⊎_elim
        (λ same. subst (λ (k : ℕ). ApartAll runner u v (of_event runner u v k notes) (held s.runners runner u) (held s.runners runner v)) same (own_event runner u v notes (held s.runners runner u) (held s.runners runner v) (own same u v pair)))
        (λ other. frees_all runner u v (of_event runner u v by notes) (held s.runners runner u) (held s.runners runner v) (other_event runner u v by (ne_eqb runner by other) notes) (apart u v pair))
        (cases_eq runner by)

    faulted_splits : (by : ℕ) (notes rest : List Note) → ((u v : ℕ) → FreesBoth runner u v (of_event runner u v by rest)) → EventSplits by notes → EventSplits by (notes ++ rest)
    faulted_splits by notes rest frees first u v pair =
        subst (λ (ns : List Noted). ApartAll runner u v ns (held s.runners runner u) (held s.runners runner v)) (sym (map-append (λ n. let one : Noted = record { runner = by; note = n } in one) notes rest))
        (all_both runner u v (of_event runner u v by notes) (of_event runner u v by rest) (held s.runners runner u) (held s.runners runner v) (first u v pair)
        (frees_all runner u v (of_event runner u v by rest) _ _ (frees u v) (all_last runner u v (of_event runner u v by notes) _ _ (first u v pair))))

    module _ {A : Type 0} (h : Header) (by : ℕ) (of : runner_of h ≡ by) (d : Done A Memory) (own : runner ≡ by → OwnApart d.notes) where
      told_splits : (answer : Result A NodeFault) → Splits s (told answer h tree by d.notes d.calls s (with_runner s by at d))
      told_splits (Ok a) = subst (λ (k : ℕ). EventSplits k d.notes) (sym of) (part_splits by d.notes own)
      told_splits (Err f) =
          let rest : List Note = note.Faulted by f.uid f.cause ∷ quench_notes 1 (with_runner s by at d).runners in
          subst (λ (k : ℕ). EventSplits k (d.notes ++ rest)) (sym of)
          (faulted_splits by d.notes rest (λ u v. ((λ known e. e), (λ known e. e), quench_frees runner u v by 1 (with_runner s by at d).runners)) (part_splits by d.notes own))

    -- ---- The parts of the runner's own events

    module _ (by : ℕ) (named : 1 ≤ by) (x : Runner) (is : runner_at s by ≡ Some x) (same : runner ≡ by) where
      -- what is held of the runner itself
      mine : (p : ℕ) → held s.runners runner p ≡ held_among x.instances p
      mine p = ap (λ (k : ℕ). held s.runners k p) same ∙ held_here s.runners x by named is p

      abbrev s0 : State
      s0 = state_of x s.facts at

      free : Free NeverHere s0
      free p q pair a b = apart p q pair (mine p ∙ a) (mine q ∙ b)

      as_held : (notes : List Note) → ((u v : ℕ) → NeverHere u v → Apart runner u v notes (held_among x.instances u) (held_among x.instances v)) → OwnApart notes
      as_held notes holds u v pair =
          subst (λ (b : Bool). Apart runner u v notes b (held s.runners runner v)) (sym (mine u))
          (subst (λ (b : Bool). Apart runner u v notes (held_among x.instances u) b) (sym (mine v)) (holds u v pair))

      -- a tick
      tick_apart : OwnApart (ticked tree view by x.memory s0).notes
      tick_apart =
          let d : Done Answer Memory = (meaning tree.term).visit view 1 x.memory s0 in
          let steady0 : Steady tree.term world.rows x.memory s0 = now by x is in
          let visited : Parted runner NeverHere 1 (meaning tree.term).size s0 d.notes d.state = (term_parts runner tree.term).visit view 1 x.memory s0 steady0.sound steady0.room free in
          let after : Status = settled (out-Memory d.memory).status in
          let whole : Parts runner NeverHere 1 (meaning tree.term).size s0 (ticked tree view by x.memory s0) =
          follow_each runner NeverHere 1 (meaning tree.term).size d (λ m1. m1) (λ a m1 s1. root_told by a m1 s1) s0 visited
          (λ a. parted_both runner (told_parted runner d.state (note.Root by a ∷ change 1 (out-Memory d.memory).status after) (λ p. ((λ known. refl), change_stays runner p 1 (out-Memory d.memory).status after)) (parted_free runner visited))
          (nothing_parted runner d.state d.state refl (parted_free runner visited)))
          in
          as_held (ticked tree view by x.memory s0).notes whole.apart

      -- a reset of the root
      reset_apart : OwnApart (root_reset tree view x.memory s0).notes
      reset_apart =
          let d : Done (Unit {0}) Memory = root_reset tree view x.memory s0 in
          as_held d.notes (λ u v pair. frees_apart runner u v d.notes (held_among x.instances u) (held_among x.instances v)
          ((term_frees runner tree.term view 1 x.memory s0).frees u) ((term_frees runner tree.term view 1 x.memory s0).frees v) (free u v pair))

    -- ---- Steps

    tick_splits : (o : Option Runner) (by : ℕ) → 1 ≤ by → runner_at s by ≡ o → Splits s (tick_step o tree world by at s)
    tick_splits None by named is = apart
    tick_splits (Some x) by named is =
        let d : Done Answer Memory = ticked tree view by x.memory (state_of x s.facts at) in
        told_splits (header.Tick by at) by refl d (tick_apart by named x is) d.answer

    pub reset_splits : (h : Header) (o : Option Runner) (by : ℕ) → 1 ≤ by → runner_of h ≡ by → runner_at s by ≡ o → Splits s (reset_step o h tree world by at s)
    reset_splits h None by named of is = apart
    reset_splits h (Some x) by named of is =
        let d : Done (Unit {0}) Memory = root_reset tree view x.memory (state_of x s.facts at) in
        told_splits h by of d (reset_apart by named x is) d.answer

    tell_splits : (o : Option Runner) (by uid : ℕ) (telling : Telling) → Splits s (tell_step o by uid telling at s)
    tell_splits None by uid telling = apart
    tell_splits (Some x) by uid telling = apart

    pub step_splits : (what : What) → NamesRunner what → Splits s (step_by what tree world at s)
    step_splits (Tick by) named = tick_splits (runner_at s by) by named refl
    step_splits (Halt by) named = reset_splits (header.Halt by at) (runner_at s by) by named refl refl
    step_splits (Change fact value) named = apart
    step_splits (Tell by uid telling) named = tell_splits (runner_at s by) by uid telling

  pub finish_splits : (s : RunState) → RunSteady tree.term world.rows s → NotNow s → (by : ℕ) → 1 ≤ by → Splits s (finish tree world by s)
  finish_splits s steady apart by named = reset_splits s steady s.last (omega arith) apart (header.Finish by s.last) (runner_at s by) by named refl refl

  -- ---- Runs

  -- what holds between events
  pub record Kept (s : RunState) : Type 0 where
    pub steady : RunSteady tree.term world.rows s
    pub apart : NotNow s

  -- the notes of blocks
  abbrev pub notes_of : List Block → List Noted
  notes_of blocks = flat_map noted_in blocks

  -- from a state on they stay apart in these blocks
  abbrev pub RunSplits : RunState → List Block → Type 0
  RunSplits s blocks = (u v : ℕ) → NeverHere u v → ApartAll runner u v (notes_of blocks) (held s.runners runner u) (held s.runners runner v)

  -- a step keeps it
  next_kept : (s : RunState) (d : Stepped) → Splits s d → Tells tree s d → RunSteady tree.term world.rows d.state → Kept d.state
  next_kept s d splits tells steady = record {
    steady = steady;
    apart = λ u v pair a b. all_last runner u v (noted_in d.block) (held s.runners runner u) (held s.runners runner v) (splits u v pair) (tells.reads runner u ∙ a) (tells.reads runner v ∙ b);
  }

  rest_splits : (fault : Option RunFault) (s : RunState) (d : Stepped) (rest : RunState → Trace) → Splits s d → Tells tree s d → RunSplits d.state (rest d.state).blocks → RunSplits s (before_rest fault d rest).blocks
  rest_splits (Some f) s d rest splits tells later u v pair = subst (λ (ns : List Noted). ApartAll runner u v ns (held s.runners runner u) (held s.runners runner v)) (sym (append-nil (noted_in d.block))) (splits u v pair)
  rest_splits None s d rest splits tells later u v pair =
      all_both runner u v (noted_in d.block) (notes_of (rest d.state).blocks) (held s.runners runner u) (held s.runners runner v) (splits u v pair)
      (subst (λ (b : Bool). ApartAll runner u v (notes_of (rest d.state).blocks) b (read_all (reads_v runner u v) (noted_in d.block) (held s.runners runner v))) (sym (tells.reads runner u))
      (subst (λ (b : Bool). ApartAll runner u v (notes_of (rest d.state).blocks) (held d.state.runners runner u) b) (sym (tells.reads runner v)) (later u v pair)))

  finishes_split : (more first : ℕ) (s : RunState) → Kept s → 1 ≤ first → RunSplits s (finishes tree world first more s).blocks
  finishes_split zero first s kept named = kept.apart
  finishes_split (suc more) first s kept named =
      let d : Stepped = finish tree world first s in
      let splits : Splits s d = finish_splits s kept.steady kept.apart first named in
      let tells : Tells tree s d = finish_tells tree world s kept.steady first named in
      rest_splits d.fault s d (finishes tree world (first + 1) more) splits tells
      (finishes_split more (first + 1) d.state (next_kept s d splits tells (finish_steady tree world first s kept.steady)) (omega arith))

  pub run_splits : (events : List Event) (s : RunState) → InOrderFrom s.last events → AllByRecursion (λ (e : Event). NamesRunner e.what) events → Kept s → RunSplits s (run_from tree world events s).blocks
  run_splits [] s order named kept = finishes_split world.runners 1 s kept (omega arith)
  run_splits (e ∷ events) s order named kept =
      let d : Stepped = step tree world e s in
      let ahead : s.last ≤ e.at = order.following 0 e (omega arith) in
      let splits : Splits s d = step_splits s kept.steady e.at ahead kept.apart e.what named.0 in
      let tells : Tells tree s d = step_tells tree world s kept.steady e.at ahead e.what named.0 in
      let next : InOrderFrom d.state.last events = subst (λ (last : ℕ). InOrderFrom last events) (sym (step_last e.what tree world e.at s)) (order_after s.last e events order) in
      rest_splits d.fault s d (run_from tree world events) splits tells
      (run_splits events d.state next named.1 (next_kept s d splits tells (step_steady tree world s kept.steady e.at ahead e.what)))

  -- ---- The opening

  fresh_free : (count uid : ℕ) → held_among (replicate count fresh) uid ≡ false
  fresh_free zero uid = refl
  fresh_free (suc count) zero = refl
  fresh_free (suc count) (suc uid) = fresh_free count uid

  opening_at : (count : ℕ) (r : Runner) → ((uid : ℕ) → held_among r.instances uid ≡ false) → (place uid : ℕ) → held_by (slice_get (replicate count r) place) uid ≡ false
  opening_at zero r none place uid = refl
  opening_at (suc count) r none zero uid = none uid
  opening_at (suc count) r none (suc place) uid = opening_at count r none place uid

  pub opening_free : (of uid : ℕ) → held (opening tree world).runners of uid ≡ false
  opening_free zero uid = refl
  opening_free (suc place) uid = opening_at world.runners (fresh_runner tree) (λ p. fresh_free _ p) place uid

  not_held : {b : Bool} → b ≡ true → b ≡ false → ⊥
  not_held yes_it no_it = cc

  opening_kept : Kept (opening tree world)
  opening_kept = record { steady = opening_steady tree world; apart = λ u v pair a b. not_held a (opening_free runner u) }

  pub from_first : (events : List Event) → AreInOrder events → InOrderFrom 0 events
  from_first events order = record { in_order = order.moments; following = λ k d within. omega arith }

  -- in a run they are never both held
  pub whole_run : (events : List Event) → AreInOrder events → RunSplits (opening tree world) (run_over tree world events).blocks
  whole_run events order = run_splits events (opening tree world) (from_first events order) order.runners opening_kept
