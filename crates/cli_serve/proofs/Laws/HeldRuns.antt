-- No leaf is left held by the notes of a run.
use Rattle.std.proofs.Common.{◌≡◌, ⊎_elim, ℕ, zero, suc, ◌+◌, ◌<◌, ◌≤◌, List, [], ◌∷◌, length, nat_eq, cond, Bool, true, false, ◌&&◌, ◌||◌, replicate, slice_get, Option, Some, None, refl, sym, ap, subst, ◌∙◌, append-nil, arith}
use Rattle.std.specs.List.{flat_map}
use Rattle.std.proofs.lemmas.Bool.{and_from, cases_lt, eq-eqb}
use Rattle.std.proofs.lemmas.List.{length-replicate}
use Rattle.base_tables.specs.Shapes.{is_running}
use Rattle.base_tables.specs.Sound.{RunSteady}
use Rattle.run_laws.proofs.Events.{finish_steady, step_steady}
use Rattle.run_laws.proofs.ReadNotes.{read_all, read_both}
use Rattle.run_laws.proofs.Runs.{opening_steady, step_last}
use Rattle.spec_run.specs.declared.block.Block.{Block}
use Rattle.spec_run.specs.declared.fault.RunFault.{RunFault}
use Rattle.spec_run.specs.declared.note.Note.{Note}
use Rattle.spec_run.specs.declared.note.Note.TheVariants as note
use Rattle.spec_run.specs.declared.status.Answer.{Answer}
use Rattle.spec_run.specs.declared.status.Answer.TheVariants as answer
use Rattle.spec_run.specs.Leaf.{fresh}
use Rattle.spec_run.specs.Run.{RunState, Runner, Stepped, Trace, before_rest, finish, finishes, fresh_runner, opening, run_from, run_over, step}
use Rattle.spec_run.specs.Visit.{status_of}
use Rattle.spec_serve.specs.Traces.{Noted, all_ended, goes_on, has_later, is_call, is_called, noted_in}
use Rattle.spec_tree.specs.declared.term.Tree.{Tree}
use Rattle.spec_world.specs.declared.world.Event.{Event}
use Rattle.spec_world.specs.declared.world.World.{World}
use Rattle.tree_exclusive.proofs.Held.{held, held_among, held_by, read_leaf, read_noted}
use Rattle.tree_exclusive.proofs.HeldEvents.{finish_tells, step_tells}
use Rattle.tree_exclusive.proofs.HeldSteps.{Free, HoldsInside, Tells}
use Rattle.cli_serve.proofs.Laws.HeldEvents.{AreTaken, FreeBelow, finish_frees}

-- ---- Runs

-- the notes of the blocks of a run
abbrev pub notes_of : List Block → List Noted
notes_of blocks = flat_map noted_in blocks

-- from a state on these notes leave no leaf held
abbrev pub Ends : RunState → List Noted → Type 0
Ends s notes = (runner uid : ℕ) → read_all (read_noted runner uid) notes (held s.runners runner uid) ≡ false

-- runners that are not there hold nothing
free_past : (rs : List Runner) (place uid : ℕ) → length rs ≤ place → held_by (slice_get rs place) uid ≡ false
free_past [] place uid past = refl
free_past (r ∷ rs) zero uid past = absurd (omega (arith, past))
free_past (r ∷ rs) (suc place) uid past = free_past rs place uid (omega (arith, past))

none_past : (rs : List Runner) (runner uid : ℕ) → length rs < runner → held rs runner uid ≡ false
none_past rs zero uid past = refl
none_past rs (suc place) uid past = free_past rs place uid (omega (arith, past))

module _ (tree : Tree) (world : World) where
  -- what holds between events
  pub record Kept (s : RunState) : Type 0 where
    pub steady : RunSteady tree.term world.rows s
    pub inside : HoldsInside tree s.runners
    pub many : length s.runners ≡ world.runners

  still_kept : (s : RunState) (d : Stepped) → Kept s → Tells tree s d → RunSteady tree.term world.rows d.state → Kept d.state
  still_kept s d kept tells steady = record { steady = steady; inside = tells.inside kept.inside; many = tells.many ∙ kept.many }

  -- a step, and what follows it where it ends in no fault
  rest_ends : (fault : Option RunFault) (s : RunState) (d : Stepped) (rest : RunState → Trace) → d.fault ≡ fault → Tells tree s d →
      (d.fault ≡ None → Ends d.state (notes_of (rest d.state).blocks)) → Ends s (notes_of (before_rest fault d rest).blocks)
  rest_ends (Some f) s d rest is tells ends runner uid =
      ap (λ (notes : List Noted). read_all (read_noted runner uid) notes (held s.runners runner uid)) (append-nil (noted_in d.block))
      ∙ tells.reads runner uid
      ∙ tells.faulted f is runner uid
  rest_ends None s d rest is tells ends runner uid =
      read_both (read_noted runner uid) (noted_in d.block) (notes_of (rest d.state).blocks) (held s.runners runner uid)
      ∙ ap (λ b. read_all (read_noted runner uid) (notes_of (rest d.state).blocks) b) (tells.reads runner uid)
      ∙ ends is runner uid

  finishes_end : (more first : ℕ) (s : RunState) → Kept s → 1 ≤ first → first + more ≡ 1 + world.runners → FreeBelow first s.runners → Ends s (notes_of (finishes tree world first more s).blocks)
  finishes_end zero first s kept named all free = λ runner uid.
      ⊎_elim (λ low. free runner uid low) (λ past. none_past s.runners runner uid (omega (arith, past, all, kept.many))) (cases_lt runner first)
  finishes_end (suc more) first s kept named all free =
      let d : Stepped = finish tree world first s in
      let tells : Tells tree s d = finish_tells tree world s kept.steady first named in
      rest_ends d.fault s d (finishes tree world (first + 1) more) refl tells
      (λ none. finishes_end more (first + 1) d.state (still_kept s d kept tells (finish_steady tree world first s kept.steady)) (omega arith) (omega (arith, all))
      (finish_frees tree world s kept.steady kept.inside first named free none))

  run_ends : (events : List Event) (s : RunState) → AreTaken s.last events → Kept s → Ends s (notes_of (run_from tree world events s).blocks)
  run_ends [] s taken kept = finishes_end world.runners 1 s kept (omega arith) (omega arith) (λ runner uid below. none_first runner uid below)
    where
      none_first : FreeBelow 1 s.runners
      none_first zero uid below = refl
      none_first (suc place) uid below = absurd (omega (arith, below))
  run_ends (e ∷ events) s taken kept =
      let d : Stepped = step tree world e s in
      let tells : Tells tree s d = step_tells tree world s kept.steady e.at taken.0 e.what taken.1 in
      let next : AreTaken d.state.last events = subst (λ (last : ℕ). AreTaken last events) (sym (step_last e.what tree world e.at s)) taken.2 in
      rest_ends d.fault s d (run_from tree world events) refl tells
      (λ none. run_ends events d.state next (still_kept s d kept tells (step_steady tree world s kept.steady e.at taken.0 e.what)))

  -- ---- The opening

  fresh_free : (count uid : ℕ) → held_among (replicate count fresh) uid ≡ false
  fresh_free zero uid = refl
  fresh_free (suc count) zero = refl
  fresh_free (suc count) (suc uid) = fresh_free count uid

  opening_at : (count : ℕ) (r : Runner) → ((uid : ℕ) → held_among r.instances uid ≡ false) → (place uid : ℕ) → held_by (slice_get (replicate count r) place) uid ≡ false
  opening_at zero r free place uid = refl
  opening_at (suc count) r free zero uid = free uid
  opening_at (suc count) r free (suc place) uid = opening_at count r free place uid

  opening_free : Free (opening tree world).runners
  opening_free zero uid = refl
  opening_free (suc place) uid = opening_at world.runners (fresh_runner tree) (λ p. fresh_free _ p) place uid

  opening_kept : Kept (opening tree world)
  opening_kept = record { steady = opening_steady tree world; inside = λ runner uid out. opening_free runner uid; many = length-replicate world.runners (fresh_runner tree) }

-- ---- What the definition asks

-- a leaf that is held, and later is not, is called
called_by : (now : Bool) (left : Bool) (after : Bool → Bool) (later : Bool) → (after true ≡ false → later ≡ true) → after (cond now left true) ≡ false → (now || later) ≡ true
called_by true left after later goes free = refl
called_by false left after later goes free = goes free

is_called_then : (runner uid : ℕ) (notes : List Noted) → read_all (read_noted runner uid) notes true ≡ false → is_called runner uid notes ≡ true
is_called_then runner uid [] free = cc
is_called_then runner uid (n ∷ notes) free =
    called_by (is_call runner uid n.runner n.note) _ (λ b. read_all (read_noted runner uid) notes b) (is_called runner uid notes) (is_called_then runner uid notes) free

goes_on_then : (a : Answer) (runner uid : ℕ) (notes : List Noted) → (a ≡ answer.Running → read_all (read_noted runner uid) notes true ≡ false) → goes_on a runner uid notes ≡ true
goes_on_then answer.Running runner uid notes free = is_called_then runner uid notes (free refl)
goes_on_then answer.Success runner uid notes free = refl
goes_on_then answer.Failure runner uid notes free = refl
goes_on_then answer.Skipped runner uid notes free = refl

-- the call of a note is read as it leaves its leaf
read_call : (runner uid : ℕ) (left known : Bool) → cond (nat_eq runner runner && nat_eq uid uid) left known ≡ left
read_call runner uid left known =
    ap (λ b. cond (b && nat_eq uid uid) left known) (eq-eqb runner runner refl) ∙ ap (λ b. cond b left known) (eq-eqb uid uid refl)

module _ (runner : ℕ) (known : ℕ → ℕ → Bool) (later : List Noted) where
  has_later_then : (n : Note) → ((of uid : ℕ) → read_all (read_noted of uid) later (read_leaf of uid runner n (known of uid)) ≡ false) → has_later runner n later ≡ true
  has_later_then (note.Started uid a) free = goes_on_then a runner uid later (λ is.
      ap (λ b. read_all (read_noted runner uid) later b) (sym (read_call runner uid (is_running (status_of a)) (known runner uid) ∙ ap (λ x. is_running (status_of x)) is)) ∙ free runner uid)
  has_later_then (note.Ran uid a) free = goes_on_then a runner uid later (λ is.
      ap (λ b. read_all (read_noted runner uid) later b) (sym (read_call runner uid (is_running (status_of a)) (known runner uid) ∙ ap (λ x. is_running (status_of x)) is)) ∙ free runner uid)
  has_later_then (note.Changed uid old new) free = refl
  has_later_then (note.Halted uid) free = refl
  has_later_then (note.Root of a) free = refl
  has_later_then (note.Faulted of uid cause) free = refl
  has_later_then (note.Quenched of uid) free = refl

all_end : (notes : List Noted) (known : ℕ → ℕ → Bool) → ((runner uid : ℕ) → read_all (read_noted runner uid) notes (known runner uid) ≡ false) → all_ended notes ≡ true
all_end [] known free = refl
all_end (n ∷ notes) known free =
    and_from (has_later n.runner n.note notes) (all_ended notes) (has_later_then n.runner known notes n.note free)
    (all_end notes (λ runner uid. read_noted runner uid n (known runner uid)) free)

-- the notes of the run of events that are taken leave no leaf held
pub run_leaves_none : (tree : Tree) (world : World) (events : List Event) → AreTaken 0 events → all_ended (notes_of (run_over tree world events).blocks) ≡ true
run_leaves_none tree world events taken =
    all_end (notes_of (run_over tree world events).blocks) (λ runner uid. held (opening tree world).runners runner uid) (run_ends tree world events (opening tree world) taken (opening_kept tree world))
