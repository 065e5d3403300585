-- Two leaves of a runner that are apart in each state between events are apart in what the notes of whole blocks say.
use Rattle.std.proofs.Common.{◌≡◌, ℕ, zero, suc, ◌+◌, ◌<◌, ◌≤◌, List, [], ◌∷◌, ◌++◌, take, true, slice_get, Option, Some, None, refl, sym, ap, subst, ◌∙◌, arith}
use Rattle.std.specs.List.{AllByRecursion}
use Rattle.base_tables.specs.Sound.{RunSteady}
use Rattle.run_laws.proofs.Events.{finish_steady, step_steady}
use Rattle.run_laws.proofs.ReadNotes.{read_all, read_both}
use Rattle.run_laws.proofs.Runs.{InOrderFrom, opening_steady, order_after, step_last}
use Rattle.spec_exclusive.specs.declared.meeting.Meeting.TheVariants.{Handover}
use Rattle.spec_exclusive.specs.Meetings.{meetings}
use Rattle.spec_run.specs.declared.block.Block.{Block}
use Rattle.spec_run.specs.declared.fault.RunFault.{RunFault}
use Rattle.spec_run.specs.Run.{RunState, Runner, Stepped, Trace, before_rest, finish, finishes, opening, run_from, run_over, state_of, step}
use Rattle.spec_run.specs.Visit.{meaning}
use Rattle.spec_serve.specs.Traces.{noted_in}
use Rattle.spec_tree.specs.declared.term.Tree.{Tree}
use Rattle.spec_world.specs.declared.world.Event.{Event}
use Rattle.spec_world.specs.declared.world.World.{World}
use Rattle.tree_exclusive.specs.Runs.{AreInOrder, NamesRunner}
use Rattle.tree_exclusive.proofs.Handing.{handed_apart}
use Rattle.tree_exclusive.proofs.Held.{held, held_by}
use Rattle.tree_exclusive.proofs.HeldEvents.{finish_tells, step_tells}
use Rattle.tree_exclusive.proofs.HeldSteps.{Tells}
use Rattle.tree_exclusive.proofs.Moments.{NotBoth, from_first, notes_of, reads_u, reads_v}

module _ (tree : Tree) (world : World) (runner u v : ℕ) (less : u < v) (low : 1 ≤ u) (high : v < 1 + (meaning tree.term).size) (handed : (meetings tree.term).meeting 1 u v ≡ Handover) where
  abbrev Now : RunState → Type 0
  Now s = NotBoth runner u v (held s.runners runner u) (held s.runners runner v)

  -- they are not both held in a state between events
  by_runner : (s : RunState) (place : ℕ) (o : Option Runner) → slice_get s.runners place ≡ o → RunSteady tree.term world.rows s → held_by o u ≡ true → held_by o v ≡ true → ⊥
  by_runner s place None is steady a b = cc
  by_runner s place (Some r) is steady a b = handed_apart tree.term world.rows 1 r.memory (state_of r s.facts s.last) (steady place r is).sound u v low less high handed a b

  now_apart : (s : RunState) → RunSteady tree.term world.rows s → Now s
  now_apart s steady = by runner
    where
      by : (of : ℕ) → held s.runners of u ≡ true → held s.runners of v ≡ true → ⊥
      by zero a b = cc
      by (suc place) a b = by_runner s place (slice_get s.runners place) refl steady a b

  -- .. nor after the first so many blocks
  abbrev Ends : RunState → List Block → Type 0
  Ends s blocks = (k : ℕ) → NotBoth runner u v (read_all (reads_u runner u v) (notes_of tree world runner (take k blocks)) (held s.runners runner u)) (read_all (reads_v runner u v) (notes_of tree world runner (take k blocks)) (held s.runners runner v))

  nothing_ends : (s : RunState) → Now s → Ends s []
  nothing_ends s now zero = now
  nothing_ends s now (suc k) = now

  block_ends : (s : RunState) (d : Stepped) (blocks : List Block) → Now s → Tells tree s d → Ends d.state blocks → Ends s (d.block ∷ blocks)
  block_ends s d blocks now tells later zero = now
  block_ends s d blocks now tells later (suc k) = λ a b. later k (sym (reading u) ∙ a) (sym (reading v) ∙ b)
    where
      reading : (p : ℕ) → read_all (λ n known. reads_u runner p p n known) (noted_in d.block ++ notes_of tree world runner (take k blocks)) (held s.runners runner p)
          ≡ read_all (λ n known. reads_u runner p p n known) (notes_of tree world runner (take k blocks)) (held d.state.runners runner p)
      reading p =
          read_both (λ n known. reads_u runner p p n known) (noted_in d.block) (notes_of tree world runner (take k blocks)) (held s.runners runner p)
          ∙ ap (λ b. read_all (λ n known. reads_u runner p p n known) (notes_of tree world runner (take k blocks)) b) (tells.reads runner p)

  rest_ends : (fault : Option RunFault) (s : RunState) (d : Stepped) (rest : RunState → Trace) → Now s → Now d.state → Tells tree s d → Ends d.state (rest d.state).blocks → Ends s (before_rest fault d rest).blocks
  rest_ends (Some f) s d rest now next tells later = block_ends s d [] now tells (nothing_ends d.state next)
  rest_ends None s d rest now next tells later = block_ends s d (rest d.state).blocks now tells later

  finishes_end : (more first : ℕ) (s : RunState) → RunSteady tree.term world.rows s → 1 ≤ first → Ends s (finishes tree world first more s).blocks
  finishes_end zero first s steady named = nothing_ends s (now_apart s steady)
  finishes_end (suc more) first s steady named =
      let d : Stepped = finish tree world first s in
      let next : RunSteady tree.term world.rows d.state = finish_steady tree world first s steady in
      rest_ends d.fault s d (finishes tree world (first + 1) more) (now_apart s steady) (now_apart d.state next) (finish_tells tree world s steady first named) (finishes_end more (first + 1) d.state next (omega arith))

  run_ends : (events : List Event) (s : RunState) → InOrderFrom s.last events → AllByRecursion (λ (e : Event). NamesRunner e.what) events → RunSteady tree.term world.rows s → Ends s (run_from tree world events s).blocks
  run_ends [] s order named steady = finishes_end world.runners 1 s steady (omega arith)
  run_ends (e ∷ events) s order named steady =
      let d : Stepped = step tree world e s in
      let ahead : s.last ≤ e.at = order.following 0 e (omega arith) in
      let next : RunSteady tree.term world.rows d.state = step_steady tree world s steady e.at ahead e.what in
      let later : InOrderFrom d.state.last events = subst (λ (last : ℕ). InOrderFrom last events) (sym (step_last e.what tree world e.at s)) (order_after s.last e events order) in
      rest_ends d.fault s d (run_from tree world events) (now_apart s steady) (now_apart d.state next) (step_tells tree world s steady e.at ahead e.what named.0) (run_ends events d.state later named.1 next)

  pub whole_ends : (events : List Event) → AreInOrder events → Ends (opening tree world) (run_over tree world events).blocks
  whole_ends events order = run_ends events (opening tree world) (from_first tree world runner events order) order.runners (opening_steady tree world)
