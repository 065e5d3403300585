-- Each event keeps what holds between events, even with a fault.
use Rattle.std.proofs.Common.{◌≡◌, ℕ, ℤ, ◌+◌, ◌-◌, ◌≤◌, List, length, Option, Some, None, slice_get, slice_index_or, slice_set, Result, Ok, Err, refl, sym, ap, subst, ◌∙◌, arith}
use Rattle.std.proofs.lemmas.List.{length-set}
use Rattle.spec_run.specs.declared.block.Header.{Header}
use Rattle.spec_run.specs.declared.block.Header.TheVariants as header
use Rattle.spec_run.specs.declared.fault.NodeFault.{NodeFault}
use Rattle.spec_run.specs.declared.leaf.Instance.{Instance}
use Rattle.spec_run.specs.declared.memory.Memory.{Memory, out-Memory, roll-out-Memory}
use Rattle.spec_run.specs.declared.status.Answer.{Answer}
use Rattle.spec_run.specs.declared.status.Status.{Status}
use Rattle.spec_run.specs.declared.status.Status.TheVariants as status
use Rattle.spec_tree.specs.declared.term.Term.{Term}
use Rattle.spec_tree.specs.declared.term.Tree.{Tree}
use Rattle.spec_world.specs.declared.world.Row.{Row}
use Rattle.spec_world.specs.declared.world.Telling.{Telling}
use Rattle.spec_world.specs.declared.world.What.{What}
use Rattle.spec_world.specs.declared.world.What.TheVariants.{Tick, Halt, Change, Tell}
use Rattle.spec_world.specs.declared.world.World.{World}
use Rattle.spec_run.specs.Done.{Call, Done, State}
use Rattle.spec_run.specs.Leaf.{fresh}
use Rattle.spec_run.specs.Run.{RunState, Runner, called, finish, later, quenched, quenched_runner, reset_step, root_reset, root_told, root_view, runner_at, runner_step, settled, state_of, step_by, tell_call, tell_step, tick_step, ticked, told, with_runner}
use Rattle.base_tables.specs.Shapes.{is_running}
use Rattle.spec_run.specs.Sites.{View, remembered}
use Rattle.base_tables.specs.Sound.{Leaves, Left, RunSteady, Sound, Steady}
use Rattle.spec_run.specs.Visit.{meaning, status_of}
use Rattle.run_laws.proofs.Parts.{follow_leaves, left_into, within_same}
use Rattle.run_laws.proofs.Children.{status_in, status_kept}
use Rattle.run_laws.proofs.Entries.{mapped_entry, set_entry}
use Rattle.run_laws.proofs.Instances.{held_by_since, since_in, told_since}
use Rattle.run_laws.proofs.Keeping.{term_keeps}
use Rattle.run_laws.proofs.Quenches.{quench_steady}

-- a root is IDLE or RUNNING
abbrev pub RootFits : Memory → Type 0
RootFits m = settled (status_in m) ≡ status_in m

settled_fits : (st : Status) → settled (settled st) ≡ settled st
settled_fits status.Idle = refl
settled_fits status.Running = refl
settled_fits status.Success = refl
settled_fits status.Failure = refl

-- ---- The root

-- the end of a tick at the root
told_sound : (t : Term) (rows : List Row) (st : Status) (m : Memory) (s : State) → st ≡ status_in m → Sound t rows None 1 m s → Sound t rows None 1 (remembered (settled st) (out-Memory m).memo (out-Memory m).children) s
told_sound t rows status.Running m s is sound =
    subst (λ (st : Status). Sound t rows None 1 (remembered st (out-Memory m).memo (out-Memory m).children) s) (sym is) (subst (λ (k : Memory). Sound t rows None 1 k s) (sym (roll-out-Memory m)) sound)
told_sound t rows status.Idle m s is sound = (term_keeps t).settles rows 1 m s sound (ap is_running (sym is))
told_sound t rows status.Success m s is sound = (term_keeps t).settles rows 1 m s sound (ap is_running (sym is))
told_sound t rows status.Failure m s is sound = (term_keeps t).settles rows 1 m s sound (ap is_running (sym is))

-- what an event of a runner leaves of its root
abbrev pub RootLeft : {A : Type 0} → Term → List Row → State → Done A Memory → Type 0
RootLeft t rows s d = Leaves (λ f m1 s1. Sound t rows f 1 m1 s1) (λ _ m1 s1. RootFits m1) 1 (meaning t).size s d

pub ticked_leaves : (tree : Tree) (view : View) (runner : ℕ) (m : Memory) (s : State) → Sound tree.term view.rows None 1 m s → RootLeft tree.term view.rows s (ticked tree view runner m s)
ticked_leaves tree view runner m s sound =
    let t : Term = tree.term in
    let d : Done Answer Memory = (meaning t).visit view 1 m s in
    follow_leaves {rules = λ f m1 s1. Sound t view.rows f 1 m1 s1} {fits = λ a m1 s1. status_in m1 ≡ status_of a} {rules2 = λ f m1 s1. Sound t view.rows f 1 m1 s1} {fits2 = λ _ m1 s1. RootFits m1}
    d (λ m1. m1) (λ a m1 s1. root_told runner a m1 s1) 1 (meaning t).size 1 (meaning t).size s (omega arith) (omega arith) ((term_keeps t).visit view 1 m s sound)
    (λ a is here w. record {
      sound = told_sound t view.rows (status_in d.memory) d.memory d.state refl here;
      within = within_same 1 (meaning t).size d.state;
      ends = let kept : status_in (remembered (settled (status_in d.memory)) (out-Memory d.memory).memo (out-Memory d.memory).children) ≡ settled (status_in d.memory) = status_kept _ _ _ in
          ap settled kept ∙ settled_fits (status_in d.memory) ∙ sym kept;
    })
    (λ f low high here w. here)

pub root_reset_leaves : (tree : Tree) (view : View) (m : Memory) (s : State) → Sound tree.term view.rows None 1 m s → RootLeft tree.term view.rows s (root_reset tree view m s)
root_reset_leaves tree view m s sound =
    let t : Term = tree.term in
    let d : Done (Unit {0}) Memory = (meaning t).reset view 1 m s in
    left_into 1 (meaning t).size 1 (meaning t).size s d.answer d.memory d.memory d.state (omega arith) (omega arith) ((term_keeps t).reset view 1 m s sound)
    (λ f here w. here)
    (λ _ is here w. ap settled is ∙ sym is)

-- ---- One runner

-- what holds between events stays where the instances are held since the times since which they were, and no time goes
-- back
steady_since : (t : Term) (rows : List Row) (m : Memory) (s s1 : State) → ((p : ℕ) → since_in s1.instances p ≡ since_in s.instances p) → length s1.instances ≡ length s.instances → s.moment ≤ s1.moment →
    Steady t rows m s → Steady t rows m s1
steady_since t rows m s s1 same many later steady = record {
  sound = (term_keeps t).moves rows None 1 m s s1 steady.sound (λ p a b. held_by_since s1.instances s.instances p (same p)) later;
  root = steady.root;
  room = omega (arith, many, steady.room);
  dated = λ p since e. omega (arith, later, steady.dated p since (sym (same p) ∙ e));
}

-- .. and so where the instances stay
pub steady_moves : (t : Term) (rows : List Row) (m : Memory) (s s1 : State) → s1.instances ≡ s.instances → s.moment ≤ s1.moment → Steady t rows m s → Steady t rows m s1
steady_moves t rows m s s1 same later steady =
    steady_since t rows m s s1 (λ p. ap (λ (xs : List Instance). since_in xs p) same) (ap (λ (xs : List Instance). length xs) same) later steady

-- ---- A run

-- a quench makes what holds between events, where each runner has an instance for each uid
pub quench_run_steady : (tree : Tree) (rows : List Row) (run : RunState) → ((k : ℕ) (r : Runner) → slice_get run.runners k ≡ Some r → 1 + (meaning tree.term).size ≤ length r.instances) → RunSteady tree.term rows (quenched tree run)
quench_run_steady tree rows run room k r is =
    mapped_entry (λ (x : Runner). Steady tree.term rows x.memory (state_of x run.facts run.last)) (quenched_runner tree) run.runners k r
    (λ x here. quench_steady tree rows x run.facts run.last (room k x here)) is

module _ (tree : Tree) (rows : List Row) (run : RunState) (steady : RunSteady tree.term rows run) (at : ℕ) (ahead : run.last ≤ at) where
  abbrev t : Term
  t = tree.term

  -- a runner at a later moment
  runner_later : (k : ℕ) (r : Runner) (facts : List ℤ) → slice_get run.runners k ≡ Some r → Steady t rows r.memory (state_of r facts at)
  runner_later k r facts is = steady_moves t rows r.memory (state_of r run.facts run.last) (state_of r facts at) refl ahead (steady k r is)

  pub later_steady : (facts : List ℤ) → RunSteady t rows (record { runners = run.runners; facts = facts; last = at })
  later_steady facts k r is = runner_later k r facts is

  module _ {A : Type 0} (header : Header) (runner : ℕ) (acting : Runner) (is_acting : runner_at run runner ≡ Some acting) (d : Done A Memory) where
    abbrev after : RunState
    after = with_runner run runner at d

    abbrev acted : Runner
    acted = record { memory = d.memory; board = d.state.board; instances = d.state.instances }

    told_steady : (answer : Result A NodeFault) →
        Left (λ f m1 s1. Sound t rows f 1 m1 s1) (λ _ m1 s1. RootFits m1) 1 (meaning t).size (state_of acting run.facts at) answer d.memory d.state →
        RunSteady t rows (told answer header tree runner d.notes d.calls run after).state
    told_steady (Ok a) left =
        let before : Steady t rows acting.memory (state_of acting run.facts at) = runner_later (runner - 1) acting run.facts is_acting in
        let here : Steady t rows acted.memory (state_of acted d.state.facts at) =
        steady_moves t rows d.memory d.state (state_of acted d.state.facts at) refl (omega (arith, left.within.moment))
        (record { sound = left.sound; root = left.ends; room = omega (arith, left.within.instances, before.room); dated = left.within.dated before.dated })
        in
        λ k r is. set_entry (λ (x : Runner). Steady t rows x.memory (state_of x d.state.facts at)) run.runners (runner - 1) k acted r here (λ x old. runner_later k x d.state.facts old) is
    told_steady (Err f) left =
        quench_run_steady tree rows after
        (λ k r is. set_entry (λ (x : Runner). 1 + (meaning t).size ≤ length x.instances) run.runners (runner - 1) k acted r (omega (arith, left.within.instances, (steady (runner - 1) acting is_acting).room)) (λ x old. (steady k x old).room) is)

    runner_steady : RootLeft t rows (state_of acting run.facts at) d → RunSteady t rows (runner_step header tree runner at run d).state
    runner_steady left = told_steady d.answer left

module _ (tree : Tree) (world : World) (run : RunState) (steady : RunSteady tree.term world.rows run) (at : ℕ) (ahead : run.last ≤ at) where
  tick_steady : (runner : ℕ) (o : Option Runner) → runner_at run runner ≡ o → RunSteady tree.term world.rows (tick_step o tree world runner at run).state
  tick_steady runner None is = later_steady tree world.rows run steady at ahead run.facts
  tick_steady runner (Some r) is =
      runner_steady tree world.rows run steady at ahead (header.Tick runner at) runner r is (ticked tree (root_view tree world) runner r.memory (state_of r run.facts at))
      (ticked_leaves tree (root_view tree world) runner r.memory (state_of r run.facts at) (runner_later tree world.rows run steady at ahead (runner - 1) r run.facts is).sound)

  pub reset_steady : (h : Header) (runner : ℕ) (o : Option Runner) → runner_at run runner ≡ o → RunSteady tree.term world.rows (reset_step o h tree world runner at run).state
  reset_steady h runner None is = later_steady tree world.rows run steady at ahead run.facts
  reset_steady h runner (Some r) is =
      runner_steady tree world.rows run steady at ahead h runner r is (root_reset tree (root_view tree world) r.memory (state_of r run.facts at))
      (root_reset_leaves tree (root_view tree world) r.memory (state_of r run.facts at) (runner_later tree world.rows run steady at ahead (runner - 1) r run.facts is).sound)

  -- a leaf that is told something is held as it was
  tell_steady : (runner uid : ℕ) (telling : Telling) (o : Option Runner) → runner_at run runner ≡ o → RunSteady tree.term world.rows (tell_step o runner uid telling at run).state
  tell_steady runner uid telling None is = later_steady tree world.rows run steady at ahead run.facts
  tell_steady runner uid telling (Some r) is =
      let c : Call = tell_call uid telling (slice_index_or r.instances uid fresh) in
      let here : Steady tree.term world.rows r.memory (state_of (called r c) run.facts at) =
      steady_since tree.term world.rows r.memory (state_of r run.facts at) (state_of (called r c) run.facts at) (λ p. told_since r.instances uid p telling) (length-set r.instances uid c.left) (omega arith)
      (runner_later tree world.rows run steady at ahead (runner - 1) r run.facts is)
      in
      λ k x found. set_entry (λ (y : Runner). Steady tree.term world.rows y.memory (state_of y run.facts at)) run.runners (runner - 1) k (called r c) x here (λ y old. runner_later tree world.rows run steady at ahead k y run.facts old) found

  -- an event
  pub step_steady : (what : What) → RunSteady tree.term world.rows (step_by what tree world at run).state
  step_steady (Tick runner) = tick_steady runner (runner_at run runner) refl
  step_steady (Halt runner) = reset_steady (header.Halt runner at) runner (runner_at run runner) refl
  step_steady (Change fact value) = later_steady tree world.rows run steady at ahead (slice_set run.facts fact value)
  step_steady (Tell runner uid telling) = tell_steady runner uid telling (runner_at run runner) refl

-- the finish of a runner
pub finish_steady : (tree : Tree) (world : World) (runner : ℕ) (run : RunState) → RunSteady tree.term world.rows run → RunSteady tree.term world.rows (finish tree world runner run).state
finish_steady tree world runner run steady = reset_steady tree world run steady run.last (omega arith) (header.Finish runner run.last) runner (runner_at run runner) refl
