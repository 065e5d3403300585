-- The notes of each event, and of the finish of each runner, say which leaves are held after it; a finish frees its runner's.
use Rattle.std.proofs.Common.{◌≡◌, ◌⊎◌, ⊎_elim, ℕ, ◌+◌, ◌-◌, ◌<◌, ◌≤◌, length, nat_eq, cond, Bool, slice_get, slice_index_or, slice_set, Option, Some, None, refl, sym, ap, ◌∙◌, arith}
use Rattle.std.proofs.lemmas.List.{length-set}
use Rattle.base_tables.specs.Sound.{RunSteady, Steady, Within}
use Rattle.run_laws.proofs.Events.{later_steady, root_reset_leaves, ticked_leaves}
use Rattle.run_laws.proofs.Instances.{held_by_since, told_since}
use Rattle.run_laws.proofs.ReadNotes.{reset_reads, tick_reads}
use Rattle.spec_run.specs.declared.block.Header.{Header}
use Rattle.spec_run.specs.declared.block.Header.TheVariants as header
use Rattle.spec_run.specs.declared.memory.Memory.{Memory}
use Rattle.spec_run.specs.declared.status.Answer.{Answer}
use Rattle.spec_run.specs.Done.{Call, Done, State}
use Rattle.spec_run.specs.Leaf.{fresh}
use Rattle.spec_run.specs.Run.{RunState, Runner, called, finish, reset_step, root_reset, root_view, runner_at, state_of, step_by, tell_call, tell_step, tick_step, ticked}
use Rattle.spec_run.specs.Sites.{View}
use Rattle.spec_serve.specs.Inputs.{runner_of}
use Rattle.spec_tree.specs.declared.term.Tree.{Tree}
use Rattle.spec_world.specs.declared.world.Telling.{Telling}
use Rattle.spec_world.specs.declared.world.What.{What}
use Rattle.spec_world.specs.declared.world.What.TheVariants.{Tick, Halt, Change, Tell}
use Rattle.spec_world.specs.declared.world.World.{World}
use Rattle.tree_exclusive.specs.Runs.{NamesRunner}
use Rattle.tree_exclusive.proofs.Held.{follows_leaf, held, there}
use Rattle.tree_exclusive.proofs.HeldSteps.{Tells, idle_tells, own_runner, set_runner, told_tells}

-- the instances of other nodes stay
pub stays : {uid size : ℕ} {s0 s1 : State} → Within uid size s0 s1 → (p : ℕ) → (p < uid) ⊎ (uid + size ≤ p) → slice_get s1.instances p ≡ slice_get s0.instances p
stays w p out = ⊎_elim (λ low. w.below p low) (λ high. w.above p high) out

module _ (tree : Tree) (world : World) (s : RunState) (steady : RunSteady tree.term world.rows s) (at : ℕ) (ahead : s.last ≤ at) where
  abbrev view : View
  view = root_view tree world

  pub now : (by : ℕ) (x : Runner) → runner_at s by ≡ Some x → Steady tree.term world.rows x.memory (state_of x s.facts at)
  now by x is = later_steady tree world.rows s steady at ahead s.facts (by - 1) x is

  tick_tells : (o : Option Runner) (by : ℕ) → 1 ≤ by → runner_at s by ≡ o → Tells tree s (tick_step o tree world by at s)
  tick_tells None by named is = idle_tells tree s _ refl refl refl
  tick_tells (Some x) by named is =
      let s0 : State = state_of x s.facts at in
      let d : Done Answer Memory = ticked tree view by x.memory s0 in
      told_tells tree s (header.Tick by at) by at named refl x is d
      (λ runner uid other. (tick_reads (follows_leaf runner uid by (length x.instances) other) tree view x.memory s0 (now by x is).room refl by).notes)
      (stays (ticked_leaves tree view by x.memory s0 (now by x is).sound).within) d.answer

  reset_tells : (h : Header) (o : Option Runner) (by : ℕ) → 1 ≤ by → runner_of h ≡ by → runner_at s by ≡ o → Tells tree s (reset_step o h tree world by at s)
  reset_tells h None by named of is = idle_tells tree s _ refl refl refl
  reset_tells h (Some x) by named of is =
      let s0 : State = state_of x s.facts at in
      let d : Done (Unit {0}) Memory = root_reset tree view x.memory s0 in
      told_tells tree s h by at named of x is d
      (λ runner uid other. (reset_reads (follows_leaf runner uid by (length x.instances) other) tree view x.memory s0 (now by x is).room refl).notes)
      (stays (root_reset_leaves tree view x.memory s0 (now by x is).sound).within) d.answer

  -- a leaf that is told something is held as it was
  tell_tells : (o : Option Runner) (by uid : ℕ) (telling : Telling) → 1 ≤ by → runner_at s by ≡ o → Tells tree s (tell_step o by uid telling at s)
  tell_tells None by uid telling named is = idle_tells tree s _ refl refl refl
  tell_tells (Some x) by uid telling named is = record {
    reads = λ runner p. sym (same runner p);
    inside = λ inside runner p out. same runner p ∙ inside runner p out;
    many = length-set s.runners (by - 1) (called x c);
    faulted = λ f e. cc;
  } where
    c : Call
    c = tell_call uid telling (slice_index_or x.instances uid fresh)

    same : (runner p : ℕ) → held (slice_set s.runners (by - 1) (called x c)) runner p ≡ held s.runners runner p
    same runner p =
        set_runner s.runners x by named is (called x c) runner p
        ∙ ap (λ (o : Option Bool). cond (nat_eq runner by) (there o) (held s.runners runner p)) (held_by_since (slice_set x.instances uid c.left) x.instances p (told_since x.instances uid p telling))
        ∙ sym (own_runner s.runners x by named is runner p)

  pub step_tells : (what : What) → NamesRunner what → Tells tree s (step_by what tree world at s)
  step_tells (Tick runner) named = tick_tells (runner_at s runner) runner named refl
  step_tells (Halt runner) named = reset_tells (header.Halt runner at) (runner_at s runner) runner named refl refl
  step_tells (Change fact value) named = idle_tells tree s _ refl refl refl
  step_tells (Tell runner uid telling) named = tell_tells (runner_at s runner) runner uid telling named refl

-- ---- A finish

module _ (tree : Tree) (world : World) (s : RunState) (steady : RunSteady tree.term world.rows s) where
  pub finish_tells : (runner : ℕ) → 1 ≤ runner → Tells tree s (finish tree world runner s)
  finish_tells runner named = reset_tells tree world s steady s.last (omega arith) (header.Finish runner s.last) (runner_at s runner) runner named refl refl
