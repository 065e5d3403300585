-- Finished runners rest, and where all rest nothing is held.
use Rattle.std.proofs.Common.{◌≡◌, inl, inr, ℕ, ◌+◌, ◌-◌, ◌≤◌, List, Option, Some, None, Result, Ok, Err, OnErr, Bool, true, false, length, slice_get, refl, sym, ap, subst, ◌∙◌, arith}
use Rattle.std.proofs.lemmas.List.{length-map}
use Rattle.base_texts.specs.declared.stop.Stop.{Stop}
use Rattle.spec_run.specs.declared.block.Header.TheVariants as header
use Rattle.spec_run.specs.declared.fault.NodeFault.{NodeFault}
use Rattle.spec_run.specs.declared.fault.RunFault.{RunFault}
use Rattle.spec_run.specs.declared.memory.Memory.{Memory, out-Memory}
use Rattle.spec_run.specs.declared.status.Status.TheVariants as status
use Rattle.spec_tree.specs.declared.term.Tree.{Tree}
use Rattle.spec_world.specs.declared.world.World.{World}
use Rattle.spec_run.specs.Done.{Done}
use Rattle.spec_run.specs.Drivers.{DriverState, NothingHeld}
use Rattle.spec_run.specs.Run.{RunState, Runner, Stepped, finish, reset_step, root_reset, root_view, runner_at, state_of, told, with_runner}
use Rattle.base_tables.specs.Shapes.{is_running}
use Rattle.base_tables.specs.Sound.{EndsWith, RunSteady}
use Rattle.spec_run.specs.Visit.{meaning}
use Rattle.run_laws.proofs.Keeping.{term_keeps}
use Rattle.run_arena.specs.declared.block.Block.{Block}
use Rattle.run_loop.specs.declared.runs.ReadyRunner.{ReadyRunner}
use Rattle.run_loop.specs.declared.runs.Runs.{Runs}
use Rattle.run_loop.specs.Runs.{AreRuns, arenas_of, runner_in, state_of_runs}
use Rattle.spec_run.specs.Served.{Setup}
use Rattle.run_loop.specs.Steps.{EventEnds}
use Rattle.run_loop.proofs.Lists.{set_is, within}
use Rattle.run_loop.proofs.Resting.{resting_hold_nothing}
use Rattle.text_trace.specs.Going.{AreAtRest, Stand}
use Rattle.text_trace.specs.Traces.{state_in}

module _ (tree : Tree) (world : World) (runner : ℕ) (s : RunState) (steady : RunSteady tree.term world.rows s) (before : AreAtRest (runner - 1) s) where
  abbrev Ends : Result (Unit {0}) NodeFault → Done (Unit {0}) Memory → Type 0
  Ends answer d = EndsWith (λ (x : Unit {0}) m1 s1. (out-Memory m1).status ≡ status.Idle) 1 (meaning tree.term).size answer d.memory d.state

  told_rests : (answer : Result (Unit {0}) NodeFault) (d : Done (Unit {0}) Memory) → Ends answer d →
      (told answer (header.Finish runner s.last) tree runner d.notes d.calls s (with_runner s runner s.last d)).fault ≡ None →
      AreAtRest runner (told answer (header.Finish runner s.last) tree runner d.notes d.calls s (with_runner s runner s.last d)).state
  told_rests (Ok x) d ends none = λ k r low at. elim (set_is s.runners (runner - 1) _ k r at) [
    | inl here ↦ ap (λ (y : Runner). is_running (out-Memory y.memory).status) (sym here.1) ∙ ap is_running ends
    | inr there ↦ before k r (let apart : k ≡ runner - 1 → ⊥ = there.0 in grind arith) there.1
  ]
  told_rests (Err f) d ends none = cc

  rests_by : (o : Option Runner) → runner_at s runner ≡ o → (reset_step o (header.Finish runner s.last) tree world runner s.last s).fault ≡ None → AreAtRest runner (reset_step o (header.Finish runner s.last) tree world runner s.last s).state
  rests_by None is none = λ k r low at. before k r (let gone : k ≡ runner - 1 → ⊥ = λ e. (let w : Some r ≡ None = sym at ∙ ap (slice_get s.runners) e ∙ is in cc) in grind arith) at
  rests_by (Some r) is none =
      let m = r.memory in
      let d = root_reset tree (root_view tree world) m (state_of r s.facts s.last) in
      told_rests d.answer d ((term_keeps tree.term).reset (root_view tree world) 1 m (state_of r s.facts s.last) (steady (runner - 1) r is).sound).ends none

  -- a runner that was finished rests
  pub finish_rests : (finish tree world runner s).fault ≡ None → AreAtRest runner (finish tree world runner s).state
  finish_rests none = rests_by (runner_at s runner) refl none

-- where all runners rest, nothing is held
pub rest_holds_nothing : (tree : Tree) (world : World) (drivers : List DriverState) (runs : Runs) → AreRuns tree world drivers runs → (many : ℕ) → length runs.runners.items ≤ many → AreAtRest many (state_of_runs tree.term drivers runs) → NothingHeld drivers
rest_holds_nothing tree world drivers runs are many all rest =
    resting_hold_nothing tree world drivers runs are
    (λ k r at. rest k r (omega (arith, all, within (state_of_runs tree.term drivers runs).runners k r at, length-map runs.runners.items (runner_in tree.term drivers))) at)

-- after a finish of these runs that ended in no fault
pub rests_after : (tree : Tree) (world : World) (runner : ℕ) (runs : Runs) {before : List DriverState} → AreRuns tree world before runs → AreAtRest (runner - 1) (state_of_runs tree.term before runs) →
    (made : Result (Unit {0}) (Stop RunFault)) (new : Runs) (block : Block) (after : List DriverState) (d : Stepped) → d ≡ finish tree world runner (state_of_runs tree.term before runs) → made ≡ Ok tt →
    EventEnds made tree.term before after new block d → AreAtRest runner (state_of_runs tree.term after new)
rests_after tree world runner runs {before} are rest (Ok done) new block after d is whole ends =
    subst (AreAtRest runner) (ap (λ (x : Stepped). x.state) (sym is) ∙ sym ends.1.state)
    (finish_rests tree world runner (state_of_runs tree.term before runs) are.steady rest (ap (λ (x : Stepped). x.fault) (sym is) ∙ ends.0))
rests_after tree world runner runs are rest (Err e) new block after d is whole ends = cc

-- before the first finish
pub none_yet : (tree : Tree) (drivers : List DriverState) (runs : Runs) → AreAtRest 0 (state_of_runs tree.term drivers runs)
none_yet tree drivers runs = λ k r low at. absurd (omega (arith, low))

-- .. and after the finish of the next one
pub next_rests : (tree : Tree) (place : ℕ) (d0 d1 : List DriverState) (old new : Runs) → (AreAtRest (place + 1 - 1) (state_of_runs tree.term d0 old) → AreAtRest (place + 1) (state_of_runs tree.term d1 new)) →
    AreAtRest place (state_of_runs tree.term d0 old) → AreAtRest (place + 1) (state_of_runs tree.term d1 new)
next_rests tree place d0 d1 old new rests rest = rests (let same : place ≡ place + 1 - 1 = omega arith in subst (λ (n : ℕ). AreAtRest n (state_of_runs tree.term d0 old)) same rest)

-- where all have rested that can go on, nothing is held
pub rest_or_stopped : (of : Setup) (drivers : List DriverState) (runs : Runs) (many : ℕ) → Stand of drivers runs → (runs.usable ≡ true → AreAtRest many (state_in of drivers runs)) → length runs.runners.items ≤ many → NothingHeld drivers
rest_or_stopped of drivers runs many stand rest all = by runs.usable refl where
  by : (usable : Bool) → runs.usable ≡ usable → NothingHeld drivers
  by true is = rest_holds_nothing of.tree of.world drivers runs (stand.on is) many all (rest is)
  by false is = stand.off is

-- runs of the same arenas have as many runners
pub same_many : (old new : Runs) → arenas_of new ≡ arenas_of old → length new.runners.items ≡ length old.runners.items
same_many old new same =
    sym (length-map new.runners.items (λ (x : ReadyRunner). x.arena.nodes.items)) ∙ ap length same ∙ length-map old.runners.items (λ (x : ReadyRunner). x.arena.nodes.items)

-- runs that can go on have not stopped
pub not_stopped : (made : Result (Unit {0}) (Stop RunFault)) (runs : Runs) → OnErr made (runs.usable ≡ false) → runs.usable ≡ true → made ≡ Ok tt
not_stopped (Ok done) runs off on = refl
not_stopped (Err e) runs off on = absurd (let w : true ≡ false = sym on ∙ off in cc)
