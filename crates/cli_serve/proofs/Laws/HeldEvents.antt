-- Which events are taken; and that the finish of each runner frees its leaves.
use Rattle.std.proofs.Common.{◌≡◌, ◌⊎◌, inl, inr, ⊎_elim, ℕ, ◌+◌, ◌-◌, ◌<◌, ◌≤◌, List, [], ◌∷◌, length, nat_eq, cond, Bool, false, slice_get, slice_index_or, slice_set, is_some, option_map, zero, suc, Option, Some, None, Result, Ok, Err, refl, sym, ap, ◌∙◌, arith}
use Rattle.std.proofs.lemmas.Bool.{cases_lt, eq-eqb, ne_eqb}
use Rattle.std.proofs.lemmas.List.{length-set}
use Rattle.base_tables.specs.Shapes.{is_running}
use Rattle.base_tables.specs.Sound.{Left, RunSteady, Sound, Steady, Within}
use Rattle.run_laws.proofs.Children.{status_in}
use Rattle.run_laws.proofs.Events.{later_steady, root_reset_leaves, ticked_leaves}
use Rattle.run_laws.proofs.Instances.{held_by_since, told_since}
use Rattle.run_laws.proofs.Keeping.{term_keeps}
use Rattle.run_laws.proofs.Quiet.{rests_hold_nothing}
use Rattle.run_laws.proofs.ReadNotes.{reset_reads, tick_reads}
use Rattle.spec_run.specs.declared.block.Header.{Header}
use Rattle.spec_run.specs.declared.block.Header.TheVariants as header
use Rattle.spec_run.specs.declared.fault.NodeFault.{NodeFault}
use Rattle.spec_run.specs.declared.leaf.Instance.{Instance}
use Rattle.spec_run.specs.declared.memory.Memory.{Memory}
use Rattle.spec_run.specs.declared.status.Answer.{Answer}
use Rattle.spec_run.specs.declared.status.Status.TheVariants.{Idle}
use Rattle.spec_run.specs.Done.{Call, Done, State}
use Rattle.spec_run.specs.Leaf.{fresh}
use Rattle.spec_run.specs.Run.{RunState, Runner, called, finish, reset_step, root_reset, root_view, runner_at, state_of, step_by, tell_call, tell_step, tick_step, ticked, told, with_runner}
use Rattle.spec_run.specs.Sites.{View}
use Rattle.spec_run.specs.Visit.{meaning}
use Rattle.spec_serve.specs.Inputs.{runner_of}
use Rattle.spec_tree.specs.declared.term.Tree.{Tree}
use Rattle.spec_world.specs.declared.world.Event.{Event}
use Rattle.spec_world.specs.declared.world.Telling.{Telling}
use Rattle.spec_world.specs.declared.world.What.{What}
use Rattle.spec_world.specs.declared.world.What.TheVariants.{Tick, Halt, Change, Tell}
use Rattle.spec_world.specs.declared.world.World.{World}
use Rattle.tree_exclusive.specs.Runs.{NamesRunner}
use Rattle.tree_exclusive.proofs.Held.{held, held_among, held_by, there}
use Rattle.tree_exclusive.proofs.HeldEvents.{now, stays}
use Rattle.tree_exclusive.proofs.HeldSteps.{HoldsInside, held_here, set_runner}

-- these events are in order, none comes before this moment, and each that is of a runner names one
abbrev pub AreTaken : ℕ → List Event → Type 0
AreTaken last [] = Unit {0}
AreTaken last (e ∷ events) = (last ≤ e.at) × NamesRunner e.what × AreTaken e.at events

-- no leaf of the runners before this one is held
abbrev pub FreeBelow : ℕ → List Runner → Type 0
FreeBelow first rs = (runner uid : ℕ) → runner < first → held rs runner uid ≡ false

module _ (tree : Tree) (world : World) (s : RunState) (steady : RunSteady tree.term world.rows s) where
  module _ (inside : HoldsInside tree s.runners) (first : ℕ) (named : 1 ≤ first) (free : FreeBelow first s.runners) where
    abbrev h : Header
    h = header.Finish first s.last

    -- a runner that is not there holds nothing
    none_here : (by : ℕ) → slice_get s.runners (by - 1) ≡ None → (uid : ℕ) → held s.runners by uid ≡ false
    none_here zero none uid = refl
    none_here (suc place) none uid =
        let at : suc place - 1 ≡ place = omega arith in
        ap (λ (o : Option Runner). held_by o uid) (ap (slice_get s.runners) (sym at) ∙ none)

    -- the leaves of the runner that was finished, and of those before it
    up_to : (rs : List Runner) → ((uid : ℕ) → held rs first uid ≡ false) → ((runner uid : ℕ) → runner < first → held rs runner uid ≡ false) → FreeBelow (first + 1) rs
    up_to rs here before runner uid below = ⊎_elim
        (λ low. before runner uid low)
        (λ high. let same : runner ≡ first = omega (arith, below, high) in ap (λ (n : ℕ). held rs n uid) same ∙ here uid)
        (cases_lt runner first)

    module _ (x : Runner) (is : runner_at s first ≡ Some x) (d : Done (Unit {0}) Memory) where
      abbrev after : RunState
      after = with_runner s first s.last d

      abbrev acted : Runner
      acted = record { memory = d.memory; board = d.state.board; instances = d.state.instances }

      abbrev LeftAs : Result (Unit {0}) NodeFault → Type 0
      LeftAs answer = Left (λ f m1 s1. Sound tree.term world.rows f 1 m1 s1) (λ _ m1 s1. status_in m1 ≡ Idle) 1 (meaning tree.term).size (state_of x s.facts s.last) answer d.memory d.state

      outside_free : {answer : Result (Unit {0}) NodeFault} → LeftAs answer → (uid : ℕ) → (uid < 1) ⊎ (1 + (meaning tree.term).size ≤ uid) → held_among d.state.instances uid ≡ false
      outside_free left uid out =
          ap (λ (o : Option Instance). there (option_map (λ (i : Instance). is_some i.since) o)) (stays left.within uid out)
          ∙ sym (held_here s.runners x first named is uid)
          ∙ inside first uid out

      here_free : LeftAs (Ok tt) → (uid : ℕ) → held_among d.state.instances uid ≡ false
      here_free left uid = ⊎_elim
          (λ low. outside_free left uid (inl low))
          (λ from. ⊎_elim
          (λ below. ap there (rests_hold_nothing tree.term world.rows 1 d.memory d.state left.sound (ap is_running left.ends) uid from below))
          (λ past. outside_free left uid (inr past))
          (cases_lt uid (1 + (meaning tree.term).size)))
          (cases_lt uid 1)

      told_frees : (answer : Result (Unit {0}) NodeFault) → LeftAs answer →
          (told answer h tree first d.notes d.calls s after).fault ≡ None → FreeBelow (first + 1) (told answer h tree first d.notes d.calls s after).state.runners
      told_frees (Err f) left none = cc
      told_frees (Ok a) left none = up_to after.runners
          (λ uid. set_runner s.runners x first named is acted first uid
          ∙ ap (λ b. cond b (held_among d.state.instances uid) (held s.runners first uid)) (eq-eqb first first refl)
          ∙ here_free left uid)
          (λ runner uid below. set_runner s.runners x first named is acted runner uid
          ∙ ap (λ b. cond b (held_among d.state.instances uid) (held s.runners runner uid)) (ne_eqb runner first (λ same. omega (arith, below, same)))
          ∙ free runner uid below)

    finish_by : (o : Option Runner) → runner_at s first ≡ o → (reset_step o h tree world first s.last s).fault ≡ None → FreeBelow (first + 1) (reset_step o h tree world first s.last s).state.runners
    finish_by None is none = up_to s.runners (none_here first is) free
    finish_by (Some x) is none =
        let s0 : State = state_of x s.facts s.last in
        let d : Done (Unit {0}) Memory = root_reset tree (root_view tree world) x.memory s0 in
        told_frees x is d d.answer ((term_keeps tree.term).reset (root_view tree world) 1 x.memory s0 (now tree world s steady s.last (omega arith) first x is).sound) none

    pub finish_frees : (finish tree world first s).fault ≡ None → FreeBelow (first + 1) (finish tree world first s).state.runners
    finish_frees none = finish_by (runner_at s first) refl none
