-- Each event, and so each run, names no dead node, and leaves the dead nodes IDLE.
use Rattle.std.proofs.Common.{◌≡◌, ℕ, ℤ, zero, suc, ◌+◌, ◌-◌, List, [], ◌∷◌, map, replicate, Bool, true, false, is_some, option_map, slice_get, slice_index_or, slice_set, Option, Some, None, Result, Ok, Err, refl, sym, ap, ◌∙◌, arith}
use Rattle.std.specs.List.{AllByRecursion}
use Rattle.std.proofs.lemmas.Bool.{cond_both}
use Rattle.spec_run.specs.declared.block.Block.{Block}
use Rattle.spec_run.specs.declared.block.Header.{Header}
use Rattle.spec_run.specs.declared.block.Header.TheVariants as header
use Rattle.spec_run.specs.declared.fault.NodeFault.{NodeFault}
use Rattle.spec_run.specs.declared.fault.RunFault.{RunFault}
use Rattle.spec_run.specs.declared.leaf.Instance.{Instance}
use Rattle.spec_run.specs.declared.leaf.Phase.TheVariants as phase
use Rattle.spec_run.specs.declared.memory.Memory.{Memory, out-Memory}
use Rattle.spec_run.specs.declared.note.Note.TheVariants.{Root, Faulted}
use Rattle.spec_run.specs.declared.status.Answer.{Answer}
use Rattle.spec_tree.specs.declared.term.Tree.{Tree}
use Rattle.spec_world.specs.declared.world.Event.{Event}
use Rattle.spec_world.specs.declared.world.Telling.{Telling}
use Rattle.spec_world.specs.declared.world.What.{What}
use Rattle.spec_world.specs.declared.world.What.TheVariants.{Tick, Halt, Change, Tell}
use Rattle.spec_world.specs.declared.world.World.{World}
use Rattle.spec_run.specs.Done.{Call, Done, State, done}
use Rattle.spec_run.specs.Leaf.{fresh, let_go, released}
use Rattle.spec_run.specs.Run.{RunState, Runner, Stepped, Trace, before_rest, called, finish, finishes, fresh_runner, releases, opening, quench_notes, quenched, quenched_notes, quenched_runner, reset_step, root_reset, root_told, root_view, run_from, run_over, runner_at, settled, state_of, step, step_by, tell_call, tell_step, tick_step, ticked, told, with_runner}
use Rattle.spec_run.specs.Sites.{View, remembered}
use Rattle.spec_run.specs.Visit.{change, idle, meaning}
use Rattle.run_laws.proofs.Entries.{equal_entry, mapped_entry, set_entry}
use Rattle.run_laws.proofs.Instances.{held_by_since, told_since}
use Rattle.spec_dead.specs.Dead.{outlook}
use Rattle.tree_dead.specs.Runs.{states_from}
use Rattle.tree_dead.proofs.Fits.{Stands}
use Rattle.tree_dead.proofs.Keeping.{term_keeps}
use Rattle.tree_dead.proofs.Parts.{AllLive, Leaves, Left, Lives, after_left, follow_left, live_both, nothing_left}
use Rattle.tree_dead.proofs.Sets.{Has}
use Rattle.tree_dead.proofs.Visits.{change_live}

-- ---- Instances

-- whether an instance is held
abbrev held_in : List Instance → ℕ → Option Bool
held_in instances p = option_map (λ (i : Instance). is_some i.since) (slice_get instances p)

gone_free : (instances : List Instance) (p : ℕ) → held_in (map let_go instances) p ≡ Some true → ⊥
gone_free [] p e = cc
gone_free (i ∷ instances) zero e = cc
gone_free (i ∷ instances) (suc p) e = gone_free instances p e

fresh_free : (n p : ℕ) → held_in (replicate n fresh) p ≡ Some true → ⊥
fresh_free zero p e = cc
fresh_free (suc n) zero e = cc
fresh_free (suc n) (suc p) e = fresh_free n p e

module _ (is_dead : ℕ → Bool) where
  -- no instance of a dead node is held, of instances of which the first has this uid
  abbrev pub NoneHeld : ℕ → List Instance → Type 0
  NoneHeld uid instances = (p : ℕ) → is_dead (uid + p) ≡ true → held_in instances p ≡ Some true → ⊥

  none_later : (uid : ℕ) (i : Instance) (instances : List Instance) → NoneHeld uid (i ∷ instances) → NoneHeld (uid + 1) instances
  none_later uid i instances none = λ p dead held. let there : uid + 1 + p ≡ uid + suc p = omega arith in none (suc p) (ap is_dead (sym there) ∙ dead) held

  first_lives : (uid : ℕ) (i : Instance) (instances : List Instance) → NoneHeld uid (i ∷ instances) → is_some i.since ≡ true → Lives is_dead uid
  first_lives uid i instances none held = by (is_dead uid) refl
    where
      here : uid + 0 ≡ uid
      here = omega arith

      by : (b : Bool) → is_dead uid ≡ b → is_dead uid ≡ false
      by false e = e
      by true e = absurd (none 0 (ap is_dead here ∙ e) (ap Some held))

  -- the notes of a quench
  releases_live : (runner uid : ℕ) (instances : List Instance) → NoneHeld uid instances → AllLive is_dead (quenched_notes runner (releases uid instances))
  releases_live runner uid [] none = tt
  releases_live runner uid (i ∷ instances) none =
      let rest : AllLive is_dead (quenched_notes runner (releases (uid + 1) instances)) = releases_live runner (uid + 1) instances (none_later uid i instances none) in
      cond_both (is_some i.since) (record { uid = uid; phase = phase.Halted; left = released i } ∷ releases (uid + 1) instances) (releases (uid + 1) instances) (λ (calls : List Call). AllLive is_dead (quenched_notes runner calls))
      (λ held. (first_lives uid i instances none held, rest))
      (λ _. rest)

  quench_live : (runner : ℕ) (runners : List Runner) → ((k : ℕ) (r : Runner) → slice_get runners k ≡ Some r → NoneHeld 0 r.instances) → AllLive is_dead (quench_notes runner runners)
  quench_live runner [] none = tt
  quench_live runner (r ∷ runners) none =
      live_both is_dead (quenched_notes runner (releases 0 r.instances)) (quench_notes (runner + 1) runners) (releases_live runner 0 r.instances (none 0 r refl)) (quench_live (runner + 1) runners (λ k q is. none (suc k) q is))

  module _ (tree : Tree) (world : World) (opens : Stands is_dead world.rows tree.term true 1 (idle tree.term)) where
    -- what holds of a runner between events
    pub record IsSteady (memory : Memory) (instances : List Instance) : Type 0 where
      pub stands : Stands is_dead world.rows tree.term true 1 memory
      pub free : NoneHeld 0 instances

    abbrev pub AllSteady : RunState → Type 0
    AllSteady s = (k : ℕ) (r : Runner) → slice_get s.runners k ≡ Some r → IsSteady r.memory r.instances

    opening_steady : AllSteady (opening tree world)
    opening_steady k r is = equal_entry (λ (x : Runner). IsSteady x.memory x.instances) world.runners k (fresh_runner tree) r (record { stands = opens; free = λ p dead held. fresh_free _ p held }) is

    quenched_steady : (s : RunState) → AllSteady (quenched tree s)
    quenched_steady s k r is =
        mapped_entry (λ (x : Runner). IsSteady x.memory x.instances) (quenched_runner tree) s.runners k r (λ x here. record { stands = opens; free = λ p dead held. gone_free x.instances p held }) is

    -- ---- One runner

    abbrev view : View
    view = root_view tree world

    ticked_left : (runner : ℕ) (m : Memory) (s : State) → Stands is_dead world.rows tree.term true 1 m → Leaves is_dead (λ _ m1. Stands is_dead world.rows tree.term true 1 m1) s (ticked tree view runner m s)
    ticked_left runner m s stands =
        let d : Done Answer Memory = (meaning tree.term).visit view 1 m s in
        let K = term_keeps is_dead world.rows tree.term in
        follow_left is_dead (λ a m1. Has a (outlook tree.term).answers × Stands is_dead world.rows tree.term true 1 m1) (λ _ m1. Stands is_dead world.rows tree.term true 1 m1) d (λ m1. m1) (λ a m1 s1. root_told runner a m1 s1) s
        (K.visit view refl 1 m s stands)
        (λ a is. after_left is_dead (λ _ m1. Stands is_dead world.rows tree.term true 1 m1) (Root runner a ∷ change 1 (out-Memory d.memory).status (settled (out-Memory d.memory).status)) [] d.state
        (done a (remembered (settled (out-Memory d.memory).status) (out-Memory d.memory).memo (out-Memory d.memory).children) d.state)
        (tt, change_live is_dead 1 (K.lives 1 d.memory is.1) (out-Memory d.memory).status (settled (out-Memory d.memory).status))
        (nothing_left is_dead (λ _ m1. Stands is_dead world.rows tree.term true 1 m1) a (remembered (settled (out-Memory d.memory).status) (out-Memory d.memory).memo (out-Memory d.memory).children) d.state (K.settles 1 d.memory is.1)))

    -- what an event leaves: notes that name no dead node, and a steady state
    pub record GoesWell (first : Stepped) : Type 0 where
      pub live : AllLive is_dead first.block.notes
      pub steady : AllSteady first.state

    module _ (run : RunState) (steady : AllSteady run) (at : ℕ) where
      same_runners : (facts : List ℤ) → AllSteady (record { runners = run.runners; facts = facts; last = at })
      same_runners facts k r is = steady k r is

      module _ {A : Type 0} (h : Header) (runner : ℕ) (acting : Runner) (is_acting : runner_at run runner ≡ Some acting) (d : Done A Memory) where
        abbrev after : RunState
        after = with_runner run runner at d

        abbrev acted : Runner
        acted = record { memory = d.memory; board = d.state.board; instances = d.state.instances }

        still_free : (spares : (p : ℕ) → is_dead p ≡ true → slice_get d.state.instances p ≡ slice_get acting.instances p) → NoneHeld 0 d.state.instances
        still_free spares = λ p dead held.
            let here : 0 + p ≡ p = omega arith in
            (steady (runner - 1) acting is_acting).free p dead (ap (λ (o : Option Instance). option_map (λ (i : Instance). is_some i.since) o) (sym (spares p (ap is_dead (sym here) ∙ dead))) ∙ held)

        told_well : (answer : Result A NodeFault) → Left is_dead (λ _ m1. Stands is_dead world.rows tree.term true 1 m1) (state_of acting run.facts at) answer d.memory d.state d.notes → GoesWell (told answer h tree runner d.notes d.calls run after)
        told_well (Ok a) left = record {
          live = left.live;
          steady = λ k r is. set_entry (λ (x : Runner). IsSteady x.memory x.instances) run.runners (runner - 1) k acted r (record { stands = left.ends; free = still_free left.spares }) (λ x old. steady k x old) is;
        }
        told_well (Err f) left = record {
          live = live_both is_dead d.notes (Faulted runner f.uid f.cause ∷ quench_notes 1 after.runners) left.live
              (left.ends, quench_live 1 after.runners (λ k r is. set_entry (λ (x : Runner). NoneHeld 0 x.instances) run.runners (runner - 1) k acted r (still_free left.spares) (λ x old. (steady k x old).free) is));
          steady = quenched_steady after;
        }

      tick_well : (runner : ℕ) (o : Option Runner) → runner_at run runner ≡ o → GoesWell (tick_step o tree world runner at run)
      tick_well runner None is = record { live = tt; steady = same_runners run.facts }
      tick_well runner (Some r) is =
          let d : Done Answer Memory = ticked tree view runner r.memory (state_of r run.facts at) in
          told_well (header.Tick runner at) runner r is d d.answer (ticked_left runner r.memory (state_of r run.facts at) (steady (runner - 1) r is).stands)

      reset_well : (h : Header) (runner : ℕ) (o : Option Runner) → runner_at run runner ≡ o → GoesWell (reset_step o h tree world runner at run)
      reset_well h runner None is = record { live = tt; steady = same_runners run.facts }
      reset_well h runner (Some r) is =
          let d : Done (Unit {0}) Memory = root_reset tree view r.memory (state_of r run.facts at) in
          told_well h runner r is d d.answer ((term_keeps is_dead world.rows tree.term).reset view refl true 1 r.memory (state_of r run.facts at) (steady (runner - 1) r is).stands)

      -- a leaf that is told something is held as it was
      tell_well : (runner uid : ℕ) (telling : Telling) (o : Option Runner) → runner_at run runner ≡ o → GoesWell (tell_step o runner uid telling at run)
      tell_well runner uid telling None is = record { live = tt; steady = same_runners run.facts }
      tell_well runner uid telling (Some r) is =
          let c : Call = tell_call uid telling (slice_index_or r.instances uid fresh) in
          let before : IsSteady r.memory r.instances = steady (runner - 1) r is in
          let now : IsSteady r.memory (called r c).instances = record {
            stands = before.stands;
            free = λ p dead held. before.free p dead (held_by_since r.instances (called r c).instances p (sym (told_since r.instances uid p telling)) ∙ held);
          } in
          record { live = tt; steady = λ k x found. set_entry (λ (y : Runner). IsSteady y.memory y.instances) run.runners (runner - 1) k (called r c) x now (λ y old. steady k y old) found }

      step_well : (what : What) → GoesWell (step_by what tree world at run)
      step_well (Tick runner) = tick_well runner (runner_at run runner) refl
      step_well (Halt runner) = reset_well (header.Halt runner at) runner (runner_at run runner) refl
      step_well (Change fact value) = record { live = tt; steady = same_runners (slice_set run.facts fact value) }
      step_well (Tell runner uid telling) = tell_well runner uid telling (runner_at run runner) refl

    finish_well : (runner : ℕ) (run : RunState) → AllSteady run → GoesWell (finish tree world runner run)
    finish_well runner run steady = reset_well run steady run.last (header.Finish runner run.last) runner (runner_at run runner) refl

    -- ---- Runs

    -- no note of some blocks names a dead node
    abbrev pub BlocksLive : List Block → Type 0
    BlocksLive [] = Unit {0}
    BlocksLive (block ∷ blocks) = AllLive is_dead block.notes × BlocksLive blocks

    -- a run ends well
    pub record EndsWell (trace : Trace) : Type 0 where
      pub live : BlocksLive trace.blocks
      pub steady : AllSteady trace.state

    rest_well : (fault : Option RunFault) (first : Stepped) (rest : RunState → Trace) → GoesWell first → EndsWell (rest first.state) → EndsWell (before_rest fault first rest)
    rest_well None first rest now later = record { live = (now.live, later.live); steady = later.steady }
    rest_well (Some f) first rest now later = record { live = (now.live, tt); steady = now.steady }

    finishes_well : (others runner : ℕ) (s : RunState) → AllSteady s → EndsWell (finishes tree world runner others s)
    finishes_well zero runner s steady = record { live = tt; steady = steady }
    finishes_well (suc others) runner s steady =
        let first : Stepped = finish tree world runner s in
        let now : GoesWell first = finish_well runner s steady in
        rest_well first.fault first (finishes tree world (runner + 1) others) now (finishes_well others (runner + 1) first.state now.steady)

    run_well : (events : List Event) (s : RunState) → AllSteady s → EndsWell (run_from tree world events s)
    run_well [] s steady = finishes_well world.runners 1 s steady
    run_well (e ∷ events) s steady =
        let first : Stepped = step tree world e s in
        let now : GoesWell first = step_well s steady e.at e.what in
        rest_well first.fault first (run_from tree world events) now (run_well events first.state now.steady)

    pub whole_run_well : (events : List Event) → EndsWell (run_over tree world events)
    whole_run_well events = run_well events (opening tree world) opening_steady

    -- each state between events is steady
    states_steady : (events : List Event) (s : RunState) → AllSteady s → AllByRecursion AllSteady (states_from tree world events s)
    states_steady [] s steady = (steady, tt)
    states_steady (e ∷ events) s steady = (steady, states_steady events (step tree world e s).state (step_well s steady e.at e.what).steady)

    pub between_steady : (events : List Event) → AllByRecursion AllSteady (states_from tree world events (opening tree world))
    between_steady events = states_steady events (opening tree world) opening_steady
