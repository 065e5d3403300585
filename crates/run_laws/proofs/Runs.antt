-- What holds between events holds in each state that a run reaches.
use Rattle.std.proofs.Common.{◌≡◌, ℕ, ℤ, zero, suc, ◌+◌, ◌<◌, ◌≤◌, List, [], ◌∷◌, ◌++◌, length, Option, Some, None, false, option_map, is_some, slice_get, slice_index_or, replicate, Result, Ok, Err, refl, ap, subst, sym, arith}
use Rattle.std.proofs.lemmas.List.{length-replicate}
use Rattle.std.specs.List.Sorted.{IsNonDecreasingBy}
use Rattle.spec_run.specs.declared.block.Header.{Header}
use Rattle.spec_run.specs.declared.fault.NodeFault.{NodeFault}
use Rattle.spec_run.specs.declared.fault.RunFault.{RunFault}
use Rattle.spec_run.specs.declared.leaf.Instance.{Instance}
use Rattle.spec_run.specs.declared.note.Note.{Note}
use Rattle.spec_tree.specs.declared.term.Tree.{Tree}
use Rattle.spec_world.specs.declared.world.Event.{Event}
use Rattle.spec_world.specs.declared.world.Telling.{Telling}
use Rattle.spec_world.specs.declared.world.What.{What}
use Rattle.spec_world.specs.declared.world.What.TheVariants.{Tick, Halt, Change, Tell}
use Rattle.spec_world.specs.declared.world.World.{World}
use Rattle.spec_run.specs.Done.{Call}
use Rattle.spec_run.specs.Leaf.{fresh}
use Rattle.spec_run.specs.Run.{RunState, Runner, Stepped, Trace, before_rest, finish, finishes, fresh_runner, opening, reset_step, run_from, run_over, runner_at, state_of, step, step_by, tell_step, tick_step, told}
use Rattle.base_tables.specs.Sound.{RunSteady, Steady}
use Rattle.spec_tree.specs.Terms.{node_count}
use Rattle.run_laws.proofs.Entries.{equal_entry}
use Rattle.run_laws.proofs.Quenches.{idle_settled, idle_sound, size_is_count}
use Rattle.run_laws.proofs.Events.{finish_steady, step_steady}

-- a step before two rests that go on alike
pub before_same : (fault : Option RunFault) (d : Stepped) (f g : RunState → Trace) → f d.state ≡ g d.state → before_rest fault d f ≡ before_rest fault d g
before_same (Some fault) d f g same = refl
before_same None d f g same = ap (λ (t : Trace). (let all : Trace = record { blocks = d.block ∷ t.blocks; calls = d.calls ++ t.calls; state = t.state; fault = t.fault } in all)) same

-- ---- The opening state

fresh_free : (n p : ℕ) → p < n → option_map (λ (i : Instance). is_some i.since) (slice_get (replicate n fresh) p) ≡ Some false
fresh_free zero p within = absurd (omega (arith, within))
fresh_free (suc n) zero within = refl
fresh_free (suc n) (suc p) within = fresh_free n p (omega (arith, within))

fresh_since : (n p t : ℕ) → option_map (λ (i : Instance). i.since) (slice_get (replicate n fresh) p) ≡ Some (Some t) → ⊥
fresh_since zero p t e = cc
fresh_since (suc n) zero t e = cc
fresh_since (suc n) (suc p) t e = fresh_since n p t e

-- ---- The moment of a step

told_last : {A : Type 0} (answer : Result A NodeFault) (header : Header) (tree : Tree) (runner : ℕ) (notes : List Note) (calls : List Call) (s after : RunState) →
    (told answer header tree runner notes calls s after).state.last ≡ after.last
told_last (Ok a) header tree runner notes calls s after = refl
told_last (Err f) header tree runner notes calls s after = refl

tick_last : (o : Option Runner) (tree : Tree) (world : World) (runner at : ℕ) (s : RunState) → (tick_step o tree world runner at s).state.last ≡ at
tick_last None tree world runner at s = refl
tick_last (Some r) tree world runner at s = told_last _ _ tree runner _ _ s _

reset_last : (o : Option Runner) (h : Header) (tree : Tree) (world : World) (runner at : ℕ) (s : RunState) → (reset_step o h tree world runner at s).state.last ≡ at
reset_last None h tree world runner at s = refl
reset_last (Some r) h tree world runner at s = told_last _ h tree runner _ _ s _

tell_last : (o : Option Runner) (runner uid : ℕ) (telling : Telling) (at : ℕ) (s : RunState) → (tell_step o runner uid telling at s).state.last ≡ at
tell_last None runner uid telling at s = refl
tell_last (Some r) runner uid telling at s = refl

pub step_last : (what : What) (tree : Tree) (world : World) (at : ℕ) (s : RunState) → (step_by what tree world at s).state.last ≡ at
step_last (Tick runner) tree world at s = tick_last (runner_at s runner) tree world runner at s
step_last (Halt runner) tree world at s = reset_last (runner_at s runner) _ tree world runner at s
step_last (Change fact value) tree world at s = refl
step_last (Tell runner uid telling) tree world at s = tell_last (runner_at s runner) runner uid telling at s

-- these events are in order, and none comes before this moment
pub record InOrderFrom (last : ℕ) (events : List Event) : Type 0 where
  pub in_order : IsNonDecreasingBy (λ (e : Event). e.at) events
  pub following : (k : ℕ) (d : Event) → k < length events → last ≤ (slice_index_or events k d).at

pub order_after : (last : ℕ) (e : Event) (events : List Event) → InOrderFrom last (e ∷ events) → InOrderFrom e.at events
order_after last e events order = record {
  in_order = λ i j d low within. order.in_order (suc i) (suc j) d (omega (arith, low)) (omega (arith, within));
  following = λ k d within. order.in_order 0 (suc k) d (omega arith) (omega (arith, within));
}

module _ (tree : Tree) (world : World) where
  abbrev pub Holds : RunState → Type 0
  Holds s = RunSteady tree.term world.rows s

  fresh_steady : (facts : List ℤ) (at : ℕ) → Steady tree.term world.rows (fresh_runner tree).memory (state_of (fresh_runner tree) facts at)
  fresh_steady facts at =
      let r : Runner = fresh_runner tree in
      let many : length r.instances ≡ 1 + node_count tree.term = length-replicate (1 + node_count tree.term) fresh in
      record {
        sound = idle_sound tree.term world.rows 1 (state_of r facts at) (λ p a b. fresh_free (1 + node_count tree.term) p (omega (arith, b, size_is_count tree.term)));
        root = idle_settled tree.term;
        room = omega (arith, many, size_is_count tree.term);
        dated = λ p since e. absurd (fresh_since (1 + node_count tree.term) p since e);
      }

  -- the state before the first event
  pub opening_steady : Holds (opening tree world)
  opening_steady k r is =
      equal_entry (λ (x : Runner). Steady tree.term world.rows x.memory (state_of x (opening tree world).facts 0)) world.runners k (fresh_runner tree) r (fresh_steady (opening tree world).facts 0) is

  pub rest_steady : (fault : Option RunFault) (first : Stepped) (rest : RunState → Trace) → Holds first.state → Holds (rest first.state).state → Holds (before_rest fault first rest).state
  rest_steady None first rest now then = then
  rest_steady (Some f) first rest now then = now

  pub finishes_steady : (others runner : ℕ) (s : RunState) → Holds s → Holds (finishes tree world runner others s).state
  finishes_steady zero runner s steady = steady
  finishes_steady (suc others) runner s steady =
      let first : Stepped = finish tree world runner s in
      let now : Holds first.state = finish_steady tree world runner s steady in
      rest_steady first.fault first (finishes tree world (runner + 1) others) now (finishes_steady others (runner + 1) first.state now)

  run_from_steady : (events : List Event) (s : RunState) → InOrderFrom s.last events → Holds s → Holds (run_from tree world events s).state
  run_from_steady [] s order steady = finishes_steady world.runners 1 s steady
  run_from_steady (e ∷ events) s order steady =
      let first : Stepped = step tree world e s in
      let now : Holds first.state = step_steady tree world s steady e.at (order.following 0 e (omega arith)) e.what in
      let next : InOrderFrom first.state.last events = subst (λ (last : ℕ). InOrderFrom last events) (sym (step_last e.what tree world e.at s)) (order_after s.last e events order) in
      rest_steady first.fault first (run_from tree world events) now (run_from_steady events first.state next now)

  -- a run over events in order ends so
  pub run_steady : (events : List Event) → IsNonDecreasingBy (λ (e : Event). e.at) events → Holds (run_over tree world events).state
  run_steady events order = run_from_steady events (opening tree world) (record { in_order = order; following = λ k d within. omega arith }) opening_steady
