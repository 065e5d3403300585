-- The ticks of a modelled run, as a prefix of a run of the engine.
use Rattle.std.proofs.Common.{◌≡◌, ℕ, zero, suc, ◌<◌, List, [], ◌∷◌, ◌++◌, Option, None, refl, ap, sym, ◌∙◌, arith, append_assoc, append-nil}
use Rattle.spec_run.specs.declared.fault.RunFault.{RunFault}
use Rattle.spec_tree.specs.declared.term.Tree.{Tree}
use Rattle.spec_world.specs.declared.world.Event.{Event}
use Rattle.spec_world.specs.declared.world.World.{World}
use Rattle.spec_run.specs.Run.{RunState, Stepped, Trace, before_rest, opening, then_rest}
use Rattle.run_loop.specs.Held.Prefixes.{after_events, events_from}
use Rattle.spec_plan.specs.Modelled.{ReachedAt, goals_hold, modelled, next_tick, state_after, tick_after, ticks}
use Rattle.plan_search.specs.Reached.{IsReachedInRun}

state_on : (d : Stepped) (rest : RunState → Trace) → d.fault ≡ None → (then_rest d rest).state ≡ (rest d.state).state
state_on d rest none = ap (λ (f : Option RunFault). (before_rest f d rest).state) none

fault_on : (d : Stepped) (rest : RunState → Trace) → d.fault ≡ None → (then_rest d rest).fault ≡ (rest d.state).fault
fault_on d rest none = ap (λ (f : Option RunFault). (before_rest f d rest).fault) none

module _ (tree : Tree) (world : World) (period : ℕ) where
  abbrev from : List Event → RunState → Trace
  from events s = events_from tree (modelled world) events s

  abbrev begin : RunState
  begin = opening tree (modelled world)

  abbrev Unbroken : ℕ → Type 0
  Unbroken n = (k : ℕ) → k < n → (next_tick tree world period k).fault ≡ None

  record GoesThrough (n : ℕ) (ys : List Event) : Type 0 where
    state : (from (ticks period n ++ ys) begin).state ≡ (from ys (state_after tree world period n)).state
    fault : (from (ticks period n ++ ys) begin).fault ≡ (from ys (state_after tree world period n)).fault

  -- the first ticks, where none faults
  through : (n : ℕ) (ys : List Event) → Unbroken n → GoesThrough n ys
  through zero ys none = record { state = refl; fault = refl }
  through (suc n) ys none =
      let e = tick_after period n in
      let d = next_tick tree world period n in
      let before = through n (e ∷ ys) (λ (k : ℕ) low. none k (omega (arith, low))) in
      let own = none n (omega arith) in
      let same : ticks period (suc n) ++ ys ≡ ticks period n ++ e ∷ ys = append_assoc (ticks period n) (e ∷ []) ys in
      record {
        state = ap (λ (es : List Event). (from es begin).state) same ∙ before.state ∙ state_on d (from ys) own;
        fault = ap (λ (es : List Event). (from es begin).fault) same ∙ before.fault ∙ fault_on d (from ys) own;
      }

  abbrev left : ℕ → Trace
  left n = after_events tree (modelled world) (ticks period n)

  -- what they leave
  left_state : (n : ℕ) → Unbroken n → (left n).state ≡ state_after tree world period n
  left_state n none = ap (λ (es : List Event). (from es begin).state) (sym (append-nil (ticks period n))) ∙ (through n [] none).state

  left_fault : (n : ℕ) → Unbroken n → (left n).fault ≡ None
  left_fault n none = ap (λ (es : List Event). (from es begin).fault) (sym (append-nil (ticks period n))) ∙ (through n [] none).fault

  pub reached_in_run : (k : ℕ) → ReachedAt tree world period k → IsReachedInRun tree world period k
  reached_in_run k at = record {
    first = at.first;
    unbroken = left_fault k at.unbroken;
    reached = ap (λ (s : RunState). goals_hold world s.facts) (left_state k at.unbroken) ∙ at.reached;
    not_before = λ n some low.
        ap (λ (s : RunState). goals_hold world s.facts) (left_state n (λ (j : ℕ) below. at.unbroken j (omega (arith, below, low))))
        ∙ at.not_before n some low;
  }
