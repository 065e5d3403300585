-- What holds after every prefix of a run.
use Rattle.std.proofs.Common.{◌≡◌, ℕ, List, [], ◌∷◌, ◌++◌, length, append_assoc, append-nil, Option, Some, None, refl, sym, ap, subst, ◌∙◌, arith}
use Rattle.std.proofs.Math.Seq.{take-append_seam}
use Rattle.std.proofs.lemmas.List.Sorted.{IsNonDecreasingBy-take}
use Rattle.std.specs.List.Sorted.{IsNonDecreasingBy}
use Rattle.spec_run.specs.declared.block.Block.{Block}
use Rattle.spec_run.specs.declared.fault.RunFault.{RunFault}
use Rattle.spec_tree.specs.declared.term.Tree.{Tree}
use Rattle.spec_world.specs.declared.world.Event.{Event}
use Rattle.spec_world.specs.declared.world.World.{World}
use Rattle.spec_run.specs.Run.{RunState, RunnerCall, Stepped, Trace, before_rest, finishes, opening, run_from, run_over, step}
use Rattle.run_laws.proofs.Events.{step_steady}
use Rattle.run_laws.proofs.Runs.{Holds, InOrderFrom, finishes_steady, opening_steady, order_after, rest_steady, step_last}
use Rattle.run_loop.specs.Held.Prefixes.{after_events, after_finishes, events_from, goes_on, joined}

-- ---- The rules

module _ (tree : Tree) (world : World) where
  events_steady : (events : List Event) (s : RunState) → InOrderFrom s.last events → Holds tree world s → Holds tree world (events_from tree world events s).state
  events_steady [] s order steady = steady
  events_steady (e ∷ events) s order steady =
      let first : Stepped = step tree world e s in
      let now : Holds tree world first.state = step_steady tree world s steady e.at (order.following 0 e (omega arith)) e.what in
      let next : InOrderFrom first.state.last events = subst (λ (last : ℕ). InOrderFrom last events) (sym (step_last e.what tree world e.at s)) (order_after s.last e events order) in
      rest_steady tree world first.fault first (events_from tree world events) now (events_steady events first.state next now)

  -- what holds after one part and after another holds after both
  joined_steady : (fault : Option RunFault) (first rest : Trace) → Holds tree world first.state → Holds tree world rest.state → Holds tree world (joined fault first rest).state
  joined_steady None first rest now then_ = then_
  joined_steady (Some f) first rest now then_ = now

  whole_steady : (events : List Event) → IsNonDecreasingBy (λ (e : Event). e.at) events → Holds tree world (after_events tree world events).state
  whole_steady events order = events_steady events (opening tree world) (record { in_order = order; following = λ k d within. omega arith }) (opening_steady tree world)

  pub prefix_steady : (before after : List Event) → IsNonDecreasingBy (λ (e : Event). e.at) (before ++ after) → Holds tree world (after_events tree world before).state
  prefix_steady before after order =
      whole_steady before (subst (λ (es : List Event). IsNonDecreasingBy (λ (e : Event). e.at) es) (take-append_seam before after)
      (IsNonDecreasingBy-take (λ (e : Event). e.at) (length before) (before ++ after) order))

  pub finished_steady : (events : List Event) (finished : ℕ) → IsNonDecreasingBy (λ (e : Event). e.at) events → Holds tree world (after_finishes tree world events finished).state
  finished_steady events finished order =
      let first : Trace = after_events tree world events in
      let now : Holds tree world first.state = whole_steady events order in
      joined_steady first.fault first (finishes tree world 1 finished first.state) now (finishes_steady tree world finished 1 first.state now)

  -- ---- Runs

  -- a block and calls before a part of a run
  abbrev before_part : Block → List RunnerCall → Trace → Trace
  before_part block calls t = record { blocks = block ∷ t.blocks; calls = calls ++ t.calls; state = t.state; fault = t.fault }

  joined_after : (block : Block) (calls : List RunnerCall) (fault : Option RunFault) (first rest : Trace) →
      before_part block calls (joined fault first rest) ≡ joined fault (before_part block calls first) rest
  joined_after block calls (Some f) first rest = refl
  joined_after block calls None first rest = λ i. record {
    blocks = block ∷ (first.blocks ++ rest.blocks);
    calls = sym (append_assoc calls first.calls rest.calls) i;
    state = rest.state;
    fault = rest.fault;
  }

  through : (before after : List Event) (s : RunState) → run_from tree world (before ++ after) s ≡ goes_on (events_from tree world before s) (run_from tree world after)
  through [] after s = refl
  through (e ∷ before) after s = step_through (step tree world e s) (step tree world e s).fault (through before after (step tree world e s).state)
    where
      step_through : (first : Stepped) (fault : Option RunFault) →
          run_from tree world (before ++ after) first.state ≡ goes_on (events_from tree world before first.state) (run_from tree world after) →
          before_rest fault first (run_from tree world (before ++ after)) ≡ goes_on (before_rest fault first (events_from tree world before)) (run_from tree world after)
      step_through first (Some f) is = refl
      step_through first None is =
          ap (before_part first.block first.calls) is
          ∙ joined_after first.block first.calls (events_from tree world before first.state).fault (events_from tree world before first.state) (run_from tree world after (events_from tree world before first.state).state)

  pub run_through : (before after : List Event) → run_over tree world (before ++ after) ≡ goes_on (after_events tree world before) (run_from tree world after)
  run_through before after = through before after (opening tree world)

  pub run_finished : (events : List Event) → run_over tree world events ≡ after_finishes tree world events world.runners
  run_finished events = ap (λ (es : List Event). run_over tree world es) (sym (append-nil events)) ∙ run_through events []
