-- Events in order, the finishes, and what follows them.
use Rattle.std.proofs.Common.{◌≡◌, ℕ, zero, suc, ◌+◌, ◌-◌, ◌<◌, ◌≤◌, max, arith, List, [], ◌∷◌, ◌++◌, length, get_or, drop, Option, Some, None, refl, sym, ap, subst, ◌∙◌, append_assoc}
use Rattle.std.proofs.lemmas.List.{drop_all, drop_more}
use Rattle.spec_run.specs.declared.fault.RunFault.{RunFault}
use Rattle.spec_tree.specs.declared.term.Tree.{Tree}
use Rattle.spec_world.specs.declared.world.Event.{Event}
use Rattle.spec_world.specs.declared.world.What.TheVariants.{Tick}
use Rattle.spec_world.specs.declared.world.World.{World}
use Rattle.spec_run.specs.Run.{RunState, Stepped, Trace, before_rest, finish, finishes, run_from, step, then_rest}
use Rattle.spec_run.specs.Served.{Setup}
use Rattle.run_laws.proofs.Runs.{before_same}
use Rattle.run_loop.specs.Steps.{CanCome}
use Rattle.text_trace.specs.Going.{finishes_then}
use Rattle.spec_output.specs.Rounds.{events_then, fault_in, live_events, nothing_more, round_of, ticks_from}
use Rattle.text_trace.specs.Traces.{CanAllCome}

-- the event that comes next is the first of those that are left
left_next : (events : List Event) (i : ℕ) (e : Event) → i < length events → e ≡ get_or events i e → drop i events ≡ e ∷ drop (i + 1) events
left_next events i e low is = drop_more events i e low ∙ ap (λ (x : Event). x ∷ drop (i + 1) events) (sym is)

module _ (tree : Tree) (world : World) where
  pub events_both : (events more : List Event) (rest : RunState → Trace) (s : RunState) → events_then tree world (events ++ more) rest s ≡ events_then tree world events (events_then tree world more rest) s
  events_both [] more rest s = refl
  events_both (e ∷ events) more rest s = before_same (step tree world e s).fault (step tree world e s) _ _ (events_both events more rest (step tree world e s).state)

  -- the finishes, and nothing more
  pub finishes_are : (runner many : ℕ) (s : RunState) → finishes_then tree world runner many nothing_more s ≡ finishes tree world runner many s
  finishes_are runner zero s = refl
  finishes_are runner (suc others) s = before_same (finish tree world runner s).fault (finish tree world runner s) _ _ (finishes_are (runner + 1) others (finish tree world runner s).state)

  -- a run: its events, then the finishes, and nothing more
  pub run_is : (events : List Event) (s : RunState) → events_then tree world events (finishes_then tree world 1 world.runners nothing_more) s ≡ run_from tree world events s
  run_is [] s = finishes_are 1 world.runners s
  run_is (e ∷ events) s = before_same (step tree world e s).fault (step tree world e s) _ _ (run_is events (step tree world e s).state)

  front_fault : (o : Option RunFault) (d : Stepped) (f g : RunState → Trace) → ((f d.state).fault ≡ None → (g d.state).fault ≡ None) → (before_rest o d f).fault ≡ None → (before_rest o d g).fault ≡ None
  front_fault (Some fault) d f g then none = none
  front_fault None d f g then none = then none

  -- events that end in no fault begin with such
  pub events_front : (events more : List Event) (s : RunState) → (events_then tree world (events ++ more) nothing_more s).fault ≡ None → (events_then tree world events nothing_more s).fault ≡ None
  events_front [] more s none = refl
  events_front (e ∷ events) more s none = front_fault (step tree world e s).fault (step tree world e s) _ _ (events_front events more (step tree world e s).state) none

  -- the event that comes next
  pub event_next : (events : List Event) (i : ℕ) (e : Event) (rest : RunState → Trace) (s : RunState) → i < length events → e ≡ get_or events i e →
      events_then tree world (drop i events) rest s ≡ then_rest (step tree world e s) (events_then tree world (drop (i + 1) events) rest)
  event_next events i e rest s low is = ap (λ (es : List Event). events_then tree world es rest s) (left_next events i e low is)

  -- none is left
  pub events_end : (events : List Event) (i : ℕ) (rest : RunState → Trace) (s : RunState) → length events ≤ i → events_then tree world (drop i events) rest s ≡ rest s
  events_end events i rest s all = ap (λ (es : List Event). events_then tree world es rest s) (drop_all i events all)

  -- the finish that comes next
  pub finish_next : (place : ℕ) (rest : RunState → Trace) (s : RunState) → place < world.runners →
      finishes_then tree world (place + 1) (world.runners - place) rest s ≡ then_rest (finish tree world (place + 1) s) (finishes_then tree world (place + 1 + 1) (world.runners - (place + 1)) rest)
  finish_next place rest s low =
      let more : world.runners - place ≡ suc (world.runners - (place + 1)) = omega (arith, low) in
      ap (λ (others : ℕ). finishes_then tree world (place + 1) others rest s) more

  -- none is left
  pub finishes_end : (place : ℕ) (rest : RunState → Trace) (s : RunState) → world.runners ≤ place → finishes_then tree world (place + 1) (world.runners - place) rest s ≡ rest s
  finishes_end place rest s all =
      let none : world.runners - place ≡ 0 = omega (arith, all) in
      ap (λ (others : ℕ). finishes_then tree world (place + 1) others rest s) none

  -- all are left
  pub finishes_first : (rest : RunState → Trace) (s : RunState) → finishes_then tree world 1 world.runners rest s ≡ finishes_then tree world (0 + 1) (world.runners - 0) rest s
  finishes_first rest s =
      let all : world.runners ≡ world.runners - 0 = omega arith in
      ap (λ (others : ℕ). finishes_then tree world 1 others rest s) all

  -- the round that comes next
  pub round_next : (last moment : ℕ) (later : List ℕ) (rest : RunState → Trace) (s : RunState) →
      events_then tree world (live_events world last (moment ∷ later)) rest s ≡ events_then tree world (round_of world.runners (max moment last)) (events_then tree world (live_events world (max moment last) later) rest) s
  round_next last moment later rest s = events_both (round_of world.runners (max moment last)) (live_events world (max moment last) later) rest s

-- ---- Ticks

module _ (tree : Tree) (world : World) (at : ℕ) where
  -- the ticks that are left of a round, from the one after so many runners on
  abbrev pub ticks_left : ℕ → List Event
  ticks_left place = ticks_from (place + 1) (world.runners - place) at

  -- the tick that comes next
  pub tick_next : (place : ℕ) (rest : RunState → Trace) (s : RunState) → place < world.runners →
      events_then tree world (ticks_left place) rest s ≡ then_rest (step tree world (record { at = at; what = Tick (place + 1) }) s) (events_then tree world (ticks_left (place + 1)) rest)
  tick_next place rest s low =
      let more : world.runners - place ≡ suc (world.runners - (place + 1)) = omega (arith, low) in
      ap (λ (others : ℕ). events_then tree world (ticks_from (place + 1) others at) rest s) more

  -- none is left
  pub ticks_end : (place : ℕ) (rest : RunState → Trace) (s : RunState) → world.runners ≤ place → events_then tree world (ticks_left place) rest s ≡ rest s
  ticks_end place rest s all =
      let none : world.runners - place ≡ 0 = omega (arith, all) in
      ap (λ (others : ℕ). events_then tree world (ticks_from (place + 1) others at) rest s) none

  -- all are left
  pub ticks_first : (rest : RunState → Trace) (s : RunState) → events_then tree world (round_of world.runners at) rest s ≡ events_then tree world (ticks_left 0) rest s
  ticks_first rest s =
      let all : world.runners ≡ world.runners - 0 = omega arith in
      ap (λ (others : ℕ). events_then tree world (ticks_from 1 others at) rest s) all

abbrev last_of : ℕ → List ℕ → ℕ
last_of last [] = last
last_of last (moment ∷ moments) = last_of (max moment last) moments

live_both : (world : World) (last : ℕ) (xs ys : List ℕ) → live_events world last (xs ++ ys) ≡ live_events world last xs ++ live_events world (last_of last xs) ys
live_both world last [] ys = refl
live_both world last (x ∷ xs) ys =
    let at = max x last in
    ap (λ (es : List Event). round_of world.runners at ++ es) (live_both world at xs ys)
    ∙ sym (append_assoc (round_of world.runners at) (live_events world at xs) (live_events world (last_of at xs) ys))

-- rounds that end in no fault begin with such
pub rounds_front : (tree : Tree) (world : World) (last : ℕ) (xs ys : List ℕ) (s : RunState) → fault_in tree world last (xs ++ ys) s ≡ None → fault_in tree world last xs s ≡ None
rounds_front tree world last xs ys s none =
    events_front tree world (live_events world last xs) (live_events world (last_of last xs) ys) s
    (subst (λ (es : List Event). (events_then tree world es nothing_more s).fault ≡ None) (live_both world last xs ys) none)

-- ---- What can come

-- the event that comes next can, and those after it
pub come_next : (of : Setup) (last : ℕ) (events : List Event) (i : ℕ) (e : Event) → i < length events → e ≡ get_or events i e → CanAllCome of last (drop i events) → CanCome of last e × CanAllCome of e.at (drop (i + 1) events)
come_next of last events i e low is can = subst (CanAllCome of last) (left_next events i e low is) can

-- a tick can come at a moment that is not below the last one
pub tick_can_come : (of : Setup) (last at place : ℕ) → last ≤ at → place < of.world.runners → CanCome of last (record { at = at; what = Tick (place + 1) })
tick_can_come of last at place low there = ((omega arith, omega (arith, there)), low, refl)
