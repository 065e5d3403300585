-- Rounds of ticks at the moments of a clock.
use Rattle.std.specs.Prelude.{◌≡◌, ℕ, zero, suc, ◌+◌, ◌-◌, ◌<◌, ◌≤◌, max, List, [], ◌∷◌, length, take, Option, None, IsSome}
use Rattle.std.specs.List.{flat_map}
use Rattle.spec_run.specs.declared.fault.RunFault.{RunFault}
use Rattle.spec_tree.specs.declared.term.Tree.{Tree}
use Rattle.spec_world.specs.declared.world.Event.{Event}
use Rattle.spec_world.specs.declared.world.What.TheVariants.{Tick}
use Rattle.spec_world.specs.declared.world.World.{World}
use Rattle.spec_run.specs.Run.{RunState, Trace, step, then_rest}
use Rattle.spec_outside.specs.Moments.{Moments, after_now}

-- ---- Moments

-- the moments that so many calls of a clock give
abbrev pub taken : ℕ → Moments → List ℕ
taken zero m = []
taken (suc others) m = (after_now m).last ∷ taken others (after_now m)

-- the clock's moments after so many calls
abbrev pub moments_after : ℕ → Moments → Moments
moments_after zero m = m
moments_after (suc others) m = moments_after others (after_now m)

-- each moment, or the one before it where it lies below that
abbrev pub never_back : ℕ → List ℕ → List ℕ
never_back last [] = []
never_back last (moment ∷ moments) = max moment last ∷ never_back (max moment last) moments

-- ---- Rounds

-- the ticks of so many runners in order at a moment, from this one on
abbrev pub ticks_from : ℕ → ℕ → ℕ → List Event
ticks_from runner zero at = []
ticks_from runner (suc others) at = record { at = at; what = Tick runner } ∷ ticks_from (runner + 1) others at

-- a round: every runner is ticked at this moment
abbrev pub round_of : ℕ → ℕ → List Event
round_of runners at = ticks_from 1 runners at

-- a round at each of these moments, of which the first follows this one
abbrev pub live_events : World → ℕ → List ℕ → List Event
live_events world last moments = flat_map (round_of world.runners) (never_back last moments)

-- ---- Rounds begun

-- the events in order, and then what follows them
abbrev pub events_then : Tree → World → List Event → (RunState → Trace) → RunState → Trace
events_then tree world [] rest s = rest s
events_then tree world (event ∷ events) rest s = then_rest (step tree world event s) (events_then tree world events rest)

abbrev pub nothing_more : RunState → Trace
nothing_more s = record { blocks = []; calls = []; state = s; fault = None }

-- the fault in which rounds at these moments end, without a finish
abbrev pub fault_in : Tree → World → ℕ → List ℕ → RunState → Option RunFault
fault_in tree world last moments s = (events_then tree world (live_events world last moments) nothing_more s).fault

-- so many of the rounds at these moments can begin: those before the last one of them end in no fault
pub record CanBegin (tree : Tree) (world : World) (last : ℕ) (moments : List ℕ) (s : RunState) (begun : ℕ) : Type 0 where
  pub within : begun ≤ length moments
  pub before : fault_in tree world last (take (begun - 1) moments) s ≡ None

-- so many of them begin: with the last one a fault ends them, or all have begun
pub record AreBegun (tree : Tree) (world : World) (last : ℕ) (moments : List ℕ) (s : RunState) (begun : ℕ) : Type 0 where
  pub can : CanBegin tree world last moments s begun
  pub ended : begun < length moments → IsSome (fault_in tree world last (take begun moments) s)
