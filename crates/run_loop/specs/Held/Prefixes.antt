-- What a prefix of a run leaves.
use Rattle.std.specs.Prelude.{ℕ, List, [], ◌∷◌, ◌++◌, Option, Some, None}
use Rattle.spec_run.specs.declared.fault.RunFault.{RunFault}
use Rattle.spec_tree.specs.declared.term.Tree.{Tree}
use Rattle.spec_world.specs.declared.world.Event.{Event}
use Rattle.spec_world.specs.declared.world.World.{World}
use Rattle.spec_run.specs.Run.{RunState, Trace, finishes, opening, step, then_rest}

-- what these events leave from a state on, up to the first fault
abbrev pub events_from : Tree → World → List Event → RunState → Trace
events_from tree world [] s = record { blocks = []; calls = []; state = s; fault = None }
events_from tree world (e ∷ events) s = then_rest (step tree world e s) (events_from tree world events)

-- what they leave from the opening on, before any runner is finished
abbrev pub after_events : Tree → World → List Event → Trace
after_events tree world events = events_from tree world events (opening tree world)

-- one part of a run and then another, which a fault in the first leaves out
abbrev pub joined : Option RunFault → Trace → Trace → Trace
joined (Some fault) first rest = first
joined None first rest = record { blocks = first.blocks ++ rest.blocks; calls = first.calls ++ rest.calls; state = rest.state; fault = rest.fault }

abbrev pub goes_on : Trace → (RunState → Trace) → Trace
goes_on first rest = joined first.fault first (rest first.state)

-- what a run over these events has left once this many of its runners are finished
abbrev pub after_finishes : Tree → World → List Event → ℕ → Trace
after_finishes tree world events finished = goes_on (after_events tree world events) (finishes tree world 1 finished)
