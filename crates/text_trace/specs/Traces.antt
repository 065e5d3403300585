-- What a run leaves, against the definition's trace.
use Rattle.std.specs.Prelude.{◌≡◌, ℕ, List, [], ◌∷◌, Option, Some, None, Result, IfOk, OnErr}
use Rattle.std.specs.List.{flat_map}
use Rattle.spec_run.specs.declared.fault.RunFault.{RunFault}
use Rattle.spec_world.specs.declared.world.Event.{Event}
use Rattle.spec_run.specs.Drivers.{DriverState, NothingHeld}
use Rattle.spec_run.specs.Run.{RunState, Trace, run_from}
use Rattle.base_tables.specs.Runnable.{IsRunnable}
use Rattle.spec_world.specs.Worlds.{IsValidWorld}
use Rattle.spec_outside.specs.Appending.{AppendedPrefix}
use Rattle.text_lines.specs.declared.stop.TextStop.{TextStop}
use Rattle.run_arena.specs.declared.nodes.Node.{Node}
use Rattle.run_loop.specs.declared.runs.Runs.{Runs}
use Rattle.run_loop.specs.Runs.{AreRuns, roster_over, state_of_runs}
use Rattle.spec_run.specs.Served.{Setup}
use Rattle.run_loop.specs.Steps.{CanCome}
use Rattle.spec_run.specs.Rosters.{IsSameRoster}
use Rattle.text_trace.specs.declared.ended.Ended.{Ended}
use Rattle.text_trace.specs.declared.ended.Ended.TheVariants.{Done, Faulted}
use Rattle.text_trace.specs.Halted.{IsCut}
use Rattle.text_trace.specs.Watches.{Watched, WasShown}

-- ---- Premises

-- each of these events names a runner, a fact or a leaf that is there, at no moment before this one and those of the
-- events before it
abbrev pub CanAllCome : Setup → ℕ → List Event → Type 0
CanAllCome of last [] = Unit {0}
CanAllCome of last (event ∷ events) = CanCome of last event × CanAllCome of event.at events

-- runs of a tree that can be run, in a valid world, which hold nothing
pub record CanRun (of : Setup) (drivers : List DriverState) (runs : Runs) : Type 0 where
  pub is_runnable : IsRunnable of.tree
  pub is_valid_world : IsValidWorld of.world
  pub are : AreRuns of.tree of.world drivers runs
  pub none : NothingHeld drivers

-- ---- Ends

-- the state that runs keep
abbrev pub state_in : Setup → List DriverState → Runs → RunState
state_in of drivers runs = state_of_runs of.tree.term drivers runs

-- the trace of these events, from the state that runs keep
abbrev pub trace_of : Setup → List DriverState → Runs → List Event → Trace
trace_of of drivers runs events = run_from of.tree of.world events (state_in of drivers runs)

-- how a run ends, by its fault
abbrev pub ended : Option RunFault → Ended
ended None = Done
ended (Some fault) = Faulted

-- what a run finds and what it leaves: the drivers, and who watches it
pub record Side : Type 0 where
  pub drivers : List DriverState
  pub watch : Watched

abbrev pub side : List DriverState → Watched → Side
side drivers watch = record { drivers = drivers; watch = watch }

-- a run has ended so as its trace does: its blocks were shown, and the drivers had its calls, in their order
pub record IsRun (arenas : List (List Node)) (old new : Side) (ending : Ended) (trace : Trace) : Type 0 where
  pub ends : ending ≡ ended trace.fault
  pub shown : WasShown old.watch new.watch trace.blocks
  pub drivers : new.drivers ≡ roster_over arenas trace.calls old.drivers

-- What a run leaves, by its answer: an end as that of its trace. Whatever is answered, no more was written than the text
-- of its blocks; and where the run was stopped, the drivers had its first calls.
pub record Leaves (result : Result Ended TextStop) (arenas : List (List Node)) (old new : Side) (trace : Trace) : Type 0 where
  pub whole : IfOk result (λ ending. IsRun arenas old new ending trace)
  pub front : AppendedPrefix old.watch.written new.watch.written (flat_map old.watch.text trace.blocks)
  pub cut : OnErr result (IsCut arenas old.drivers new.drivers trace)

-- the same drivers in the same places, of which none holds anything
pub record AreKept (old new : List DriverState) : Type 0 where
  pub same : IsSameRoster old new
  pub none : NothingHeld new
