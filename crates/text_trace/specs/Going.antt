-- A part of a run, against the traces of the whole run and of what follows the part.
use Rattle.std.specs.Prelude.{◌≡◌, ◌-◌, ◌<◌, ◌≤◌, ◌^◌, ℕ, zero, suc, ◌+◌, List, ◌++◌, [], ◌∷◌, length, take, Option, Some, None, IfSome, Result, Ok, Err, OnOk, OnErr, true, false, slice_get}
use Rattle.std.specs.List.{flat_map}
use Rattle.std.specs.Option.{option_map}
use Rattle.base_texts.specs.declared.stop.Stop.{Stop}
use Rattle.base_texts.specs.declared.stop.Stop.TheVariants as stop
use Rattle.spec_run.specs.declared.block.Block.{Block}
use Rattle.spec_run.specs.declared.fault.RunFault.{RunFault}
use Rattle.spec_run.specs.declared.memory.Memory.{out-Memory}
use Rattle.spec_tree.specs.declared.term.Tree.{Tree}
use Rattle.spec_world.specs.declared.world.World.{World}
use Rattle.spec_run.specs.Drivers.{DriverState, NothingHeld}
use Rattle.spec_run.specs.Run.{Runner, RunnerCall, RunState, Trace, finish, then_rest}
use Rattle.base_tables.specs.Shapes.{is_running}
use Rattle.spec_outside.specs.Appending.{AppendedPrefix}
use Rattle.spec_outside.specs.Moments.{Moments}
use Rattle.text_lines.specs.declared.stop.TextStop.{TextStop}
use Rattle.text_lines.specs.declared.stop.TextStop.TheVariants as text_stop
use Rattle.run_arena.specs.declared.nodes.Node.{Node}
use Rattle.run_loop.specs.declared.runs.Runs.{Runs}
use Rattle.run_loop.specs.Runs.{AreRuns, arenas_of, roster_over}
use Rattle.spec_run.specs.Served.{Setup}
use Rattle.run_loop.specs.Steps.{HaveRoom}
use Rattle.spec_run.specs.Rosters.{IsSameRoster}
use Rattle.text_trace.specs.declared.ended.Ended.{Ended}
use Rattle.text_trace.specs.declared.ended.Ended.TheVariants.{Done, Faulted}
use Rattle.text_trace.specs.declared.underway.Underway.{Underway}
use Rattle.text_trace.specs.Halted.{HaveHalted, IsCut}
use Rattle.text_trace.specs.RoundMoments.{AreMoments, WasAsked}
use Rattle.spec_output.specs.Rounds.{events_then, fault_in, live_events, moments_after, taken}
use Rattle.text_trace.specs.Traces.{IsRun, Side, side, state_in}
use Rattle.text_trace.specs.Watches.{StaysWatcher, WasShown, Watched}

-- ---- Before a part

-- what a part of a run finds and what it leaves: the drivers, who watches it, and the runs that are under way
pub record Stage : Type 0 where
  pub drivers : List DriverState
  pub watch : Watched
  pub underway : Underway

abbrev pub stage : List DriverState → Watched → Underway → Stage
stage drivers watch underway = record { drivers = drivers; watch = watch; underway = underway }

abbrev pub side_of : Stage → Side
side_of s = side s.drivers s.watch

abbrev pub arenas_at : Stage → List (List Node)
arenas_at s = arenas_of s.underway.runs

abbrev pub state_at : Setup → Stage → RunState
state_at of s = state_in of s.drivers s.underway.runs

-- runs of the tree in the world that can go on, no more than 255, and a block with room for the notes of an event
pub record CanGoOn (of : Setup) (drivers : List DriverState) (u : Underway) : Type 0 where
  pub are : AreRuns of.tree of.world drivers u.runs
  pub few : length u.runs.runners.items < 2 ^ 8
  pub room : HaveRoom (arenas_of u.runs) u.block.notes

-- ---- After a part

-- what was told and made so far, followed by the rest, is the whole
pub record Going (arenas : List (List Node)) (old new : Side) (whole rest : Trace) : Type 0 where
  pub told : List Block
  pub made : List RunnerCall
  pub blocks : told ++ rest.blocks ≡ whole.blocks
  pub calls : made ++ rest.calls ≡ whole.calls
  pub fault : rest.fault ≡ whole.fault
  pub shown : WasShown old.watch new.watch told
  pub drivers : new.drivers ≡ roster_over arenas made old.drivers

-- a run was stopped: no more was written than its text, and the drivers had its first calls
pub record WasStopped (arenas : List (List Node)) (old new : Side) (trace : Trace) : Type 0 where
  pub front : AppendedPrefix old.watch.written new.watch.written (flat_map old.watch.text trace.blocks)
  pub cut : IsCut arenas old.drivers new.drivers trace

-- a part of a run goes on with its rest, or the run has ended in a fault, or it was stopped
abbrev pub Goes : Result Ended TextStop → List (List Node) → Side → Side → Trace → Trace → Type 0
Goes (Ok Done) arenas old new whole rest = Going arenas old new whole rest
Goes (Ok Faulted) arenas old new whole rest = IsRun arenas old new Faulted whole
Goes (Err stopped) arenas old new whole rest = WasStopped arenas old new whole

-- runs that can go on are those of the tree in the world, and of others nothing is held
pub record Stand (of : Setup) (drivers : List DriverState) (runs : Runs) : Type 0 where
  pub on : runs.usable ≡ true → AreRuns of.tree of.world drivers runs
  pub off : runs.usable ≡ false → NothingHeld drivers

-- What a part of a run leaves, by its answer: `whole rest` is the trace of the part and what follows it, of which `more rest`
-- is still to come. Only the answer Done lets the run go on.
pub record MakesPart (of : Setup) (result : Result Ended TextStop) (old new : Stage) (whole more : (RunState → Trace) → Trace) : Type 0 where
  pub goes : (rest : RunState → Trace) → Goes result (arenas_at old) (side_of old) (side_of new) (whole rest) (more rest)
  pub stand : Stand of new.drivers new.underway.runs
  pub on : result ≡ Ok Done → new.underway.runs.usable ≡ true
  pub off : result ≡ Ok Faulted → new.underway.runs.usable ≡ false
  pub arenas : arenas_at new ≡ arenas_at old
  pub room : new.underway.block.notes.full ≡ old.underway.block.notes.full
  pub roster : IsSameRoster old.drivers new.drivers
  pub watcher : StaysWatcher result old.watch new.watch

-- .. and only what follows the part is to come
abbrev pub Makes : Setup → Result Ended TextStop → Stage → Stage → ((RunState → Trace) → Trace) → Type 0
Makes of result old new whole = MakesPart of result old new whole (λ rest. rest (state_at of new))

-- the block of an event that was made was shown, or a prefix of its text was written; where memory ran out in the event,
-- nothing was
abbrev pub Shows : Result (Unit {0}) (Stop RunFault) → Result Ended TextStop → Watched → Watched → Block → Type 0
Shows (Ok done) (Ok Done) old new block = WasShown old new (block ∷ [])
Shows (Err (stop.Fault fault)) (Ok Faulted) old new block = WasShown old new (block ∷ [])
Shows (Ok done) (Err stopped) old new block = AppendedPrefix old.written new.written (old.text block)
Shows (Err (stop.Fault fault)) (Err stopped) old new block = AppendedPrefix old.written new.written (old.text block)
Shows (Err stop.NoMemory) (Err text_stop.NoMemory) old new block = new ≡ old
Shows _ _ old new block = ⊥

-- ---- Finishes

-- so many runners are finished in order, from this one on, and then what follows
abbrev pub finishes_then : Tree → World → ℕ → ℕ → (RunState → Trace) → RunState → Trace
finishes_then tree world runner zero rest s = rest s
finishes_then tree world runner (suc others) rest s = then_rest (finish tree world runner s) (finishes_then tree world (runner + 1) others rest)

-- the roots of the first so many runners rest
abbrev pub AreAtRest : ℕ → RunState → Type 0
AreAtRest many s = (k : ℕ) (r : Runner) → k < many → slice_get s.runners k ≡ Some r → is_running (out-Memory r.memory).status ≡ false

-- ---- Rounds

-- a clock has given these moments since
pub record HasGiven (old new : Option Moments) (given : List ℕ) : Type 0 where
  pub told : IfSome old (λ m. given ≡ taken (length given) m)
  pub left : new ≡ option_map (moments_after (length given)) old

-- the trace of rounds at these moments, and then what follows
abbrev pub rounds_then : Setup → ℕ → List ℕ → (RunState → Trace) → RunState → Trace
rounds_then of last moments rest s = events_then of.tree of.world (live_events of.world last moments) rest s

-- Rounds at the moments that the clock has given: where not all were made, the rounds at any later moments begin so. Those
-- before the last one of them ended in no fault.
pub record RoundsMade (of : Setup) (result : Result Ended TextStop) (rounds : ℕ) (old new : Stage) (asked left : Option Moments) : Type 0 where
  pub given : List ℕ
  pub within : length given ≤ rounds
  pub all : result ≡ Ok Done → length given ≡ rounds
  pub told : HasGiven asked left given
  pub made : (later : List ℕ) → (result ≡ Ok Done → later ≡ []) →
      Makes of result old new (λ rest. rounds_then of old.underway.runs.last (given ++ later) rest (state_at of old))
  pub before : fault_in of.tree of.world old.underway.runs.last (take (length given - 1) given) (state_at of old) ≡ None

-- rounds were made at the clock's moments, and then all runners were finished
pub record LiveMade (of : Setup) (result : Result Ended TextStop) (rounds : ℕ) (old new : Stage) (clock left : Option Moments) : Type 0 where
  pub moments : List ℕ
  pub are : AreMoments rounds clock moments
  pub made : Makes of result old new
      (λ rest. rounds_then of old.underway.runs.last moments (finishes_then of.tree of.world 1 of.world.runners rest) (state_at of old))
  pub asked : WasAsked result of.tree of.world rounds old.underway.runs.last (state_at of old) clock left

-- ---- The end of a run

-- where the events have ended in no fault and no stop, all runners were finished; else nothing was done
abbrev pub FinishesRun : Setup → Result Ended TextStop → Result Ended TextStop → Stage → Stage → Type 0
FinishesRun of (Ok Done) result old new = Makes of result old new (λ rest. finishes_then of.tree of.world 1 of.world.runners rest (state_at of old))
FinishesRun of ended result old new = (result ≡ ended) × (new ≡ old)

-- A run whose events ended so has come to its end: `last` is when the last block was shown. Where one could not be shown, the
-- drivers then had such calls alone as halt.
pub record EndsRun (of : Setup) (ended result : Result Ended TextStop) (old : Stage) (new : Side) : Type 0 where
  pub last : Stage
  pub finishes : FinishesRun of ended result old last
  pub watch : new.watch ≡ last.watch
  pub done : OnOk result (new.drivers ≡ last.drivers)
  pub halts : OnErr result (HaveHalted (arenas_at old) last.drivers new.drivers)
