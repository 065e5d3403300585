-- What an event leaves of runs, compared with the definition's step.
use Rattle.std.specs.Prelude.{◌≡◌, ◌≤◌, ◌+◌, ◌⊎◌, ℕ, List, ◌∷◌, ◌++◌, length, map, Some, None, IfSome, false, Result, Ok, Err, OnOk, OnErr}
use Rattle.base_texts.specs.declared.stop.Stop.{Stop}
use Rattle.spec_run.specs.declared.fault.RunFault.{RunFault}
use Rattle.spec_run.specs.declared.note.Note.{Note}
use Rattle.spec_run.specs.declared.note.Note.TheVariants.{Faulted}
use Rattle.spec_tree.specs.declared.term.Term.{Term}
use Rattle.spec_world.specs.declared.world.Event.{Event}
use Rattle.spec_run.specs.Drivers.{DriverState, NothingHeld}
use Rattle.spec_run.specs.Joins.{event_lacks}
use Rattle.spec_run.specs.Run.{RunState, Runner, RunnerCall, Stepped, quench_calls, quench_notes, quenched}
use Rattle.spec_tree.specs.Trees.{nodes_of}
use Rattle.spec_world.specs.Worlds.{IsValidWhat}
use Rattle.run_arena.specs.declared.block.Block.{Block}
use Rattle.run_arena.specs.declared.nodes.Node.{Node}
use Rattle.run_arena.specs.Blocks.{seen}
use Rattle.run_arena.specs.Noted.{Noted, calls_named}
use Rattle.run_arena.specs.Rosters.{instances_of}
use Rattle.run_loop.specs.declared.runs.Runs.{Runs}
use Rattle.run_loop.specs.Runs.{AreRuns, arenas_of, leaves_of, roster_over, state_of_runs}
use Rattle.spec_run.specs.Served.{Setup}
use Rattle.spec_run.specs.Rosters.{IsSameRoster}
use Rattle.base_texts.specs.declared.stop.Stop.TheVariants as stop

-- ---- Premises

-- an event names a runner or a fact that is there, is not before the last one, and tells only a leaf that can be told it
abbrev pub CanCome : Setup → ℕ → Event → Type 0
CanCome of last event =
    IsValidWhat of.world.facts of.world.runners event.what × (last ≤ event.at)
    × (event_lacks of.world.rows (nodes_of of.tree.term) event.what ≡ None)

-- the notes were made with room for the leaves of all runners
abbrev pub HaveRoom : List (List Node) → Noted → Type 0
HaveRoom arenas notes = leaves_of arenas + 1 ≤ notes.full

-- ---- Ends

-- the event was made as a whole: the state, the block and the drivers are those of the definition
pub record IsStep (term : Term) (before after : List DriverState) (runs : Runs) (block : Block) (d : Stepped) : Type 0 where
  pub state : state_of_runs term after runs ≡ d.state
  pub shown : seen block ≡ d.block
  pub drivers : after ≡ roster_over (arenas_of runs) d.calls before

-- what an event that ends in a fault does last: its note of the fault, and a quench of all runners
pub record EndsInFault (fault : RunFault) (notes : List Note) (calls : List RunnerCall) : Type 0 where
  pub first_notes : List Note
  pub first_calls : List RunnerCall
  pub runners : List Runner
  pub all_notes : notes ≡ first_notes ++ Faulted fault.runner fault.uid fault.cause ∷ quench_notes 1 runners
  pub all_calls : calls ≡ first_calls ++ quench_calls 1 runners

-- The event was cut off, before its fault if it has one: a prefix of its notes is told, then the notes of the quench
-- of all runners. Held at the quench is what the calls named by that prefix have left held.
pub record IsCutOff (arenas : List (List Node)) (before after : List DriverState) (notes : List Note) (d : Stepped) : Type 0 where
  pub told : List Note
  pub untold : List Note
  pub made : List RunnerCall
  pub unmade : List RunnerCall
  pub held : List Runner
  pub all_notes : told ++ untold ≡ d.block.notes
  pub all_calls : made ++ unmade ≡ d.calls
  pub named : length made ≡ calls_named told
  pub before_fault : IfSome d.fault (λ fault. EndsInFault fault untold unmade)
  pub instances : map (λ (r : Runner). r.instances) held ≡ map (λ nodes. instances_of nodes (roster_over arenas made before)) arenas
  pub noted : notes ≡ told ++ quench_notes 1 held
  pub drivers : after ≡ roster_over arenas (quench_calls 1 held) (roster_over arenas made before)

-- the fault of the event was told with all notes, after all calls; only the facts and entries that changed may be missing
pub record IsTold (arenas : List (List Node)) (before after : List DriverState) (notes : List Note) (d : Stepped) : Type 0 where
  pub fault : RunFault
  pub faulted : d.fault ≡ Some fault
  pub noted : notes ≡ d.block.notes
  pub drivers : after ≡ roster_over arenas d.calls before

-- An answer or a fault is the definition's, with all that it leaves. Want of memory (out of memory) cuts the event
-- off.
abbrev pub EventEnds : Result (Unit {0}) (Stop RunFault) → Term → List DriverState → List DriverState → Runs → Block → Stepped → Type 0
EventEnds (Ok done) term before after runs block d = (d.fault ≡ None) × IsStep term before after runs block d
EventEnds (Err (stop.Fault fault)) term before after runs block d = (d.fault ≡ Some fault) × IsStep term before after runs block d
EventEnds (Err stop.NoMemory) term before after runs block d =
    IsCutOff (arenas_of runs) before after block.notes.list d ⊎ IsTold (arenas_of runs) before after block.notes.list d

-- ---- What an event leaves

-- what an event finds, and what it leaves: the drivers, the runs, and the block that tells it
pub record EventSide : Type 0 where
  pub drivers : List DriverState
  pub runs : Runs
  pub block : Block

abbrev pub event_side : List DriverState → Runs → Block → EventSide
event_side drivers runs block = record { drivers = drivers; runs = runs; block = block }

-- the state that the runs keep
abbrev pub kept_state : Setup → EventSide → RunState
kept_state of side = state_of_runs of.tree.term side.drivers side.runs

-- What an event leaves, of which `d` is the definition's step: the next event finds runs of the tree in the world. After
-- a fault or want of memory all runners are quenched, nothing is held, and no further event may come.
pub record EventLeft (of : Setup) (result : Result (Unit {0}) (Stop RunFault)) (old new : EventSide) (d : Stepped) : Type 0 where
  pub step : EventEnds result of.tree.term old.drivers new.drivers new.runs new.block d
  pub runs : OnOk result (AreRuns of.tree of.world new.drivers new.runs)
  pub quenched : OnErr result (kept_state of new ≡ quenched of.tree (kept_state of new))
  pub none : OnErr result (NothingHeld new.drivers)
  pub usable : OnErr result (new.runs.usable ≡ false)
  pub arenas : arenas_of new.runs ≡ arenas_of old.runs
  pub room : new.block.notes.full ≡ old.block.notes.full
  pub roster : IsSameRoster old.drivers new.drivers
