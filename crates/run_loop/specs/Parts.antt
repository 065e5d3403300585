-- One runner's part of an event.
use Rattle.std.specs.Prelude.{◌≡◌, ◌≤◌, ℕ, ℤ, List, ◌++◌, ◌∷◌, length, slice_set, Option, None, Result, Ok, Err}
use Rattle.std.specs.Vec.{vec_capacity}
use Rattle.base_texts.specs.declared.stop.Stop.{Stop}
use Rattle.base_texts.specs.declared.stop.Stop.TheVariants as stop
use Rattle.spec_run.specs.declared.block.Header.{Header}
use Rattle.spec_run.specs.declared.block.Header.TheVariants as header
use Rattle.spec_run.specs.declared.fault.NodeFault.{NodeFault}
use Rattle.spec_run.specs.declared.memory.Memory.{Memory}
use Rattle.spec_run.specs.declared.note.Note.{Note}
use Rattle.spec_run.specs.declared.note.Note.TheVariants.{Root}
use Rattle.spec_run.specs.declared.status.Answer.{Answer}
use Rattle.spec_run.specs.declared.status.Status.{Status}
use Rattle.spec_script.specs.declared.value.Value.{Value}
use Rattle.spec_tree.specs.declared.term.Term.{Term}
use Rattle.spec_tree.specs.declared.term.Tree.{Tree}
use Rattle.spec_world.specs.declared.world.What.TheVariants as what
use Rattle.spec_world.specs.declared.world.World.{World}
use Rattle.spec_run.specs.Done.{Call, Done, State}
use Rattle.spec_run.specs.Drivers.{DriverState}
use Rattle.spec_run.specs.Run.{RunState, Runner, Stepped, reset_step, root_reset, root_view, runner_at, runner_calls}
use Rattle.spec_run.specs.Run.{settled, state_of, step_by, ticked, with_runner}
use Rattle.spec_run.specs.Visit.{change}
use Rattle.base_tables.specs.Sound.{Dated, Sound}
use Rattle.run_arena.specs.declared.arena.Arena.{Arena}
use Rattle.run_arena.specs.declared.nodes.Kept.{Kept}
use Rattle.run_arena.specs.declared.nodes.Node.{Node}
use Rattle.run_arena.specs.Ends.{Meets}
use Rattle.run_arena.specs.Nodes.{kept_at}
use Rattle.run_arena.specs.Noted.{calls_named}
use Rattle.run_arena.specs.Scenes.{Fits, Scene, scene, state_in}
use Rattle.run_arena.specs.Stands.{memory_of}
use Rattle.run_loop.specs.declared.parts.Part.{Part}
use Rattle.run_loop.specs.declared.parts.Part.TheVariants.{Tick, Halt, Finish}
use Rattle.run_loop.specs.declared.parts.Turn.{Turn}
use Rattle.run_loop.specs.declared.runs.ReadyRunner.{ReadyRunner}
use Rattle.run_loop.specs.declared.runs.Runs.{Runs}
use Rattle.run_loop.specs.Runs.{AreRuns, roster_over, runners_in}
use Rattle.spec_run.specs.Served.{Setup}

-- ---- What a part does

-- the end of a part, without its answer
abbrev pub ending_of : {A : Type 0} → Result A NodeFault → Result (Unit {0}) NodeFault
ending_of (Ok a) = Ok tt
ending_of (Err f) = Err f

abbrev pub unanswered : {A M : Type 0} → Done A M → Done (Unit {0}) M
unanswered d = record { answer = ending_of d.answer; memory = d.memory; state = d.state; notes = d.notes; calls = d.calls }

abbrev pub part_of : Part → Tree → World → ℕ → Memory → State → Done (Unit {0}) Memory
part_of Tick tree world runner m s = unanswered (ticked tree (root_view tree world) runner m s)
part_of Halt tree world runner m s = root_reset tree (root_view tree world) m s
part_of Finish tree world runner m s = root_reset tree (root_view tree world) m s

-- the part of a turn, of a runner in this state
abbrev pub turn_part : Setup → Turn → RunState → Runner → Done (Unit {0}) Memory
turn_part of turn s r = part_of turn.part of.tree of.world turn.runner r.memory (state_of r s.facts turn.at)

-- the header of the block that tells a part
abbrev pub header_by : Part → ℕ → ℕ → Header
header_by Tick runner at = header.Tick runner at
header_by Halt runner at = header.Halt runner at
header_by Finish runner at = header.Finish runner at

abbrev pub turn_header : Turn → Header
turn_header turn = header_by turn.part turn.runner turn.at

-- the definition's step in which a runner has this part
abbrev pub step_by_part : Part → Tree → World → ℕ → ℕ → RunState → Stepped
step_by_part Tick tree world runner at s = step_by (what.Tick runner) tree world at s
step_by_part Halt tree world runner at s = step_by (what.Halt runner) tree world at s
step_by_part Finish tree world runner at s = reset_step (runner_at s runner) (header.Finish runner at) tree world runner at s

abbrev pub turn_step : Setup → Turn → RunState → Stepped
turn_step of turn s = step_by_part turn.part of.tree of.world turn.runner turn.at s

-- ---- One runner

-- a runner with this arena, over this blackboard
abbrev pub acting : Arena → List (Option Value) → ReadyRunner
acting arena board = record { arena = arena; board = board }

abbrev pub scene_of : ReadyRunner → List ℤ → List DriverState → Scene
scene_of r facts drivers = scene r.arena.kept.items r.board facts drivers

abbrev pub state_of_runner : ReadyRunner → List ℤ → List DriverState → ℕ → State
state_of_runner r facts drivers at = state_in r.arena.nodes.items (scene_of r facts drivers) at

-- a runner can make its part at this time
pub record CanAct (tree : Tree) (world : World) (at : ℕ) (facts : List ℤ) (drivers : List DriverState) (r : ReadyRunner) : Type 0 where
  pub fits : Fits tree.term (root_view tree world) 1 r.arena.nodes.items (scene_of r facts drivers)
  pub sound : Sound tree.term world.rows None 1 (memory_of tree.term 1 r.arena.kept.items) (state_of_runner r facts drivers at)
  pub dated : Dated (state_of_runner r facts drivers at)

-- the notes of the root's answer, where the root has this status
abbrev pub root_notes : ℕ → Answer → Status → List Note
root_notes runner answer st = Root runner answer ∷ change 1 st (settled st)

-- a runner made this part as the definition does, or it was stopped in it
abbrev pub MeetsPart : Setup → Part → ℕ → Result (Unit {0}) (Stop NodeFault) → ReadyRunner → Scene → Scene → List Note → List Note → Type 0
MeetsPart of part at result r old new told noted =
    Meets r.arena.nodes.items at (memory_of of.tree.term 1) result old new told noted
    (part_of part of.tree of.world r.arena.runner (memory_of of.tree.term 1 old.kept) (state_in r.arena.nodes.items old at))

-- How a tick of a runner ends after the visit of its root, which came to this: the answer is noted, and a root that has
-- succeeded or failed is IDLE. Where the visit has no answer, or memory is wanting for a note, the root is unchanged.
abbrev pub EndsTick : ℕ → Result Answer (Stop NodeFault) → Result (Unit {0}) (Stop NodeFault) → List Kept → List Kept → List Note → List Note → Type 0
EndsTick runner (Ok answer) (Ok done) old new told noted =
    (new ≡ slice_set old 1 (record (kept_at old 1) { status = settled (kept_at old 1).status }))
    × (noted ≡ told ++ root_notes runner answer (kept_at old 1).status)
EndsTick runner (Ok answer) (Err stop.NoMemory) old new told noted =
    (new ≡ old) × ((said : List Note) × (unsaid : List Note) × (said ++ unsaid ≡ root_notes runner answer (kept_at old 1).status)
    × (calls_named said ≡ 0) × (noted ≡ told ++ said))
EndsTick runner (Err stopped) (Err why) old new told noted = (why ≡ stopped) × (new ≡ old) × (noted ≡ told)
EndsTick _ _ _ old new told noted = ⊥

-- what no event changes of an arena, and that its room for visits under way does not shrink
pub record StaysArena (old new : Arena) : Type 0 where
  pub nodes : new.nodes.items ≡ old.nodes.items
  pub number : new.runner ≡ old.runner
  pub room : vec_capacity old.frames ≤ vec_capacity new.frames

-- ---- All runners

-- runs can take a turn: its runner is there, and its time is not before the last event
pub record CanTake (of : Setup) (turn : Turn) (drivers : List DriverState) (runs : Runs) : Type 0 where
  pub are : AreRuns of.tree of.world drivers runs
  pub first : 1 ≤ turn.runner
  pub last : turn.runner ≤ of.world.runners
  pub ahead : runs.last ≤ turn.at

abbrev pub state_of_all : Term → List DriverState → List ReadyRunner → List ℤ → ℕ → RunState
state_of_all term drivers runners facts last = record { runners = runners_in term drivers runners; facts = facts; last = last }

-- a part was made to its end, with no fault or with this one
pub record PartMade (term : Term) (number at : ℕ) (s : RunState) (arenas : List (List Node)) (before after : List DriverState)
    (runners : List ReadyRunner) (facts : List ℤ) (old new : List Note) (ending : Result (Unit {0}) NodeFault) (d : Done (Unit {0}) Memory)
    : Type 0 where
  pub answer : d.answer ≡ ending
  pub state : state_of_all term after runners facts at ≡ with_runner s number at d
  pub notes : new ≡ old ++ d.notes
  pub drivers : after ≡ roster_over arenas (runner_calls number d.calls) before

-- a part was cut off: a prefix of its notes was added, and the drivers took the calls that these notes name
pub record PartCut (number : ℕ) (arenas : List (List Node)) (before after : List DriverState) (old new : List Note)
    (d : Done (Unit {0}) Memory) : Type 0 where
  pub told : List Note
  pub untold : List Note
  pub made : List Call
  pub unmade : List Call
  pub all_notes : told ++ untold ≡ d.notes
  pub all_calls : made ++ unmade ≡ d.calls
  pub named : length made ≡ calls_named told
  pub notes : new ≡ old ++ told
  pub drivers : after ≡ roster_over arenas (runner_calls number made) before

abbrev pub PartEnds : Result (Unit {0}) (Stop NodeFault) → Term → ℕ → ℕ → RunState → List (List Node) →
    List DriverState → List DriverState → List ReadyRunner → List ℤ → List Note → List Note → Done (Unit {0}) Memory → Type 0
PartEnds (Ok done) term number at s arenas before after runners facts old new d =
    PartMade term number at s arenas before after runners facts old new (Ok tt) d × (length d.calls ≡ calls_named d.notes)
PartEnds (Err (stop.Fault f)) term number at s arenas before after runners facts old new d =
    PartMade term number at s arenas before after runners facts old new (Err f) d
PartEnds (Err stop.NoMemory) term number at s arenas before after runners facts old new d = PartCut number arenas before after old new d
