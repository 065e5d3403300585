-- A run: one step for each event, and then the finish of each runner.
use Rattle.std.specs.Prelude.{ℕ, zero, suc, ℤ, ◌+◌, ◌-◌, List, [], ◌∷◌, ◌++◌, Bool, false, true, if◌then◌else◌, Option, Some, None, is_some, Result, Ok, Err, map, replicate, slice_get, slice_index_or, slice_set}
use Rattle.std.specs.Ordering.{int_eq}
use Rattle.std.specs.Str.{bytes_eq}
use Rattle.spec_script.specs.declared.value.Value.{Value}
use Rattle.spec_script.specs.declared.value.Value.TheVariants.{Int, Text}
use Rattle.spec_run.specs.declared.block.Block.{Block}
use Rattle.spec_run.specs.declared.block.Header.{Header}
use Rattle.spec_run.specs.declared.block.Header.TheVariants as header
use Rattle.spec_run.specs.declared.fault.NodeFault.{NodeFault}
use Rattle.spec_run.specs.declared.fault.RunFault.{RunFault}
use Rattle.spec_run.specs.declared.leaf.Instance.{Instance}
use Rattle.spec_run.specs.declared.leaf.Phase.TheVariants as phase
use Rattle.spec_run.specs.declared.memory.Memory.{Memory, out-Memory}
use Rattle.spec_run.specs.declared.note.Note.{Note}
use Rattle.spec_run.specs.declared.note.Note.TheVariants.{Root, Faulted, Quenched}
use Rattle.spec_run.specs.declared.status.Answer.{Answer}
use Rattle.spec_run.specs.declared.status.Status.{Status}
use Rattle.spec_run.specs.declared.status.Status.TheVariants as status
use Rattle.spec_tree.specs.declared.term.Tree.{Tree}
use Rattle.spec_world.specs.declared.world.Event.{Event}
use Rattle.spec_world.specs.declared.world.Fact.{Fact}
use Rattle.spec_world.specs.declared.world.Telling.{Telling}
use Rattle.spec_world.specs.declared.world.Telling.TheVariants as telling
use Rattle.spec_world.specs.declared.world.What.{What}
use Rattle.spec_world.specs.declared.world.What.TheVariants.{Tick, Halt, Change, Tell}
use Rattle.spec_world.specs.declared.world.World.{World}
use Rattle.spec_tree.specs.Boards.{main_scope, opening_board, slots}
use Rattle.spec_run.specs.Done.{Call, Done, State, following, done, follow}
use Rattle.spec_run.specs.Leaf.{fresh, let_go, released}
use Rattle.spec_run.specs.Leaf as leaf
use Rattle.spec_run.specs.Sites.{View, remembered}
use Rattle.spec_tree.specs.Terms.{node_count}
use Rattle.spec_run.specs.Visit.{change, idle, meaning}

-- ---- States

-- what a runner keeps between events: the nodes' memory, its blackboard by slot, and the instances of its
-- leaves by their uid
pub record Runner : Type 0 where
  pub memory : Memory
  pub board : List (Option Value)
  pub instances : List Instance

-- what a run keeps between events: its runners, numbered from 1, the facts that they share, and the moment of
-- the last event
pub record RunState : Type 0 where
  pub runners : List Runner
  pub facts : List ℤ
  pub last : ℕ

-- a call of the driver of a leaf of this runner
pub record RunnerCall : Type 0 where
  pub runner : ℕ
  pub call : Call

-- what an event leaves: the state after it, its block, the calls of drivers in order, and its fault
pub record Stepped : Type 0 where
  pub state : RunState
  pub block : Block
  pub calls : List RunnerCall
  pub fault : Option RunFault

-- a runner before its first event: everything is IDLE, nothing is held, and the board is the opening one
abbrev pub fresh_runner : Tree → Runner
fresh_runner tree = record { memory = idle tree.term; board = opening_board tree; instances = replicate (1 + node_count tree.term) fresh }

-- the state before the first event
abbrev pub opening : Tree → World → RunState
opening tree world = record { runners = replicate world.runners (fresh_runner tree); facts = map (λ (f : Fact). f.opening) world.facts; last = 0 }

-- what the root sees
abbrev pub root_view : Tree → World → View
root_view tree world = record { rows = world.rows; facts = world.facts; slots = slots tree; scope = main_scope }

-- ---- Parts of a runner

-- a root that has succeeded or failed becomes IDLE when its tick ends
abbrev pub settled : Status → Status
settled status.Success = status.Idle
settled status.Failure = status.Idle
settled old = old

-- the end of a tick: the note of its answer, and the root's own end
abbrev pub root_told : ℕ → Answer → Memory → State → Done Answer Memory
root_told runner answer m s =
    following (Root runner answer ∷ change 1 (out-Memory m).status (settled (out-Memory m).status)) []
    (done answer (remembered (settled (out-Memory m).status) (out-Memory m).memo (out-Memory m).children) s)

-- a tick visits the root, which has the uid 1
abbrev pub ticked : Tree → View → ℕ → Memory → State → Done Answer Memory
ticked tree view runner m s =
    follow ((meaning tree.term).visit view 1 m s) (λ m1. m1) (λ a m1 s1. root_told runner a m1 s1)

-- a halt and a finish reset the root
abbrev pub root_reset : Tree → View → Memory → State → Done (Unit {0}) Memory
root_reset tree view m s = (meaning tree.term).reset view 1 m s

-- ---- Quench

-- the calls of `halted` of all instances that are held, by uid, of instances of which the first has this uid
abbrev pub releases : ℕ → List Instance → List Call
releases uid [] = []
releases uid (i ∷ instances) =
    if is_some i.since then record { uid = uid; phase = phase.Halted; left = released i } ∷ releases (uid + 1) instances else releases (uid + 1) instances

-- the notes of such calls
abbrev pub quenched_notes : ℕ → List Call → List Note
quenched_notes runner calls = map (λ (c : Call). Quenched runner c.uid) calls

-- the calls of a runner's leaves
abbrev pub runner_calls : ℕ → List Call → List RunnerCall
runner_calls runner calls = map (λ (c : Call). let call : RunnerCall = record { runner = runner; call = c } in call) calls

-- the notes of a quench: each held leaf of each runner is called `halted`, by runner and uid, of runners of which
-- the first has this number
abbrev pub quench_notes : ℕ → List Runner → List Note
quench_notes runner [] = []
quench_notes runner (r ∷ runners) = quenched_notes runner (releases 0 r.instances) ++ quench_notes (runner + 1) runners

-- the calls of a quench, in the same order
abbrev pub quench_calls : ℕ → List Runner → List RunnerCall
quench_calls runner [] = []
quench_calls runner (r ∷ runners) = runner_calls runner (releases 0 r.instances) ++ quench_calls (runner + 1) runners

-- all nodes become IDLE and their memos are cleared, and no instance is held; no script runs
abbrev pub quenched_runner : Tree → Runner → Runner
quenched_runner tree r = record { memory = idle tree.term; board = r.board; instances = map let_go r.instances }

-- the state after a quench
abbrev pub quenched : Tree → RunState → RunState
quenched tree s = record { runners = map (quenched_runner tree) s.runners; facts = s.facts; last = s.last }

-- ---- Blocks

-- the facts whose values differ, by their number, with their new values
abbrev pub changed_from : ℕ → List ℤ → List ℤ → List (ℕ × ℤ)
changed_from fact (old ∷ olds) (new ∷ news) =
    if int_eq old new then changed_from (fact + 1) olds news else (fact, new) ∷ changed_from (fact + 1) olds news
changed_from fact _ _ = []

-- whether an entry already had this value
abbrev pub had : Option Value → Value → Bool
had (Some (Int old)) (Int new) = int_eq old new
had (Some (Text old)) (Text new) = bytes_eq old new
had _ new = false

-- an entry that changed or is new, before the other ones
abbrev pub with_change : ℕ → ℕ → Option Value → Option Value → List (ℕ × ℕ × Value) → List (ℕ × ℕ × Value)
with_change runner slot old (Some new) changes = if had old new then changes else (runner, slot, new) ∷ changes
with_change runner slot old None changes = changes

-- the entries of a runner's board that changed or are new, by slot, of entries of which the first has this slot
abbrev pub changed_entries : ℕ → ℕ → List (Option Value) → List (Option Value) → List (ℕ × ℕ × Value)
changed_entries runner slot (old ∷ olds) (new ∷ news) = with_change runner slot old new (changed_entries runner (slot + 1) olds news)
changed_entries runner slot _ _ = []

-- those of all runners, of runners of which the first has this number
abbrev pub changed_boards : ℕ → List Runner → List Runner → List (ℕ × ℕ × Value)
changed_boards runner (old ∷ olds) (new ∷ news) = changed_entries runner 0 old.board new.board ++ changed_boards (runner + 1) olds news
changed_boards runner _ _ = []

-- the block of an event that leads from one state to another
abbrev pub block_of : Header → List Note → RunState → RunState → Block
block_of header notes s after = record {
  header = header;
  notes = notes;
  facts = changed_from 0 s.facts after.facts;
  entries = changed_boards 1 s.runners after.runners;
}

-- ---- Steps

-- what an event leaves that leads from one state to another
abbrev pub stepped : Header → List Note → List RunnerCall → Option RunFault → RunState → RunState → Stepped
stepped header notes calls fault s after = record { state = after; block = block_of header notes s after; calls = calls; fault = fault }

-- an event of one runner, of which its part has left this state; a fault adds its note and a quench of all runners
abbrev pub told : {A : Type 0} → Result A NodeFault → Header → Tree → ℕ → List Note → List Call → RunState → RunState → Stepped
told (Ok a) header tree runner notes calls s after = stepped header notes (runner_calls runner calls) None s after
told (Err f) header tree runner notes calls s after =
    stepped header (notes ++ Faulted runner f.uid f.cause ∷ quench_notes 1 after.runners) (runner_calls runner calls ++ quench_calls 1 after.runners)
    (Some (record { runner = runner; uid = f.uid; cause = f.cause })) s (quenched tree after)

-- what a runner sees and changes at a moment
abbrev pub state_of : Runner → List ℤ → ℕ → State
state_of r facts at = record { board = r.board; facts = facts; instances = r.instances; moment = at }

-- the state in which a runner has changed
abbrev pub with_runner : {A : Type 0} → RunState → ℕ → ℕ → Done A Memory → RunState
with_runner s runner at d = record {
  runners = slice_set s.runners (runner - 1) (record { memory = d.memory; board = d.state.board; instances = d.state.instances });
  facts = d.state.facts;
  last = at;
}

-- an event of one runner, of which its part has left this
abbrev pub runner_step : {A : Type 0} → Header → Tree → ℕ → ℕ → RunState → Done A Memory → Stepped
runner_step header tree runner at s d = told d.answer header tree runner d.notes d.calls s (with_runner s runner at d)

-- the state at a later moment
abbrev pub later : RunState → ℕ → RunState
later s at = record { runners = s.runners; facts = s.facts; last = at }

-- an event of a runner that is not there, which no run has, does nothing
abbrev pub idle_step : Header → RunState → ℕ → Stepped
idle_step header s at = stepped header [] [] None s (later s at)

-- a tick of a runner, by what it keeps
abbrev pub tick_step : Option Runner → Tree → World → ℕ → ℕ → RunState → Stepped
tick_step (Some r) tree world runner at s =
    runner_step (header.Tick runner at) tree runner at s (ticked tree (root_view tree world) runner r.memory (state_of r s.facts at))
tick_step None tree world runner at s = idle_step (header.Tick runner at) s at

-- a reset of a runner's root, for a halt and for the finish
abbrev pub reset_step : Option Runner → Header → Tree → World → ℕ → ℕ → RunState → Stepped
reset_step (Some r) header tree world runner at s =
    runner_step header tree runner at s (root_reset tree (root_view tree world) r.memory (state_of r s.facts at))
reset_step None header tree world runner at s = idle_step header s at

-- a change of a fact
abbrev pub change_step : ℕ → ℤ → ℕ → RunState → Stepped
change_step fact value at s =
    stepped (header.Change fact value at) [] [] None s (record { runners = s.runners; facts = slice_set s.facts fact value; last = at })

-- whether a telling is of SUCCESS
abbrev pub succeeds : Telling → Bool
succeeds (telling.Success outs) = true
succeeds telling.Failure = false

-- the call by which the leaf of a uid, which has this instance, is told something
abbrev pub tell_call : ℕ → Telling → Instance → Call
tell_call uid telling instance = record { uid = uid; phase = phase.Told; left = leaf.told telling instance }

-- a runner after a call that leaves this of an instance
abbrev pub called : Runner → Call → Runner
called r c = record { memory = r.memory; board = r.board; instances = slice_set r.instances c.uid c.left }

-- the state after a call for a leaf of a runner that is there
abbrev pub after_call : RunState → ℕ → Runner → Call → ℕ → RunState
after_call s runner r c at = record { runners = slice_set s.runners (runner - 1) (called r c); facts = s.facts; last = at }

-- a telling of a leaf of a runner, by what the runner keeps: the leaf's driver is told, and nothing else changes
abbrev pub tell_step : Option Runner → ℕ → ℕ → Telling → ℕ → RunState → Stepped
tell_step (Some r) runner uid telling at s =
    let c : Call = tell_call uid telling (slice_index_or r.instances uid fresh) in
    stepped (header.Tell runner uid (succeeds telling) at) [] (runner_calls runner (c ∷ [])) None s (after_call s runner r c at)
tell_step None runner uid telling at s = idle_step (header.Tell runner uid (succeeds telling) at) s at

-- the runner of a number, where there is one
abbrev pub runner_at : RunState → ℕ → Option Runner
runner_at s runner = slice_get s.runners (runner - 1)

-- one event
abbrev pub step_by : What → Tree → World → ℕ → RunState → Stepped
step_by (Tick runner) tree world at s = tick_step (runner_at s runner) tree world runner at s
step_by (Halt runner) tree world at s = reset_step (runner_at s runner) (header.Halt runner at) tree world runner at s
step_by (Change fact value) tree world at s = change_step fact value at s
step_by (Tell runner uid telling) tree world at s = tell_step (runner_at s runner) runner uid telling at s

-- one event of a world at its moment
abbrev pub step : Tree → World → Event → RunState → Stepped
step tree world event s = step_by event.what tree world event.at s

-- the finish of a runner, at the moment of the last event
abbrev pub finish : Tree → World → ℕ → RunState → Stepped
finish tree world runner s = reset_step (runner_at s runner) (header.Finish runner s.last) tree world runner s.last s

-- ---- Runs

-- the blocks of a run, the calls of drivers in order, the state in its end, and its fault
pub record Trace : Type 0 where
  pub blocks : List Block
  pub calls : List RunnerCall
  pub state : RunState
  pub fault : Option RunFault

-- a step before the rest of a run, which a fault ends
abbrev pub before_rest : Option RunFault → Stepped → (RunState → Trace) → Trace
before_rest (Some fault) first rest = record { blocks = first.block ∷ []; calls = first.calls; state = first.state; fault = Some fault }
before_rest None first rest = record {
  blocks = first.block ∷ (rest first.state).blocks;
  calls = first.calls ++ (rest first.state).calls;
  state = (rest first.state).state;
  fault = (rest first.state).fault;
}

-- a step before the rest of a run, by its own fault
abbrev pub then_rest : Stepped → (RunState → Trace) → Trace
then_rest first rest = before_rest first.fault first rest

-- so many runners are finished in order, from this one on
abbrev pub finishes : Tree → World → ℕ → ℕ → RunState → Trace
finishes tree world runner zero s = record { blocks = []; calls = []; state = s; fault = None }
finishes tree world runner (suc others) s = then_rest (finish tree world runner s) (finishes tree world (runner + 1) others)

-- the events in order, and then the finish of all runners
abbrev pub run_from : Tree → World → List Event → RunState → Trace
run_from tree world [] s = finishes tree world 1 world.runners s
run_from tree world (e ∷ events) s = then_rest (step tree world e s) (run_from tree world events)

-- the run of a tree in a world over these events
abbrev pub run_over : Tree → World → List Event → Trace
run_over tree world events = run_from tree world events (opening tree world)

-- the run of a tree in a world over the events of the world's script
abbrev pub run : Tree → World → Trace
run tree world = run_over tree world world.events
