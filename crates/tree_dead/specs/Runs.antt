-- What a run tells of a node: the notes that name it, and the status that it has between events.
use Rattle.std.specs.Prelude.{ℕ, ◌-◌, ◌≡◌, List, [], ◌∷◌, Option, Some, None, slice_get, slice_index_or}
use Rattle.std.specs.List.{AllByRecursion, flat_map}
use Rattle.spec_run.specs.declared.block.Block.{Block}
use Rattle.spec_run.specs.declared.memory.Memory.{Memory, Memory-F, fold-Memory}
use Rattle.spec_run.specs.declared.note.Note.{Note}
use Rattle.spec_run.specs.declared.note.Note.TheVariants.{Changed, Started, Ran, Halted, Root, Faulted, Quenched}
use Rattle.spec_run.specs.declared.status.Status.{Status}
use Rattle.spec_run.specs.declared.status.Status.TheVariants.{Idle}
use Rattle.spec_tree.specs.declared.term.Tree.{Tree}
use Rattle.spec_world.specs.declared.world.Event.{Event}
use Rattle.spec_world.specs.declared.world.Row.{Row}
use Rattle.spec_world.specs.declared.world.World.{World}
use Rattle.spec_run.specs.Leaves.{row_of}
use Rattle.spec_run.specs.Run.{RunState, Runner, opening, step}
use Rattle.spec_tree.specs.Terms.{leaf_ids}

-- the node that a note names
abbrev pub named_by : Note → Option ℕ
named_by (Changed uid old new) = Some uid
named_by (Started uid answer) = Some uid
named_by (Ran uid answer) = Some uid
named_by (Halted uid) = Some uid
named_by (Root runner answer) = None
named_by (Faulted runner uid cause) = Some uid
named_by (Quenched runner uid) = Some uid

-- no note of some blocks names this node
abbrev pub IsNeverNamed : List Block → ℕ → Type 0
IsNeverNamed blocks uid = AllByRecursion (λ (block : Block). AllByRecursion (λ note. named_by note ≡ Some uid → ⊥) block.notes) blocks

-- the statuses of a node and of all below it, in pre-order
abbrev pub statuses_step : Memory-F (List Status) → List Status
statuses_step node = node.status ∷ flat_map (λ ss. ss) node.children

-- the statuses of all nodes in pre-order
abbrev pub statuses_in : Memory → List Status
statuses_in = fold-Memory (List Status) statuses_step

-- the status of the node with this uid
abbrev pub status_of_uid : Memory → ℕ → Status
status_of_uid m uid = slice_index_or (statuses_in m) (uid - 1) Idle

-- a node is IDLE at every runner
abbrev pub IsIdleIn : RunState → ℕ → Type 0
IsIdleIn s uid = (runner : ℕ) (r : Runner) → slice_get s.runners runner ≡ Some r → status_of_uid r.memory uid ≡ Idle

-- this state, and the state after each of these events
abbrev pub states_from : Tree → World → List Event → RunState → List RunState
states_from tree world [] s = s ∷ []
states_from tree world (event ∷ events) s = s ∷ states_from tree world events (step tree world event s).state

-- the states before, between and after the events of a run
abbrev pub states_between : Tree → World → List Event → List RunState
states_between tree world events = states_from tree world events (opening tree world)

-- there is a row of this ID
abbrev pub HasRow : List Row → List ℕ → Type 0
HasRow rows id = (row_of rows id ≡ None → ⊥)

-- there is a row for each leaf of a tree
abbrev pub LeavesHaveRows : Tree → World → Type 0
LeavesHaveRows tree world = AllByRecursion (HasRow world.rows) (leaf_ids tree.term)
