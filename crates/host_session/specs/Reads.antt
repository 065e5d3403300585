-- What a host reads of a session.
use Rattle.std.specs.Prelude.{ℕ, List, [], ◌∷◌, Option, Some, None, option_and_then, slice_index_or}
use Rattle.std.specs.List.{flat_map}
use Rattle.spec_script.specs.declared.value.Value.{Value}
use Rattle.spec_run.specs.declared.memory.Memory.{Memory, Memory-F, fold-Memory}
use Rattle.spec_run.specs.declared.status.Status.{Status}
use Rattle.spec_run.specs.Leaf.{fresh}
use Rattle.spec_run.specs.Run.{Runner}
use Rattle.base_tables.specs.SlotTables.{slot_of}
use Rattle.spec_run.specs.Ports.{given_by}
use Rattle.spec_tree.specs.declared.term.PortValue.{PortValue}
use Rattle.spec_tree.specs.declared.term.PortValue.TheVariants.{Lit, Key}
use Rattle.spec_tree.specs.Boards.{port_of}
use Rattle.spec_world.specs.declared.world.Event.{Event}
use Rattle.spec_session.specs.declared.label.Label.{Label}
use Rattle.spec_session.specs.Labels.{labels}
use Rattle.spec_session.specs.Sessions.{Sitting}
use Rattle.host_session.specs.Numbered.{numbered}

-- the moment of the next of these events
abbrev pub next_moment : List Event → Option ℕ
next_moment [] = None
next_moment (e ∷ later) = Some e.at

-- the blackboard of a runner; one that is not there has no entries
abbrev pub board_by : Option Runner → List (Option Value)
board_by (Some r) = r.board
board_by None = []

abbrev pub board_of : Sitting → ℕ → List (Option Value)
board_of s runner = board_by (numbered s.state.runners runner)

-- the value of the entry of a key in a scope
abbrev pub entry_of : Sitting → ℕ → ℕ → List ℕ → Option Value
entry_of s runner scope key = option_and_then (λ slot. slice_index_or (board_of s runner) slot None) (slot_of s.tree scope key)

-- what a port has that is given this in the scope of a number: its literal, or the value of the entry of its key
abbrev pub port_by : Sitting → ℕ → ℕ → Option PortValue → Option Value
port_by s runner scope (Some (Lit value)) = Some value
port_by s runner scope (Some (Key key)) = entry_of s runner scope key
port_by s runner scope None = None

-- the value of a port of a node
abbrev pub port_value : Sitting → ℕ → ℕ → List ℕ → Option Value
port_value s runner uid port =
    option_and_then (λ (l : Label). port_by s runner l.scope (given_by (port_of l.ports port))) (numbered (labels s.tree) uid)

-- what the input ports of a runner's leaf held when it was started last, where it is told what it answers
abbrev pub inputs_by : Option Runner → ℕ → List (Option Value)
inputs_by (Some r) uid = (slice_index_or r.instances uid fresh).inputs
inputs_by None uid = []

abbrev pub inputs_of : Sitting → ℕ → ℕ → List (Option Value)
inputs_of s runner uid = inputs_by (numbered s.state.runners runner) uid

-- the statuses of nodes in pre-order, where those of its children are known
abbrev pub statuses_step : Memory-F (List Status) → List Status
statuses_step m = m.status ∷ flat_map (λ below. below) m.children

abbrev pub statuses : Memory → List Status
statuses = fold-Memory (List Status) statuses_step

-- the status of a node of a runner
abbrev pub status_of : Sitting → ℕ → ℕ → Option Status
status_of s runner uid = option_and_then (λ (r : Runner). numbered (statuses r.memory) uid) (numbered s.state.runners runner)
