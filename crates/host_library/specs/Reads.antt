-- What C reads of a session.
use Rattle.std.specs.Prelude.{ℕ, ℤ, nat_le, Bool, true, false, if◌then◌else◌, List, [], length, Option, Some, None, option_and_then, slice_get}
use Rattle.host_session.specs.Numbered.{numbered}
use Rattle.host_session.specs.Reads.{board_of, inputs_of, port_value, status_of}
use Rattle.spec_script.specs.declared.value.Value.{Value}
use Rattle.spec_run.specs.Joins.{is_leaf}
use Rattle.spec_run.specs.Leaves.{row_of}
use Rattle.spec_run.specs.declared.status.Status.{Status}
use Rattle.spec_session.specs.declared.label.Label.{Label}
use Rattle.spec_session.specs.Labels.{labels}
use Rattle.spec_session.specs.Sessions.{Sitting}
use Rattle.spec_tree.specs.declared.cell.Cell.{Cell}
use Rattle.spec_tree.specs.declared.term.Port.{Port}
use Rattle.spec_tree.specs.declared.term.PortValue.{PortValue}
use Rattle.spec_world.specs.declared.world.Fact.{Fact}
use Rattle.spec_world.specs.declared.world.Row.{Row}
use Rattle.spec_world.specs.declared.world.RowSort.{RowSort}
use Rattle.spec_world.specs.declared.world.RowSort.TheVariants.{Is, When, Timed, TimedBy, Replay, Gate, Sensed, Told}
use Rattle.spec_world.specs.Worlds.{outs_told}
use Rattle.host_library.specs.declared.values.Valued.{Valued}
use Rattle.host_library.specs.Numbers.{kind_number}
use Rattle.host_library.specs.Values.{int_told, no_value}

-- ---- Nodes

abbrev pub label_at : Sitting → ℕ → Option Label
label_at s uid = numbered (labels s.tree) uid

abbrev pub kind_told : Option Label → ℕ
kind_told (Some label) = kind_number label.kind
kind_told None = 0

abbrev pub scope_told : Option Label → ℕ
scope_told (Some label) = label.scope
scope_told None = 0

abbrev pub id_told : Option Label → List ℕ
id_told (Some label) = label.id
id_told None = []

abbrev pub name_told : Option Label → List ℕ
name_told (Some label) = label.name
name_told None = []

abbrev pub path_told : Option Label → List ℕ
path_told (Some label) = label.path
path_told None = []

abbrev pub ports_told : Option Label → List Port
ports_told (Some label) = label.ports
ports_told None = []

-- a runner of this number; a number of more than 8 bits is no runner's
abbrev pub runner_numbered : ℕ → Option ℕ
runner_numbered runner = if nat_le runner 255 then Some runner else None

abbrev pub status_read : Sitting → ℕ → ℕ → Option Status
status_read s runner uid = option_and_then (λ r. status_of s r uid) (runner_numbered runner)

-- ---- Ports

abbrev pub port_at : Sitting → ℕ → ℕ → Option Port
port_at s uid place = slice_get (ports_told (label_at s uid)) place

abbrev pub port_name : Option Port → List ℕ
port_name (Some port) = port.name
port_name None = []

abbrev pub port_given : Option Port → Option PortValue
port_given (Some port) = Some port.value
port_given None = None

-- what the port of a node at a place has now in a runner
abbrev pub port_read : Sitting → ℕ → ℕ → ℕ → Option Value
port_read s runner uid place =
    option_and_then (λ r. option_and_then (λ (port : Port). port_value s r uid port.name) (port_at s uid place)) (runner_numbered runner)

-- ---- Leaves

-- the row of a leaf, which nodes that are no leaves have none of
abbrev pub row_for : Sitting → Option Label → Option Row
row_for s (Some label) = if is_leaf label.kind then row_of s.world.rows label.id else None
row_for s None = None

abbrev pub row_at : Sitting → ℕ → Option Row
row_at s uid = row_for s (label_at s uid)

-- how the leaves of a row answer: told conditions 1 and actions 2, modelled conditions 3 and actions 4
abbrev pub sort_number : RowSort → ℕ
sort_number (Is fact op value) = 3
sort_number (When expr) = 3
sort_number (Timed ms fails) = 4
sort_number (TimedBy length fails) = 4
sort_number (Replay ms outcomes) = 4
sort_number (Gate expr) = 4
sort_number Sensed = 1
sort_number (Told outs) = 2

abbrev pub class_told : Option Row → ℕ
class_told (Some row) = sort_number row.sort
class_told None = 0

abbrev pub inputs_named : Option Row → List (List ℕ)
inputs_named (Some row) = row.ports
inputs_named None = []

abbrev pub outputs_named : Option Row → List (List ℕ)
outputs_named (Some row) = outs_told row.sort
outputs_named None = []

-- the text at a place; none where there is none
abbrev pub text_given : Option (List ℕ) → List ℕ
text_given (Some text) = text
text_given None = []

-- what an input held when its leaf was started last, in a runner
abbrev pub value_within : Option (Option Value) → Option Value
value_within (Some value) = value
value_within None = None

abbrev pub input_read : Sitting → ℕ → ℕ → ℕ → Option Value
input_read s runner uid place =
    option_and_then (λ r. value_within (slice_get (inputs_of s r uid) place)) (runner_numbered runner)

-- ---- Facts and entries

-- the number of a fact, if there is one
abbrev pub fact_told : Option ℤ → Valued
fact_told (Some n) = int_told n
fact_told None = no_value

abbrev pub fact_named : Option Fact → List ℕ
fact_named (Some fact) = fact.name
fact_named None = []

abbrev pub cell_scope : Option Cell → ℕ
cell_scope (Some cell) = cell.scope
cell_scope None = 0

abbrev pub cell_key : Option Cell → List ℕ
cell_key (Some cell) = cell.key
cell_key None = []

-- what an entry of a runner's blackboard holds
abbrev pub entry_read : Sitting → ℕ → ℕ → Option Value
entry_read s runner slot = option_and_then (λ r. value_within (slice_get (board_of s r) slot)) (runner_numbered runner)
