-- What the ports of a node are given, with their keys resolved.
use Rattle.std.specs.Prelude.{ℕ, ◌<◌, List, Option, Some, None, slice_index_or}
use Rattle.spec_script.specs.declared.value.Value.{Value}
use Rattle.spec_tree.specs.declared.term.Port.{Port}
use Rattle.spec_tree.specs.declared.term.PortValue.{PortValue}
use Rattle.spec_tree.specs.declared.term.PortValue.TheVariants.{Key, Lit as Literal}
use Rattle.spec_tree.specs.Boards.{names_in, port_of}
use Rattle.spec_run.specs.Ports.{given_by}
use Rattle.spec_run.specs.Sites.{View}
use Rattle.run_arena.specs.declared.source.Source.{Source}
use Rattle.run_arena.specs.declared.source.Source.TheVariants.{Absent, Lit, Slot}

-- the slot of a key in the scope of a view
abbrev pub slot_in_view : View → List ℕ → ℕ
slot_in_view view key = names_in view.slots view.scope key

-- what a port is given, its key resolved
abbrev pub source_of : View → Option PortValue → Source
source_of view (Some (Literal value)) = Lit value
source_of view (Some (Key key)) = Slot (slot_in_view view key)
source_of view None = Absent

-- what the port of this name is given
abbrev pub source_at : View → List Port → List ℕ → Source
source_at view ports name = source_of view (given_by (port_of ports name))

-- the value that a port has
abbrev pub source_value : List (Option Value) → Source → Option Value
source_value board Absent = None
source_value board (Lit value) = Some value
source_value board (Slot slot) = slice_index_or board slot None

-- a slot is less than this number
abbrev pub IsSourceOf : ℕ → Source → Type 0
IsSourceOf slots Absent = Unit {0}
IsSourceOf slots (Lit value) = Unit {0}
IsSourceOf slots (Slot slot) = slot < slots
