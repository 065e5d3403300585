-- How a tree, a world and a roster fit together: what is missing for the leaves, and how many leaves each driver
-- serves.
use Rattle.std.specs.Prelude.{ℕ, zero, suc, nat_eq, Bool, false, true, if◌then◌else◌, List, [], ◌∷◌, count_by, slice_get, Option, Some, None, option_and_then, bytes_eq}
use Rattle.std.specs.List.{list_all, list_any}
use Rattle.std.specs.Option.{option_or}
use Rattle.spec_run.specs.declared.leaf.DriverKind.{DriverKind}
use Rattle.spec_world.specs.declared.world.Event.{Event}
use Rattle.spec_world.specs.declared.world.Row.{Row}
use Rattle.spec_world.specs.declared.world.RowSort.{RowSort}
use Rattle.spec_world.specs.declared.world.Telling.{Telling}
use Rattle.spec_world.specs.declared.world.Telling.TheVariants as telling
use Rattle.spec_world.specs.declared.world.ToldOut.{ToldOut}
use Rattle.spec_world.specs.declared.world.What.{What}
use Rattle.spec_world.specs.declared.world.What.TheVariants.{Tell}
use Rattle.spec_world.specs.declared.world.World.{World}
use Rattle.spec_world.specs.Worlds.{is_told, outs_told}
use Rattle.spec_run.specs.Drivers.{DriverState, kind_of_row, place_of_kind}
use Rattle.spec_run.specs.Leaves.{row_of}
use Rattle.spec_run.specs.declared.join_fault.JoinFault.{JoinFault}
use Rattle.spec_run.specs.declared.join_fault.JoinFault.TheVariants.{NoRow, NoDriver, NoLeaf, NoOutput}
use Rattle.spec_tree.specs.declared.term.Kind.{Kind}
use Rattle.spec_tree.specs.declared.term.Kind.TheVariants.{Leaf}
use Rattle.spec_tree.specs.declared.term.Tree.{Tree}
use Rattle.spec_tree.specs.Terms.{leaf_ids}
use Rattle.spec_tree.specs.Trees.{Node, nodes_of}

-- ---- Faults

abbrev pub lacks_driver : Option ℕ → DriverKind → Option JoinFault
lacks_driver (Some place) kind = None
lacks_driver None kind = Some (NoDriver kind)

abbrev pub lacks_by : Option Row → List DriverState → List ℕ → Option JoinFault
lacks_by (Some row) drivers id = lacks_driver (place_of_kind drivers (kind_of_row row)) (kind_of_row row)
lacks_by None drivers id = Some (NoRow id)

-- what is missing for a leaf of this ID: a row, or a driver of its row's kind
abbrev pub leaf_lacks : List Row → List DriverState → List ℕ → Option JoinFault
leaf_lacks rows drivers id = lacks_by (row_of rows id) drivers id

-- what is missing for the first leaf for which something is missing
abbrev pub first_missing : List Row → List DriverState → List (List ℕ) → Option JoinFault
first_missing rows drivers [] = None
first_missing rows drivers (id ∷ ids) = option_or (leaf_lacks rows drivers id) (first_missing rows drivers ids)

-- ---- Leaves and their drivers

abbrev pub place_by : Option Row → List DriverState → Option ℕ
place_by (Some row) drivers = place_of_kind drivers (kind_of_row row)
place_by None drivers = None

abbrev pub is_place : ℕ → Option ℕ → Bool
is_place place (Some other) = nat_eq other place
is_place place None = false

-- how many of the leaves of these IDs the driver at a place serves
abbrev pub leaves_served : List Row → List DriverState → ℕ → List (List ℕ) → ℕ
leaves_served rows drivers place ids = count_by (λ (id : List ℕ). is_place place (place_by (row_of rows id) drivers)) ids

abbrev pub is_leaf : Kind → Bool
is_leaf Leaf = true
is_leaf _ = false

-- ---- Tellings

-- the row of a node, where it is a leaf that has one
abbrev pub row_of_node : List Row → Node → Option Row
row_of_node rows node = if is_leaf node.kind then row_of rows node.id else None

-- the row of the leaf of a uid; nodes are numbered in pre-order from 1
abbrev pub row_at : List Row → List Node → ℕ → Option Row
row_at rows nodes zero = None
row_at rows nodes (suc before) = option_and_then (row_of_node rows) (slice_get nodes before)

-- whether a row's leaves may be told a value for this output
abbrev pub has_out : RowSort → ToldOut → Bool
has_out sort out = list_any (bytes_eq out.port) (outs_told sort)

-- an output that is told is to be one of the row's
abbrev pub lacks_output : RowSort → ℕ → Telling → Option JoinFault
lacks_output sort uid (telling.Success outs) = if list_all (has_out sort) outs then None else Some (NoOutput uid)
lacks_output sort uid telling.Failure = None

-- the row is to be one whose leaves are told what they answer
abbrev pub lacks_telling : Option Row → ℕ → Telling → Option JoinFault
lacks_telling (Some row) uid telling = if is_told row.sort then lacks_output row.sort uid telling else Some (NoLeaf uid)
lacks_telling None uid telling = Some (NoLeaf uid)

-- what is missing for an event: only a telling names a leaf
abbrev pub event_lacks : List Row → List Node → What → Option JoinFault
event_lacks rows nodes (Tell runner uid telling) = lacks_telling (row_at rows nodes uid) uid telling
event_lacks rows nodes _ = None

-- what is missing for the first event for which something is missing
abbrev pub first_untold : List Row → List Node → List Event → Option JoinFault
first_untold rows nodes [] = None
first_untold rows nodes (e ∷ events) = option_or (event_lacks rows nodes e.what) (first_untold rows nodes events)

-- what is missing for a tree in a world with these drivers: first for its leaves, and then for the events of the script
abbrev pub lack_of : Tree → World → List DriverState → Option JoinFault
lack_of tree world drivers =
    option_or (first_missing world.rows drivers (leaf_ids tree.term)) (first_untold world.rows (nodes_of tree.term) world.events)
