-- Which driver serves a leaf and by which of its instances, said of a tree and a world, and what calls leave of drivers.
use Rattle.std.specs.Prelude.{◌+◌, ◌*◌, ℕ, List, [], ◌∷◌, ◌-◌, nat_le, if◌then◌else◌, map, take, count_by, slice_index_or, Option, Some, None}
use Rattle.spec_tree.specs.declared.term.Tree.{Tree}
use Rattle.spec_world.specs.declared.world.World.{World}
use Rattle.spec_run.specs.Drivers.{DriverState, roster_called, roster_prepared}
use Rattle.spec_tree.specs.Terms.{leaf_ids}
use Rattle.spec_run.specs.Joins.{leaves_served, is_place, place_by, is_leaf}
use Rattle.spec_run.specs.Leaves.{row_of}
use Rattle.spec_run.specs.Run.{RunnerCall}
use Rattle.spec_tree.specs.Trees.{Node, nodes_of}

-- what is run: a tree in a world
pub record Setup : Type 0 where
  pub tree : Tree
  pub world : World

-- ---- Instances

-- how many instances each of these drivers needs, counted from this place on: one for each leaf of each runner that
-- it serves
abbrev pub wanted_from : Tree → World → List DriverState → ℕ → List DriverState → List ℕ
wanted_from tree world drivers place [] = []
wanted_from tree world drivers place (d ∷ ds) =
    world.runners * leaves_served world.rows drivers place (leaf_ids tree.term) ∷ wanted_from tree world drivers (place + 1) ds

abbrev pub instances_wanted : Tree → World → List DriverState → List ℕ
instances_wanted tree world drivers = wanted_from tree world drivers 0 drivers

-- ---- Drivers

-- the place of the driver that serves a node: a leaf is served by the first driver of its row's kind, any other node
-- by none
abbrev pub place_serving : World → List DriverState → Node → Option ℕ
place_serving world drivers node = if is_leaf node.kind then place_by (row_of world.rows node.id) drivers else None

-- these places by uid, for the nodes of a tree in pre-order; the uid 0 is no node's
abbrev pub serving_places : Tree → World → List DriverState → List (Option ℕ)
serving_places tree world drivers = None ∷ map (place_serving world drivers) (nodes_of tree.term)

-- ---- Instances

-- how many of the nodes with these places the driver at this place serves
abbrev pub served_among : ℕ → List (Option ℕ) → ℕ
served_among place places = count_by (is_place place) places

-- the number of an instance: they are numbered by runner, and then by uid, among the leaves that the driver serves
abbrev pub instance_number : List (Option ℕ) → ℕ → ℕ → ℕ → ℕ
instance_number places runner place uid = (runner - 1) * served_among place places + served_among place (take uid places)

-- ---- Calls

-- the place of the driver that serves a call's node, where there are this many runners; a runner that is not there
-- has none
abbrev pub place_called : ℕ → List (Option ℕ) → RunnerCall → Option ℕ
place_called runners places c = if nat_le c.runner runners then slice_index_or places c.call.uid None else None

-- the drivers after a call of the one at this place, for the instance of the call's leaf
abbrev pub call_made : Option ℕ → List (Option ℕ) → RunnerCall → List DriverState → List DriverState
call_made (Some place) places c drivers =
    roster_called drivers place c.call.phase (instance_number places c.runner place c.call.uid) c.call.left
call_made None places c drivers = drivers

-- the drivers after these calls for leaves of this many runners, in order
abbrev pub calls_made : ℕ → List (Option ℕ) → List RunnerCall → List DriverState → List DriverState
calls_made runners places [] drivers = drivers
calls_made runners places (c ∷ calls) drivers = calls_made runners places calls (call_made (place_called runners places c) places c drivers)

-- the drivers after the calls of a run, before which each was prepared for as many instances as it needs
abbrev pub roster_after_run : Tree → World → List DriverState → List RunnerCall → List DriverState
roster_after_run tree world drivers calls =
    calls_made world.runners (serving_places tree world drivers) calls (roster_prepared drivers (instances_wanted tree world drivers))
