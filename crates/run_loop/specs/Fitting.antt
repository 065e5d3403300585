-- What is missing for what the nodes of an arena are told.
use Rattle.std.specs.Prelude.{ℕ, Bool, if◌then◌else◌, List, [], ◌∷◌, Option, Some, None, bytes_eq}
use Rattle.std.specs.List.{list_all, list_any}
use Rattle.std.specs.Option.{option_or}
use Rattle.spec_run.specs.declared.join_fault.JoinFault.{JoinFault}
use Rattle.spec_run.specs.declared.join_fault.JoinFault.TheVariants.{NoLeaf, NoOutput}
use Rattle.spec_world.specs.declared.world.Event.{Event}
use Rattle.spec_world.specs.declared.world.Telling.{Telling}
use Rattle.spec_world.specs.declared.world.Telling.TheVariants as telling
use Rattle.spec_world.specs.declared.world.ToldOut.{ToldOut}
use Rattle.spec_world.specs.declared.world.What.{What}
use Rattle.spec_world.specs.declared.world.What.TheVariants.{Tell}
use Rattle.run_driver.specs.declared.sort.ReadySort.{ReadySort}
use Rattle.run_driver.specs.Ready.{is_ready_told, ready_told}
use Rattle.run_arena.specs.declared.nodes.Node.{Node}
use Rattle.run_arena.specs.declared.nodes.ReadyLeaf.{ReadyLeaf}
use Rattle.run_arena.specs.Nodes.{leaf_at}

-- one of these names is that of an output that is told
abbrev pub is_named : List (List ℕ) → ToldOut → Bool
is_named names out = list_any (bytes_eq out.port) names

-- an output that is told is to have one of these names
abbrev pub names_lack : List (List ℕ) → ℕ → Telling → Option JoinFault
names_lack names uid (telling.Success outs) = if list_all (is_named names) outs then None else Some (NoOutput uid)
names_lack names uid telling.Failure = None

-- what is missing for what the leaf of a uid is told, which has a row of this sort
abbrev pub sort_lacks : ReadySort → ℕ → Telling → Option JoinFault
sort_lacks s uid telling = if is_ready_told s then names_lack (ready_told s) uid telling else Some (NoLeaf uid)

abbrev pub leaf_lacks : Option ReadyLeaf → ℕ → Telling → Option JoinFault
leaf_lacks (Some leaf) uid telling = sort_lacks leaf.row.sort uid telling
leaf_lacks None uid telling = Some (NoLeaf uid)

-- what is missing for an event of a runner with these nodes
abbrev pub nodes_lack : List Node → What → Option JoinFault
nodes_lack nodes (Tell runner uid telling) = leaf_lacks (leaf_at nodes uid) uid telling
nodes_lack nodes _ = None

-- what is missing for the first of these events for which something is missing
abbrev pub first_lack : List Node → List Event → Option JoinFault
first_lack nodes [] = None
first_lack nodes (e ∷ events) = option_or (nodes_lack nodes e.what) (first_lack nodes events)
