-- The nodes of an arena that was made of the first runner's.
use Rattle.std.specs.Prelude.{ℕ, ◌+◌, ◌*◌, List, Option, Some, None, slice_index_or}
use Rattle.run_arena.specs.declared.nodes.Node.{Node}
use Rattle.run_arena.specs.declared.nodes.ReadyLeaf.{ReadyLeaf}

-- a leaf of the first runner with its instance after those of so many runners, each of which has so many leaves at each driver
abbrev pub leaf_moved : ℕ → List ℕ → Option ReadyLeaf → Option ReadyLeaf
leaf_moved before counts (Some leaf) = Some (record leaf { instance = leaf.instance + before * slice_index_or counts leaf.driver 0 })
leaf_moved before counts None = None

-- a node of the first runner with such a leaf, where it has one
abbrev pub node_moved : ℕ → List ℕ → Node → Node
node_moved before counts node = record node { leaf = leaf_moved before counts node.leaf }
