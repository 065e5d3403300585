-- The nodes of a term while they are added to an arena.
use Rattle.std.specs.Prelude.{◌≡◌, ℕ, List, [], ◌∷◌, ◌++◌, length, map, sum, true, Option, Some, None, slice_index_or}
use Rattle.std.specs.List.{All, AllByRecursion, flat_map}
use Rattle.spec_tree.specs.declared.term.Term.{Term}
use Rattle.spec_tree.specs.declared.term.Tree.{Tree}
use Rattle.spec_world.specs.declared.world.World.{World}
use Rattle.spec_tree.specs.Boards.{Standing, keys_named, makes_scope, scope_below, standing_all, standing_from}
use Rattle.base_tables.specs.SlotTables.{scope_of}
use Rattle.spec_tree.specs.BuiltIns.{PortRule, ports_of}
use Rattle.spec_run.specs.Drivers.{DriverState, place_of_kind}
use Rattle.base_tables.specs.DriverCalls.{kind_of_way}
use Rattle.spec_run.specs.Leaves.{row_of}
use Rattle.spec_run.specs.Sites.{View}
use Rattle.spec_tree.specs.Terms.{leaf_ids, node_count}
use Rattle.spec_tree.specs.Trees.{Node as TreeNode, nodes_of}
use Rattle.base_tables.specs.Runnable.{NodeRuns}
use Rattle.run_driver.specs.Rules.{rule}
use Rattle.run_arena.specs.declared.nodes.Node.{Node}
use Rattle.run_arena.specs.declared.nodes.ReadyLeaf.{ReadyLeaf}
use Rattle.spec_run.specs.Joins.{first_missing, place_by}
use Rattle.run_arena.specs.Nodes.{AreCompiled, IsCompiled, IsNode, LeafStands, no_guards}
use Rattle.run_arena.specs.Resolving.{AreNamed, view_in}
use Rattle.run_arena.specs.Rows.{counted_at}
use Rattle.run_arena.specs.Sources.{IsSourceOf, source_at}
use Rattle.run_arena.specs.Stands.{StandAll}

-- ---- What must hold of a term

-- a node where it stands in a tree: its number leads to its scope, and its uid to the scope that it makes; the tree
-- has a slot for each name in it
pub record StandsIn (tree : Tree) (node : Standing) : Type 0 where
  pub scope : scope_of tree node.number ≡ node.scope
  pub made : makes_scope node.kind ≡ true → scope_of tree node.uid ≡ scope_below node.uid node.ports node.autoremap node.scope
  pub named : AreNamed tree node.number (keys_named node)

-- some terms of a tree, from this uid on, in the scope of a number: each node stands in the tree, can be run, and
-- nothing is missing for it
pub record CanBeLaid (tree : Tree) (world : World) (drivers : List DriverState) (ts : List Term) (uid number : ℕ) : Type 0 where
  pub stand : AllByRecursion (StandsIn tree) (standing_all (map standing_from ts) uid number (scope_of tree number))
  pub fit : AllByRecursion NodeRuns (flat_map (λ nodes. nodes) (map nodes_of ts))
  pub joined : first_missing world.rows drivers (flat_map (λ ids. ids) (map leaf_ids ts)) ≡ None

-- ---- Nodes

-- a node of an arena is this node of a term, apart from its size and what is below it, its code and guards, and its leaf,
-- none of which it has
pub record IsBareNode (view : View) (written : TreeNode) (node : Node) : Type 0 where
  pub kind : node.kind ≡ written.kind
  pub size : node.size ≡ 0
  pub children : node.children ≡ written.children
  pub code : node.code ≡ None
  pub guards : node.guards ≡ no_guards
  pub ports : node.ports ≡ map (λ (port : PortRule). source_at view written.ports port.name) (ports_of written.kind)
  pub slots : All (IsSourceOf (length view.slots)) node.ports
  pub leaf : node.leaf ≡ None

-- a node of an arena has the code and the guards of this node of a term
pub record IsScripted (view : View) (written : TreeNode) (node : Node) : Type 0 where
  pub code : IsCompiled view written.code node.code
  pub guards : AreCompiled view written.guards node.guards

-- what must hold of a node's leaf
unfoldable pub LeafIs : View → TreeNode → Option ReadyLeaf → Type 0
LeafIs view node leaf = LeafStands view node leaf

-- ---- Instances

abbrev pub driver_of : Option ReadyLeaf → Option ℕ
driver_of (Some leaf) = Some leaf.driver
driver_of None = None

-- a leaf has the first driver of its row's kind, and the next instance there
unfoldable pub IsNext : List DriverState → List ℕ → Option ReadyLeaf → Type 0
IsNext drivers next None = Unit {0}
IsNext drivers next (Some leaf) = (place_of_kind drivers (kind_of_way (rule leaf.row).way) ≡ Some leaf.driver) × (leaf.instance ≡ slice_index_or next leaf.driver 0)

-- a node of an arena was given the leaf of this node of a term, which has the next instance
pub record IsGivenLeaf (drivers : List DriverState) (view : View) (written : TreeNode) (old new : Node) (next left : List ℕ) : Type 0 where
  pub leaf : ReadyLeaf
  pub is : new ≡ record old { leaf = Some leaf }
  pub stands : LeafIs view written (Some leaf)
  pub is_next : IsNext drivers next (Some leaf)
  pub counted : left ≡ counted_at (Some leaf.driver) next

-- a node of an arena is this node of a term, apart from its size and what is below it, and its leaf has the next instance
pub record IsFilled (drivers : List DriverState) (view : View) (written : TreeNode) (node : Node) (next left : List ℕ) : Type 0 where
  pub stands : IsNode view written 0 node
  pub is_next : IsNext drivers next node.leaf
  pub counted : left ≡ counted_at (driver_of node.leaf) next

-- each leaf of some nodes has the first driver of its row's kind, and the next instance there
abbrev pub AreNext : List DriverState → List ℕ → List Node → Type 0
AreNext drivers next [] = Unit {0}
AreNext drivers next (node ∷ nodes) = IsNext drivers next node.leaf × AreNext drivers (counted_at (driver_of node.leaf) next) nodes

-- the next instances after those of some nodes
abbrev pub next_after : List Node → List ℕ → List ℕ
next_after [] next = next
next_after (node ∷ nodes) next = next_after nodes (counted_at (driver_of node.leaf) next)

-- the next instances after those of the leaves of these IDs
abbrev pub counted_all : World → List DriverState → List (List ℕ) → List ℕ → List ℕ
counted_all world drivers [] counts = counts
counted_all world drivers (id ∷ ids) counts = counted_all world drivers ids (counted_at (place_by (row_of world.rows id) drivers) counts)

-- ---- What was added

-- a node of a term was added to an arena, apart from its size and what is below it
pub record IsAdded (drivers : List DriverState) (view : View) (written : TreeNode) (old new : List Node) (next left : List ℕ) : Type 0 where
  pub node : Node
  pub is : new ≡ old ++ node ∷ []
  pub filled : IsFilled drivers view written node next left

-- the nodes of some terms were added to an arena: they stand there, and their leaves have the next instances
pub record AreLaid (tree : Tree) (world : World) (drivers : List DriverState) (ts : List Term) (number : ℕ) (old new : List Node) (next left : List ℕ) : Type 0 where
  pub added : List Node
  pub is : new ≡ old ++ added
  pub size : length added ≡ sum (map node_count ts)
  pub stand : StandAll ts new (view_in tree world number) (length old)
  pub next_ones : AreNext drivers next added
  pub following : left ≡ next_after added next
  pub counted : left ≡ counted_all world drivers (flat_map (λ ids. ids) (map leaf_ids ts)) next
