-- What the slab of a plan tree stands for.
use Rattle.std.specs.Prelude.{◌≡◌, ◌≢◌, ℕ, ◌+◌, ◌*◌, ◌≤◌, ◌<◌, List, [], ◌∷◌, length, map, Option, Some, None}
use Rattle.slab.specs.Slab.{Slab, get, slab_len}
use Rattle.spec_world.specs.declared.world.World.{World}
use Rattle.spec_world.specs.Worlds.{IsValidWorld}
use Rattle.spec_plan.specs.Templates.{templates_of}
use Rattle.plan_tree.specs.declared.node.Node.{Node}
use Rattle.spec_plan.specs.declared.part.Part.{Part}
use Rattle.spec_plan.specs.declared.part.Part.TheVariants.{Goals, Sequence, Condition, Action}
use Rattle.plan_tree.specs.declared.tree.PlanTree.{PlanTree}
use Rattle.spec_plan.specs.Forests.{Forest, Empty, Tree, AreApart, part_at}
use Rattle.plan_tree.specs.Sizes.{height, size, subtrees}
use Rattle.plan_tree.specs.Rules.{achievers_of, rule_of}

-- the slab has a node with this key, below this parent, with these children
pub record Keeps (s : Slab Node) (parent : Option ℕ) (key : ℕ) (part : Part) (children : List ℕ) : Type 0 where
  pub node : Node
  pub there : get s key ≡ Some node
  pub part_is : node.part ≡ part
  pub parent_is : node.parent ≡ parent
  pub children_are : node.children.items ≡ children

-- the nodes with these keys stand for this forest, below this parent
abbrev pub Stands : Slab Node → Option ℕ → List ℕ → Forest → Type 0
Stands s parent keys Empty = keys ≡ []
Stands s parent keys (Tree key part below rest) =
    (children others : List ℕ) × (keys ≡ key ∷ others) × Keeps s parent key part children × Stands s (Some key) children below × Stands s parent others rest

-- a node of a plan tree has what its part asks: children, or a row of the world and no children
abbrev pub PartFits : ℕ → Part → Forest → Type 0
PartFits rows (Condition row) below = (row < rows) × (below ≡ Empty)
PartFits rows (Action row) below = (row < rows) × (below ≡ Empty)
PartFits rows part below = below ≢ Empty

-- all nodes of a forest fit
abbrev pub PartsFit : ℕ → Forest → Type 0
PartsFit rows Empty = Unit {0}
PartsFit rows (Tree key part below rest) = PartFits rows part below × PartsFit rows below × PartsFit rows rest

-- Only the root is the sequence of the goals, and its tree is all. At most 64 goals stand below it; each expansion adds at
-- most a fallback, a sequence, 16 conditions and an action, on two more levels.
pub record IsPlanTree (rows : ℕ) (root : ℕ) (tree : Forest) : Type 0 where
  pub below : Forest
  pub is : tree ≡ Tree root Goals below Empty
  pub fit : PartsFit rows tree
  pub few : size tree ≤ 65 + 19 * subtrees tree
  pub low : height tree ≤ 2 + 2 * subtrees tree

-- the plan tree was made from this world, and is this term
pub record StandsFor (t : PlanTree) (world : World) (tree : Forest) : Type 0 where
  pub valid : IsValidWorld world
  pub rules : t.rules ≡ map rule_of world.rows
  pub templates : t.templates ≡ templates_of world.rows
  pub achievers : t.achievers ≡ map (achievers_of world.rows) world.rows
  pub nodes : Stands t.nodes None (t.root ∷ []) tree
  pub apart : AreApart tree
  pub whole : size tree ≡ slab_len t.nodes
  pub shape : IsPlanTree (length world.rows) t.root tree

-- the keys of conditions
abbrev pub IsConditionOf : Forest → ℕ → Type 0
IsConditionOf tree key = (row : ℕ) × (part_at key tree ≡ Some (Condition row))

-- the keys of sequences that were added
abbrev pub IsSequenceOf : Forest → ℕ → Type 0
IsSequenceOf tree key = (row : ℕ) × (part_at key tree ≡ Some (Sequence row))
