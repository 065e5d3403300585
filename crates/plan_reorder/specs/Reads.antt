-- Which facts are read by the heads before a node.
use Rattle.std.specs.Prelude.{◌≡◌, ℕ, ◌%◌, ◌≤◌, Bool, true, List, Some, slice_index_or}
use Rattle.std.specs.List.{AllByRecursion}
use Rattle.slab.specs.Slab.{get}
use Rattle.spec_world.specs.declared.world.World.{World}
use Rattle.spec_plan.specs.declared.domain.Test.{Test}
use Rattle.plan_tree.specs.declared.node.Node.{Node}
use Rattle.plan_tree.specs.declared.tree.PlanTree.{PlanTree}
use Rattle.plan_tree.specs.declared.rule.Rule.{Rule}
use Rattle.spec_plan.specs.Forests.{Forest, Place, place_of, times}
use Rattle.plan_tree.specs.Growth.{rule_test}
use Rattle.plan_tree.specs.Stands.{Stands, StandsFor}
use Rattle.spec_plan.specs.declared.head.Head.{Head}

-- whether the fact of this number counts as read: one at its place in the table is read, or the place is past the table
abbrev pub is_read : List Bool → ℕ → Bool
is_read read fact = slice_index_or read (fact % 256) true

-- the fact that a head tests counts as read
abbrev pub IsRead : List Rule → List Bool → Head → Type 0
IsRead rules read head = (test : Test) → rule_test rules head.row ≡ Some test → is_read read test.fact ≡ true

abbrev pub AreRead : List Rule → List Bool → List Head → Type 0
AreRead rules read heads = AllByRecursion (IsRead rules read) heads

-- a node of a plan tree: where it stands, and the trees below it
pub record IsPlaced (t : PlanTree) (world : World) (tree : Forest) (key : ℕ) (place : Place) (node : Node) (below : Forest) : Type 0 where
  pub stands : StandsFor t world tree
  pub place_is : place_of key tree ≡ Some place
  pub there : get t.nodes key ≡ Some node
  pub below_stands : Stands t.nodes (Some key) node.children.items below
  pub inside : (k : ℕ) → times k below ≤ times k tree
