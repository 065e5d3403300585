-- A raise, of a plan tree that stands for a forest.
use Rattle.std.specs.Prelude.{◌≡◌, ℕ, Some}
use Rattle.spec_world.specs.declared.world.World.{World}
use Rattle.spec_plan.specs.declared.part.Part.{Part}
use Rattle.plan_tree.specs.declared.tree.PlanTree.{PlanTree}
use Rattle.spec_plan.specs.Forests.{Forest, part_at}
use Rattle.plan_tree.specs.Sizes.{subtrees}
use Rattle.plan_tree.specs.Stands.{StandsFor}
use Rattle.spec_plan.specs.Raising.{raised}

-- the plan tree stands for the raised tree, which has as many sequences, and each key names the same node
pub record Raises (after : PlanTree) (world : World) (tree : Forest) (k : ℕ) : Type 0 where
  pub tree_after : Forest
  pub is : raised k tree ≡ Some tree_after
  pub stands : StandsFor after world tree_after
  pub many : subtrees tree_after ≡ subtrees tree
  pub kept : (old : ℕ) (part : Part) → part_at old tree ≡ Some part → part_at old tree_after ≡ Some part
