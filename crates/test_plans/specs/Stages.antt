-- What is known of a plan tree while a row is tried.
use Rattle.std.specs.Prelude.{◌≡◌, ◌≤◌, ℕ}
use Rattle.spec_world.specs.declared.world.World.{World}
use Rattle.plan_tree.specs.declared.tree.PlanTree.{PlanTree}
use Rattle.spec_plan.specs.Forests.{Forest, times}
use Rattle.plan_tree.specs.Sizes.{subtrees}
use Rattle.plan_tree.specs.Stands.{IsConditionOf, IsSequenceOf, StandsFor}

-- it is a plan tree over this world, to which so many sequences were added, at most 120
abbrev pub IsPlan : World → PlanTree → ℕ → Type 0
IsPlan world t added = (tree : Forest) × StandsFor t world tree × (subtrees tree ≡ added) × (added ≤ 120)

-- it has this key
abbrev pub HasKey : World → PlanTree → ℕ → Type 0
HasKey world t key = (tree : Forest) → StandsFor t world tree → 1 ≤ times key tree

-- this is the key of a condition
abbrev pub HasCondition : World → PlanTree → ℕ → Type 0
HasCondition world t key = (tree : Forest) → StandsFor t world tree → IsConditionOf tree key

-- this is the key of a sequence that was added
abbrev pub HasSequence : World → PlanTree → ℕ → Type 0
HasSequence world t key = (tree : Forest) → StandsFor t world tree → IsSequenceOf tree key
