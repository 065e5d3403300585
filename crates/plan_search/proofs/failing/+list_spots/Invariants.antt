use Rattle.std.proofs.Common.{◌≡◌, ◌≤◌, ◌++◌, ℕ, Option, take}
use Rattle.spec_plan.specs.Forests.{Forest}
use Rattle.plan_tree.specs.Sizes.{height}
use Rattle.plan_tree.specs.Stands.{Stands}
use Rattle.spec_plan.specs.Failing.{spots_from}
use Rattle.plan_search.proofs.failing.+list_spots.Given as goal

abbrev pub decreases-list_spots : goal.decreases-list_spots
decreases-list_spots l = l.levels

-- the nodes of the trees that were passed
abbrev pub invariant-loop-key : goal.invariant-loop-key
invariant-loop-key l = (parent : Option ℕ) (f : Forest) → Stands l.nodes parent (take l.key-index l.keys) f → height f ≤ l.levels → l.spots.items ≡ l.fn.spots.items ++ spots_from l.level f
