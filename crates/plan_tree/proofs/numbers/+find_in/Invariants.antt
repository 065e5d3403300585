use Rattle.std.proofs.Common.{◌≡◌, ◌+◌, ◌≤◌, ℕ, Option, take}
use Rattle.spec_plan.specs.Forests.{Forest}
use Rattle.plan_tree.specs.Sizes.{height, size}
use Rattle.plan_tree.specs.Stands.{Stands}
use Rattle.plan_tree.proofs.numbers.+find_in.Given as goal

abbrev pub decreases-find_in : goal.decreases-find_in
decreases-find_in l = l.levels

-- past some trees the number is less by their nodes
abbrev pub invariant-loop-key : goal.invariant-loop-key
invariant-loop-key l = (parent : Option ℕ) (f : Forest) → Stands l.nodes parent (take l.key-index l.keys) f → height f ≤ l.levels → l.number ≡ l.left + size f
