use Rattle.std.proofs.Common.{◌≡◌, ◌+◌, ◌*◌, ◌≤◌, ℕ, Option, take}
use Rattle.spec_plan.specs.Forests.{Forest}
use Rattle.plan_tree.specs.Sizes.{height}
use Rattle.spec_plan.specs.Planned.{terms_of}
use Rattle.plan_tree.specs.Stands.{Stands}
use Rattle.plan_tree.proofs.planned.+walk.Given as goal

abbrev pub decreases-terms_of : goal.decreases-terms_of
decreases-terms_of l = 2 * l.levels

abbrev pub decreases-term_of : goal.decreases-term_of
decreases-term_of l = 2 * l.levels + 1

-- the terms of the trees that were passed
abbrev pub invariant-terms_of-loop-key : goal.invariant-terms_of-loop-key
invariant-terms_of-loop-key l = (parent : Option ℕ) (f : Forest) → Stands l.nodes parent (take l.key-index l.keys) f → height f ≤ l.levels → l.terms.items ≡ terms_of l.rows f
