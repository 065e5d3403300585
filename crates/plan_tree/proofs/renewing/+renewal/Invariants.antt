use Rattle.std.proofs.Common.{◌≡◌, ◌+◌, ◌*◌, ◌≤◌, ℕ, Option, length, take}
use Rattle.spec_plan.specs.Forests.{Forest}
use Rattle.plan_tree.specs.Sizes.{height}
use Rattle.spec_plan.specs.Planned.{terms_of}
use Rattle.plan_tree.specs.Stands.{Stands}
use Rattle.plan_tree.proofs.renewing.+renewal.Given as goal

abbrev pub decreases-renew_terms : goal.decreases-renew_terms
decreases-renew_terms l = 2 * l.levels

abbrev pub decreases-renew : goal.decreases-renew
decreases-renew l = 2 * l.levels + 1

-- the terms of the trees that were passed stand first, and there are no more terms than trees
abbrev pub invariant-renew_terms-loop-place : goal.invariant-renew_terms-loop-place
invariant-renew_terms-loop-place l = record {
  passed : (parent : Option ℕ) (f : Forest) → Stands l.nodes parent (take l.place l.keys) f → height f ≤ l.levels →
      (take l.place l.terms.items ≡ terms_of l.rows f) × (l.place ≤ length l.terms.items);
  few : length l.terms.items ≤ length l.keys;
}
