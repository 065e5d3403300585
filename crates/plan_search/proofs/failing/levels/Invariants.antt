use Rattle.std.proofs.Common.{◌≡◌, take}
use Rattle.spec_plan.specs.Failing.{levels}
use Rattle.plan_search.proofs.failing.levels.Given as goal

abbrev pub invariant-loop-place : goal.invariant-loop-place
invariant-loop-place l = l.deepest ≡ levels (take l.place-index l.places)
