use Rattle.std.proofs.Common.{◌≡◌, ◌++◌, take}
use Rattle.spec_plan.specs.Failing.{at_level}
use Rattle.plan_search.proofs.failing.add_level.Given as goal

abbrev pub invariant-loop-place : goal.invariant-loop-place
invariant-loop-place l = l.ordered.items ≡ l.fn.ordered.items ++ at_level (take l.place-index l.places) l.level
