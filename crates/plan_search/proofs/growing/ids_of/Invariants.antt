use Rattle.std.proofs.Common.{◌≡◌, take}
use Rattle.spec_plan.specs.Failing.{ids_of}
use Rattle.plan_search.proofs.growing.ids_of.Given as goal

abbrev pub invariant-loop-place : goal.invariant-loop-place
invariant-loop-place l = l.names.items ≡ ids_of l.rows (take l.place-index l.places)
