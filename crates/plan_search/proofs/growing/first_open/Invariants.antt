use Rattle.spec_world.specs.declared.world.World.{World}
use Rattle.spec_plan.specs.Forests.{Forest}
use Rattle.plan_tree.specs.Stands.{StandsFor}
use Rattle.plan_search.specs.Grown.{AreConditions}
use Rattle.plan_search.proofs.Growths.{Passed}
use Rattle.plan_search.proofs.growing.first_open.Given as goal

-- none of the conditions that were passed has an untried template
abbrev pub invariant-loop-place : goal.invariant-loop-place
invariant-loop-place l = (world : World) (tree : Forest) → StandsFor l.t world tree → AreConditions tree l.places → Passed world l.t tree l.places l.place-index
