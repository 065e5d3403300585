use Rattle.spec_world.specs.declared.world.World.{World}
use Rattle.spec_plan.specs.Forests.{Forest}
use Rattle.plan_tree.specs.Stands.{IsSequenceOf, StandsFor}
use Rattle.plan_search.proofs.Settles.{SoFar}
use Rattle.plan_search.proofs.settling.settle.Given as goal

-- the raises so far, each of which brought the sequence nearer to the front
abbrev pub invariant-loop-raises : goal.invariant-loop-raises
invariant-loop-raises l = (world : World) (tree : Forest) → StandsFor l.fn.t world tree → IsSequenceOf tree l.sequence → SoFar world l.fn.t l.t tree l.sequence l.raises
