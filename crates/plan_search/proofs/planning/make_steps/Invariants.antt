use Rattle.std.proofs.Common.{◌≡◌, length}
use Rattle.plan_search.proofs.Planned.{UnderWay}
use Rattle.plan_search.proofs.planning.make_steps.Given as goal

abbrev pub ghost-go_on : goal.ghost-go_on
ghost-go_on g a = a.world.now

-- the steps so far, one for each time round
abbrev pub invariant-loop : goal.invariant-loop
invariant-loop g l = record {
  way : UnderWay l.world l.task.limits l.t l.steps.items (g.D.Drivers.states l.fn.drivers) (g.D.Drivers.states l.drivers);
  many : length l.steps.items ≡ l.counter;
}
