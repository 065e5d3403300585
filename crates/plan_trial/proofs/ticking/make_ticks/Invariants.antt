use Rattle.std.proofs.Common.{◌≡◌}
use Rattle.plan_trial.proofs.Ticks.{SoFar}
use Rattle.plan_trial.proofs.ticking.make_ticks.Given as goal

abbrev pub ghost-make_tick : goal.ghost-make_tick
ghost-make_tick g a = g.of

-- the ticks before this one were made, and none of them decided
abbrev pub invariant-loop-before : goal.invariant-loop-before
invariant-loop-before g l = record {
  made : SoFar g.of l.task.pace l.before l.fn.runs l.runs (g.D.Drivers.states l.fn.drivers) (g.D.Drivers.states l.drivers);
  room : l.block.notes.full ≡ l.fn.block.notes.full;
}
