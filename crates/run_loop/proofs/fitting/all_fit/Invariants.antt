use Rattle.std.proofs.Common.{◌≡◌, drop}
use Rattle.run_loop.specs.Fitting.{first_lack}
use Rattle.run_loop.proofs.fitting.all_fit.Given as goal

-- nothing is missing for the events before this one
abbrev pub invariant-loop-event : goal.invariant-loop-event
invariant-loop-event l = first_lack l.nodes l.events ≡ first_lack l.nodes (drop l.event-index l.events)
