use Rattle.std.proofs.Common.{◌≡◌, take}
use Rattle.spec_run.specs.Drivers.{roster_prepared}
use Rattle.host_session.specs.Five.{states_of}
use Rattle.host_session.proofs.five.FiveDrivers.prepare.Given as goal

-- a prefix of the drivers is prepared
abbrev pub invariant-loop-place : goal.invariant-loop-place
invariant-loop-place l = states_of l.self ≡ roster_prepared (states_of l.fn.self) (take l.place l.counts)
