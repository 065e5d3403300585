use Rattle.std.proofs.Common.{◌≡◌, map, take}
use Rattle.spec_run.specs.Drivers.{roster_prepared}
use Rattle.run_driver.proofs.roster.prepare_all.Given as goal

-- a prefix of the drivers is prepared
abbrev pub invariant-loop-place : goal.invariant-loop-place
invariant-loop-place g l =
    let state = λ (b : _). (goal.Driver-dyn g (b.vtable, b.value)).state b.value in
    map state l.roster.items ≡ roster_prepared (map state l.fn.roster.items) (take l.place l.counts)
