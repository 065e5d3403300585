use Rattle.std.proofs.Common.{◌≡◌, map, drop}
use Rattle.base_tables.specs.DriverCalls.{total_held}
use Rattle.run_driver.proofs.roster.count_none.Given as goal

-- as many instances are held in all as by the drivers still to come
abbrev pub invariant-loop-driver : goal.invariant-loop-driver
invariant-loop-driver g l =
    let state = λ (b : _). (goal.Driver-dyn g (b.vtable, b.value)).state b.value in
    total_held (map state (drop l.driver-index l.roster)) ≡ total_held (map state l.roster)
