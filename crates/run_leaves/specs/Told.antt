-- What the driver of the leaves that are told what they answer keeps.
use Rattle.spec_run.specs.declared.leaf.DriverKind.TheVariants as driver
use Rattle.spec_run.specs.Drivers.{DriverState}
use Rattle.run_leaves.specs.declared.told.Told.{Told}

abbrev pub told_state : Told → DriverState
told_state d = record { kind = driver.Told; mark = 0; table = d.table.items; totals = d.totals }
