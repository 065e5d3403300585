-- How many calls of start and running the drivers of a run have had.
use Rattle.std.specs.Prelude.{ℕ, ◌+◌, List, sum_by}
use Rattle.spec_run.specs.Drivers.{DriverState}

-- by their totals
abbrev pub begun_by : List DriverState → ℕ
begun_by drivers = sum_by (λ (d : DriverState). d.totals.starts + d.totals.runnings) drivers
