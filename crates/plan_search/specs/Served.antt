-- A roster that serves all rows of a world.
use Rattle.std.specs.Prelude.{◌≢◌, List, None}
use Rattle.std.specs.List.{All}
use Rattle.spec_world.specs.declared.world.Row.{Row}
use Rattle.spec_world.specs.declared.world.World.{World}
use Rattle.spec_run.specs.Drivers.{DriverState, kind_of_row, place_of_kind}

-- each row has a driver of its kind
abbrev pub AreServed : World → List DriverState → Type 0
AreServed world drivers = All (λ (row : Row). place_of_kind drivers (kind_of_row row) ≢ None) world.rows
