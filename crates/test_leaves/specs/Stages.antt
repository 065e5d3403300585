-- What is known of a roster while a row is tried: which instances of its driver are held, and since when.
use Rattle.std.specs.Prelude.{◌≡◌, ℕ, ◌<◌, List, length, map, Option}
use Rattle.spec_run.specs.declared.leaf.DriverKind.{DriverKind}
use Rattle.spec_run.specs.Drivers.{DriverState, driver_at}

-- the driver at this place is of this kind, and its instances are held since these times
pub record IsAtWork (drivers : List DriverState) (place : ℕ) (wanted : DriverKind) (since : List (Option ℕ)) : Type 0 where
  pub there : place < length drivers
  pub kind : (driver_at drivers place).kind ≡ wanted
  pub held : map (λ instance. instance.since) (driver_at drivers place).table ≡ since
