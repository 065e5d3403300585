-- A roster of drivers is the same one.
use Rattle.std.specs.Prelude.{◌≡◌, ◌≤◌, ◌<◌, ◌^◌, ℕ, List, length}
use Rattle.spec_run.specs.declared.leaf.Totals.{Totals}
use Rattle.spec_run.specs.Drivers.{DriverState, driver_at}

-- ---- Rosters

-- a count of 64 bits has not fallen, and is still one of 64 bits
abbrev pub HasNotFallen : ℕ → ℕ → Type 0
HasNotFallen old new = old < 2 ^ 64 → (old ≤ new) × (new < 2 ^ 64)

pub record HasRisen (old new : Totals) : Type 0 where
  pub starts : HasNotFallen old.starts new.starts
  pub runnings : HasNotFallen old.runnings new.runnings
  pub haltings : HasNotFallen old.haltings new.haltings

-- there are as many drivers, each of the same kind and mark at its place, and no total has fallen
pub record IsSameRoster (old new : List DriverState) : Type 0 where
  pub as_many : length new ≡ length old
  pub kind : (place : ℕ) → (driver_at new place).kind ≡ (driver_at old place).kind
  pub mark : (place : ℕ) → (driver_at new place).mark ≡ (driver_at old place).mark
  pub totals : (place : ℕ) → HasRisen (driver_at old place).totals (driver_at new place).totals
