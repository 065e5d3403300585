-- A clock of the host.
use Rattle.std.specs.Prelude.{ℕ, ◌≡◌, ◌-◌, ◌/◌, ◌^◌, Option, Some, None, min}
use Rattle.std.specs.Option.{unwrap_or}

-- the time of the host from which it counts, in nanoseconds, where the host gave one, and the moment given last
pub record ClockState : Type 0 where
  pub start : Option ℕ
  pub last : ℕ

-- the whole milliseconds between these times in nanoseconds, as far as a number of 64 bits goes
abbrev pub millis : ℕ → ℕ → ℕ
millis start time = min ((time - start) / 1_000_000) (2 ^ 64 - 1)

-- a clock that counts from this start, at this time
abbrev pub counted : ℕ → ℕ → ClockState
counted start time = record { start = Some start; last = millis start time }

-- the clock once the host gave this time, or a fault; without a start it counts from this time on
abbrev pub after_reading : ClockState → Option ℕ → ClockState
after_reading s None = s
after_reading s (Some time) = counted (unwrap_or s.start time) time

-- one answer of the host leads from the first state to the second
pub record OneReading (old new : ClockState) : Type 0 where
  pub reading : Option ℕ
  pub after : new ≡ after_reading old reading
