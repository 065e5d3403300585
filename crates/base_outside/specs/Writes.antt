-- What writes to a sink count.
use Rattle.std.specs.Prelude.{ℕ, Result, Ok, Err}
use Rattle.base_outside.specs.Counts.{next}
use Rattle.base_outside.specs.declared.sink.SinkFault.{SinkFault}
use Rattle.base_outside.specs.declared.sink.SinkFault.TheVariants as fault

-- the count of failures after a write with this answer
abbrev pub count_after : Result (Unit {0}) SinkFault → ℕ → ℕ
count_after (Err fault.Failed) count = next count
count_after answer count = count
