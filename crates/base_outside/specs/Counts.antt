-- Counts of calls and of failures, which are numbers of 64 bits.
use Rattle.std.specs.Prelude.{ℕ, ◌+◌, ◌-◌, ◌^◌, min}

-- the count after one more
abbrev pub next : ℕ → ℕ
next count = min (count + 1) (2 ^ 64 - 1)
