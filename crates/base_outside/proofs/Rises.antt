-- Counts that rise.
use Rattle.std.proofs.Common.{ℕ, ◌≤◌, arith}
use Rattle.spec_outside.specs.Counts.{Rose}

-- what rose in the last part rose in the whole
pub Rose-after : (a b c : ℕ) → a ≤ b → Rose b c → Rose a c
Rose-after a b c h p = grind arith

-- what rose in the first part rose in the whole
pub Rose-before : (a b c : ℕ) → Rose a b → b ≤ c → Rose a c
Rose-before a b c p h = grind arith
