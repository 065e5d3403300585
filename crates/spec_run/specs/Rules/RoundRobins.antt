-- RoundRobin: it visits its children in turn.
use Rattle.std.specs.Prelude.{ℕ, zero, suc, ◌+◌, ◌-◌, if◌then◌else◌, nat_eq, nat_lt}
use Rattle.spec_run.specs.declared.memory.Memo.{Memo}
use Rattle.spec_run.specs.declared.memory.Memo.TheVariants.{Rotation as Rotating}
use Rattle.spec_run.specs.declared.memory.Rotation.{Rotation}
use Rattle.spec_run.specs.declared.moves.Span.TheVariants.{All, One}
use Rattle.spec_run.specs.declared.status.Answer.{Answer}
use Rattle.spec_run.specs.declared.status.Answer.TheVariants.{Running, Success, Failure, Skipped}
use Rattle.spec_run.specs.Steps.{Rule, keep, over, reset, visit}

-- a rotation that begins with this child
abbrev pub rotation_at : ℕ → Rotation
rotation_at place = record { at = place; passed = 0; skipped = 0 }

-- the rotation of a memo
abbrev pub rotation_of : Memo → Rotation
rotation_of (Rotating r) = r
rotation_of _ = rotation_at 0

-- the child after the one at this place; after the last of n comes the first
abbrev pub next_of : ℕ → ℕ → ℕ
next_of n place = if nat_lt (place + 1) n then place + 1 else 0

-- one more child was skipped, by its answer
abbrev pub skipped_by : Answer → ℕ
skipped_by Skipped = 1
skipped_by _ = 0

-- the child at hand has failed or was skipped, and the next one is at hand
abbrev pub passed_by : ℕ → Answer → Rotation → Rotation
passed_by n a r = record { at = next_of n r.at; passed = r.passed + 1; skipped = r.skipped + skipped_by a }

-- after the answer of the child at hand: on SUCCESS all children are reset and the next one is at hand at the next
-- start, RUNNING keeps the rotation, and at any other answer the others go on
abbrev pub robin_after : ℕ → Rotation → Rule → Answer → Rule
robin_after n r others Running = keep Running (Rotating r)
robin_after n r others Success = reset All (keep Success (Rotating (rotation_at (next_of n r.at))))
robin_after n r others a = others

-- after all n children: SKIPPED where all were skipped, else FAILURE
abbrev pub robin_end : ℕ → Rotation → Rule
robin_end n r = over (if nat_eq r.skipped n then Skipped else Failure)

-- after the child at hand has failed or was skipped by this answer: where it was the last one FAILURE or SKIPPED is
-- given, else it is reset and the next one is visited. So many of the n children are left
abbrev pub robin_on : ℕ → ℕ → Rotation → Answer → Rule
robin_on n zero r a = robin_end n (passed_by n a r)
robin_on n (suc left) r a =
    reset (One r.at) (visit (next_of n r.at) (λ b. robin_after n (passed_by n a r) (robin_on n left (passed_by n a r) b) b))

-- a RoundRobin of n children: the child at hand is visited
abbrev pub round_robin : ℕ → Rotation → Rule
round_robin n r = visit r.at (λ a. robin_after n r (robin_on n (n - (r.passed + 1)) r a) a)
