-- RateController: it visits its child at most so often.
use Rattle.std.specs.Prelude.{ℕ, ◌-◌, ◌*◌, Bool, true, false, ◌||◌, if◌then◌else◌, nat_le}
use Rattle.spec_run.specs.declared.memory.Memo.{Memo}
use Rattle.spec_run.specs.declared.memory.Memo.TheVariants.{Pace as Paced}
use Rattle.spec_run.specs.declared.memory.Pace.{Pace}
use Rattle.spec_run.specs.declared.moves.Span.TheVariants.{All}
use Rattle.spec_run.specs.declared.status.Answer.{Answer}
use Rattle.spec_run.specs.declared.status.Answer.TheVariants.{Running, Success, Failure, Skipped}
use Rattle.spec_run.specs.Steps.{Rule, keep, over, reset, visit}

-- the pace of a memo
abbrev pub pace_of : Memo → Pace
pace_of (Paced p) = p
pace_of _ = record { first = 0; rate = 0; due = true }

-- whether the child is visited: it is due, or a period has passed since the moment. The rate is in thousandths of a
-- hertz, and a millisecond is a thousandth of a second
abbrev pub is_due : Pace → ℕ → Bool
is_due p now = p.due || nat_le 1000000 ((now - p.first) * p.rate)

-- after the answer of the child: while it is RUNNING it is due, SUCCESS begins a period, and the pace is kept after
-- SUCCESS and FAILURE
abbrev pub rate_after : Pace → ℕ → Answer → Rule
rate_after p now Running = keep Running (Paced (record p { due = true }))
rate_after p now Success = reset All (keep Success (Paced (record p { first = now; due = false })))
rate_after p now Failure = reset All (keep Failure (Paced (record p { due = false })))
rate_after p now Skipped = over Skipped

-- RateController: where the child is not visited RUNNING is given, and it stays as it is
abbrev pub rate_controller : Pace → ℕ → Rule
rate_controller p now = if is_due p now then visit 0 (λ a. rate_after p now a) else keep Running (Paced p)
