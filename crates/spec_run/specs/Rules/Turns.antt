-- Retry and Repeat: they visit their child again and again.
use Rattle.std.specs.Prelude.{ℕ, zero, suc, ℤ, pos, negsuc, ◌+◌, ◌-◌, if◌then◌else◌, Option, Some, None}
use Rattle.spec_run.specs.declared.memory.Memo.{Memo}
use Rattle.spec_run.specs.declared.memory.Memo.TheVariants.{Turns as Turned}
use Rattle.spec_run.specs.declared.memory.Turns.{Turns}
use Rattle.spec_run.specs.declared.moves.Span.TheVariants.{All}
use Rattle.spec_run.specs.declared.status.Answer.{Answer}
use Rattle.spec_run.specs.declared.status.Answer.TheVariants.{Running}
use Rattle.spec_run.specs.Rules.Answers.{pass_on, same_answer}
use Rattle.spec_run.specs.Steps.{Rule, keep, over, reset, visit}

-- the turns of a memo
abbrev pub turns_of : Memo → Turns
turns_of (Turned t) = t
turns_of _ = record { done = 0; limit = negsuc 0 }

-- a limit of turns; a negative one is none
abbrev pub limit_of : ℤ → Option ℕ
limit_of (pos n) = Some n
limit_of (negsuc n) = None

-- one more turn is done
abbrev pub one_more : Turns → Turns
one_more t = record t { done = t.done + 1 }

-- the answer after which the child is visited `again` is FAILURE in a Retry and SUCCESS in a Repeat; any
-- other is passed on, and RUNNING keeps the count
abbrev pub turn_after : Answer → Turns → Rule → Answer → Rule
turn_after again t others a = if same_answer a again then others else pass_on (Turned t) a

-- after that answer the count rises: where no visit is left the answer is given, else the child is reset
-- and visited again
abbrev pub turn_again : Answer → ℕ → Turns → Rule
turn_again again zero t = over again
turn_again again (suc left) t =
    reset All (visit 0 (λ a. turn_after again (one_more t) (turn_again again left (one_more t)) a))

-- without a limit no count is kept, and where the child would be visited again RUNNING is given
abbrev pub turns_on : Answer → Option ℕ → Turns → Rule
turns_on again (Some limit) t = turn_again again (limit - (t.done + 1)) t
turns_on again None t = reset All (keep Running (Turned t))

-- a Retry or Repeat: its child is visited
abbrev pub turns : Answer → Turns → Rule
turns again t = visit 0 (λ a. turn_after again t (turns_on again (limit_of t.limit) t) a)
