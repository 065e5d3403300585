-- SubTree and the decorators that visit their child at most once in a visit.
use Rattle.std.specs.Prelude.{ℕ, ◌-◌, Bool, ◌&&◌, not, if◌then◌else◌, nat_eq, nat_le, nat_lt, Option, Some, None}
use Rattle.spec_run.specs.declared.memory.Memo.{Memo}
use Rattle.spec_run.specs.declared.memory.Memo.TheVariants.{Since as Begun, Finished}
use Rattle.spec_run.specs.declared.memory.Since.{Since}
use Rattle.spec_run.specs.declared.moves.Span.TheVariants.{All}
use Rattle.spec_run.specs.declared.status.Answer.{Answer}
use Rattle.spec_run.specs.declared.status.Answer.TheVariants.{Running, Success, Failure, Skipped}
use Rattle.spec_run.specs.Rules.Answers.{pass_on}
use Rattle.spec_run.specs.Steps.{Rule, keep, over, reset, visit}

-- the child is visited and its answer passed on as another one; RUNNING keeps the memo
abbrev pub child_as : (Answer → Answer) → Memo → Rule
child_as other memo = visit 0 (λ a. pass_on memo (other a))

-- SubTree: the answer as it is
abbrev pub as_it_is : Answer → Answer
as_it_is a = a

-- Inverter: SUCCESS and FAILURE are exchanged
abbrev pub inverted : Answer → Answer
inverted Success = Failure
inverted Failure = Success
inverted a = a

-- ForceSuccess and ForceFailure: SUCCESS and FAILURE become this answer
abbrev pub forced : Answer → Answer → Answer
forced to Success = to
forced to Failure = to
forced to a = a

-- KeepRunningUntilFailure: on SUCCESS the child is reset and RUNNING is given
abbrev pub keep_running_after : Memo → Answer → Rule
keep_running_after memo Success = reset All (keep Running memo)
keep_running_after memo a = pass_on memo a

-- KeepRunningUntilFailure: its child is visited
abbrev pub keep_running : Memo → Rule
keep_running memo = visit 0 (λ a. keep_running_after memo a)

-- the start and the length of a memo
abbrev pub since_of : Memo → Since
since_of (Begun since) = since
since_of _ = record { first = 0; length = 0 }

-- whether a length, which is not 0, has passed since the start
abbrev pub is_late : Since → ℕ → Bool
is_late since now = not (nat_eq since.length 0) && nat_le since.length (now - since.first)

-- Timeout: once its length has passed the child is reset and FAILURE is given, with no visit; a length of 0
-- never passes
abbrev pub timeout : Memo → ℕ → Rule
timeout memo now = if is_late (since_of memo) now then over Failure else child_as as_it_is memo

-- Delay: RUNNING is given until its length has passed, and afterwards the child is visited
abbrev pub delay : Memo → ℕ → Rule
delay memo now =
    if nat_lt (now - (since_of memo).first) (since_of memo).length then keep Running memo else child_as as_it_is memo

-- the mark of a RunOnce: the answer that it has given
abbrev pub mark_of : Memo → Option Answer
mark_of (Finished mark) = mark
mark_of _ = None

-- RunOnce: SUCCESS or FAILURE of the child becomes the mark
abbrev pub run_once_after : Answer → Rule
run_once_after Running = keep Running (Finished None)
run_once_after Skipped = over Skipped
run_once_after a = reset All (keep a (Finished (Some a)))

-- with a mark the child is not visited: SKIPPED is given where `then_skip` is true, picked as 1, else the mark
abbrev pub run_once : Option Answer → ℕ → Rule
run_once None picked = visit 0 (λ a. run_once_after a)
run_once (Some a) picked = keep (if nat_eq picked 0 then a else Skipped) (Finished (Some a))
