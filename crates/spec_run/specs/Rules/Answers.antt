-- What becomes of a child's answer.
use Rattle.std.specs.Prelude.{Bool, true, false}
use Rattle.spec_run.specs.declared.memory.Memo.{Memo}
use Rattle.spec_run.specs.declared.status.Answer.{Answer}
use Rattle.spec_run.specs.declared.status.Answer.TheVariants.{Running, Success, Failure, Skipped}
use Rattle.spec_run.specs.Steps.{Rule, keep, over}

-- an answer is passed on: RUNNING keeps this memo, and at any other the node is over
abbrev pub pass_on : Memo → Answer → Rule
pass_on memo Running = keep Running memo
pass_on memo a = over a

-- whether two answers are the same
abbrev pub same_answer : Answer → Answer → Bool
same_answer Running Running = true
same_answer Success Success = true
same_answer Failure Failure = true
same_answer Skipped Skipped = true
same_answer _ _ = false

-- whether an answer is other than SKIPPED
abbrev pub is_seen : Answer → Bool
is_seen Skipped = false
is_seen _ = true
