-- RecoveryNode: it visits its first child again after its second has helped.
use Rattle.std.specs.Prelude.{ℕ, zero, suc, ◌+◌, ◌-◌, Bool, true, false}
use Rattle.spec_run.specs.declared.memory.Memo.{Memo}
use Rattle.spec_run.specs.declared.memory.Memo.TheVariants.{Recoveries as Recovering}
use Rattle.spec_run.specs.declared.memory.Recoveries.{Recoveries}
use Rattle.spec_run.specs.declared.moves.Span.TheVariants.{One}
use Rattle.spec_run.specs.declared.status.Answer.{Answer}
use Rattle.spec_run.specs.declared.status.Answer.TheVariants.{Running, Success, Failure}
use Rattle.spec_run.specs.Rules.Answers.{pass_on}
use Rattle.spec_run.specs.Steps.{Rule, keep, over, reset, visit}

-- the recoveries of a memo
abbrev pub recoveries_of : Memo → Recoveries
recoveries_of (Recovering r) = r
recoveries_of _ = record { done = 0; limit = 0; recovers = false }

-- how many recoveries are left
abbrev pub recoveries_left : Recoveries → ℕ
recoveries_left r = r.limit - r.done

-- one more recovery is done, and child 0 is at hand
abbrev pub one_recovered : Recoveries → Recoveries
one_recovered r = record r { done = r.done + 1; recovers = false }

-- after the answer of child 0: FAILURE goes to what follows it, and any other answer is passed on
abbrev pub attempt_after : Recoveries → Rule → Answer → Rule
attempt_after r failed Failure = failed
attempt_after r failed a = pass_on (Recovering (record r { recovers = false })) a

-- child 0 is visited
abbrev pub attempt : Recoveries → Rule → Rule
attempt r failed = visit 0 (λ a. attempt_after r failed a)

-- after the answer of child 1: on SUCCESS it is reset and child 0 is visited again, RUNNING keeps that it is at hand,
-- and any other answer gives FAILURE
abbrev pub recovery_after : Recoveries → Rule → Answer → Rule
recovery_after r again Success = reset (One 1) again
recovery_after r again Running = keep Running (Recovering (record r { recovers = true }))
recovery_after r again a = over Failure

-- after FAILURE of child 0: where no recovery is left FAILURE is given, else child 0 is reset and child 1 is visited
abbrev pub recover : ℕ → Recoveries → Rule
recover zero r = over Failure
recover (suc left) r =
    reset (One 0) (visit 1 (λ a. recovery_after r (attempt (one_recovered r) (recover left (one_recovered r))) a))

-- child 0 is visited, with the recoveries that are left
abbrev pub attempt_on : Recoveries → Rule
attempt_on r = attempt r (recover (recoveries_left r) r)

-- a RecoveryNode: the child at hand is visited
abbrev pub recovery_node : Bool → Recoveries → Rule
recovery_node false r = attempt_on r
recovery_node true r = visit 1 (λ a. recovery_after r (attempt_on (one_recovered r)) a)
