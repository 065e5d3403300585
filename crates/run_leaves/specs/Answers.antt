-- What a leaf answers to a call.
use Rattle.std.specs.Prelude.{ℕ, ℤ, List, Option, option_map}
use Rattle.spec_run.specs.declared.leaf.Instance.{Instance}
use Rattle.spec_run.specs.Leaf.{Answered, answer_by, timed_end}
use Rattle.run_driver.specs.declared.call.Call.{Call}
use Rattle.run_driver.specs.declared.expression.ReadyExpr.{ReadyExpr}
use Rattle.run_driver.specs.Ready.{ready_test}
use Rattle.run_driver.specs.Rules.{rule}

-- where it began at this moment
abbrev pub answer_since : Call → ℕ → Instance → List ℤ → Answered
answer_since call since before facts = answer_by (rule call.row.now).way (rule call.row.now) since before call.inputs.now facts call.moment

-- .. to one at which the time of its action is over
abbrev pub ended : Call → Option ReadyExpr → Instance → List ℤ → Answered
ended call fails before facts = timed_end (option_map ready_test fails) (rule call.row.now) before call.inputs.now facts
