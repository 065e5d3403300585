-- Statuses, answers and kinds of nodes, as numbers for C.
use Rattle.std.specs.Prelude.{ℕ, Option, Some, None}
use Rattle.spec_run.specs.declared.status.Answer.{Answer}
use Rattle.spec_run.specs.declared.status.Answer.TheVariants as answer
use Rattle.spec_run.specs.declared.status.Status.{Status}
use Rattle.spec_run.specs.declared.status.Status.TheVariants as status
use Rattle.spec_tree.specs.declared.term.Kind.{Kind}
use Rattle.spec_tree.specs.declared.term.Kind.TheVariants as kind

-- the number of a status that is not there
abbrev pub no_status : ℕ
no_status = 255

abbrev pub status_number : Status → ℕ
status_number status.Idle = 0
status_number status.Running = 1
status_number status.Success = 2
status_number status.Failure = 3

abbrev pub status_told : Option Status → ℕ
status_told (Some s) = status_number s
status_told None = no_status

abbrev pub answer_number : Answer → ℕ
answer_number answer.Running = 1
answer_number answer.Success = 2
answer_number answer.Failure = 3
answer_number answer.Skipped = 4

abbrev pub kind_number : Kind → ℕ
kind_number kind.Sequence = 1
kind_number kind.SequenceWithMemory = 2
kind_number kind.ReactiveSequence = 3
kind_number kind.Fallback = 4
kind_number kind.ReactiveFallback = 5
kind_number kind.Parallel = 6
kind_number (kind.Switch cases) = 7
kind_number kind.IfThenElse = 8
kind_number kind.WhileDoElse = 9
kind_number kind.RecoveryNode = 10
kind_number kind.PipelineSequence = 11
kind_number kind.RoundRobin = 12
kind_number kind.Inverter = 13
kind_number kind.ForceSuccess = 14
kind_number kind.ForceFailure = 15
kind_number kind.KeepRunningUntilFailure = 16
kind_number kind.Retry = 17
kind_number kind.Repeat = 18
kind_number kind.Timeout = 19
kind_number kind.Delay = 20
kind_number kind.RunOnce = 21
kind_number kind.RateController = 22
kind_number kind.SubTree = 23
kind_number kind.AlwaysSuccess = 24
kind_number kind.AlwaysFailure = 25
kind_number kind.ScriptNode = 26
kind_number kind.ScriptCondition = 27
kind_number kind.Leaf = 28
