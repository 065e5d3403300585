-- What each kind of node does with its children in a visit.
use Rattle.std.specs.Prelude.{ℕ, ◌-◌, false}
use Rattle.spec_run.specs.declared.memory.Memo.{Memo}
use Rattle.spec_run.specs.declared.status.Answer.TheVariants.{Success, Failure, Skipped}
use Rattle.spec_tree.specs.declared.term.Kind.{Kind}
use Rattle.spec_tree.specs.declared.term.Kind.TheVariants.{Sequence, SequenceWithMemory, ReactiveSequence, Fallback, ReactiveFallback, Parallel, Switch, IfThenElse, WhileDoElse, RecoveryNode, PipelineSequence, RoundRobin, Inverter, ForceSuccess, ForceFailure, KeepRunningUntilFailure, Retry, Repeat, Timeout, Delay, RunOnce, RateController, SubTree}
use Rattle.spec_run.specs.Rules.Choices.{chosen_of, if_then_else, switch, while_do_else}
use Rattle.spec_run.specs.Rules.OneVisit.{as_it_is, child_as, delay, forced, inverted, keep_running, mark_of, run_once, timeout}
use Rattle.spec_run.specs.Rules.Parallels.{counts_of, parallel}
use Rattle.spec_run.specs.Rules.Pipelines.{pipeline}
use Rattle.spec_run.specs.Rules.Rates.{pace_of, rate_controller}
use Rattle.spec_run.specs.Rules.Recoveries.{recoveries_of, recovery_node}
use Rattle.spec_run.specs.Rules.RoundRobins.{rotation_of, round_robin}
use Rattle.spec_run.specs.Rules.Sequences.{index_of, reactive_end, round, seen_of, sequence_end, with_memory_end}
use Rattle.spec_run.specs.Rules.Turns.{turns, turns_of}
use Rattle.spec_run.specs.Steps.{Rule, over}

-- the rule of a node with this number of children, from its memo on, at a moment. `picked` is the child that
-- a Switch selects, and for a RunOnce with a mark 1 where `then_skip` is true, else 0. A node without
-- children follows no rule of this table
abbrev pub rule : Kind → ℕ → Memo → ℕ → ℕ → Rule
rule Sequence n memo picked now = round Success (sequence_end Success) (n - index_of memo) (index_of memo) (seen_of memo)
rule Fallback n memo picked now = round Failure (sequence_end Failure) (n - index_of memo) (index_of memo) (seen_of memo)
rule SequenceWithMemory n memo picked now = round Success with_memory_end (n - index_of memo) (index_of memo) (seen_of memo)
rule ReactiveSequence n memo picked now = round Success (reactive_end Success) n 0 false
rule ReactiveFallback n memo picked now = round Failure (reactive_end Failure) n 0 false
rule Parallel n memo picked now = parallel n n 0 (counts_of memo)
rule (Switch cases) n memo picked now = switch (chosen_of memo) picked
rule IfThenElse n memo picked now = if_then_else n (chosen_of memo)
rule WhileDoElse n memo picked now = while_do_else n memo
rule RecoveryNode n memo picked now = recovery_node (recoveries_of memo).recovers (recoveries_of memo)
rule PipelineSequence n memo picked now = pipeline (index_of memo) n 0 false
rule RoundRobin n memo picked now = round_robin n (rotation_of memo)
rule SubTree n memo picked now = child_as as_it_is memo
rule Inverter n memo picked now = child_as inverted memo
rule ForceSuccess n memo picked now = child_as (forced Success) memo
rule ForceFailure n memo picked now = child_as (forced Failure) memo
rule KeepRunningUntilFailure n memo picked now = keep_running memo
rule Retry n memo picked now = turns Failure (turns_of memo)
rule Repeat n memo picked now = turns Success (turns_of memo)
rule Timeout n memo picked now = timeout memo now
rule Delay n memo picked now = delay memo now
rule RunOnce n memo picked now = run_once (mark_of memo) picked
rule RateController n memo picked now = rate_controller (pace_of memo) now
rule _ n memo picked now = over Skipped
