-- The visits of children that a node makes at once, with no answer, reset or port in between.
use Rattle.std.specs.Prelude.{ℕ, nat_lt, if◌then◌else◌, Option, None, Some}
use Rattle.spec_run.specs.declared.memory.Memo.{Memo}
use Rattle.spec_run.specs.declared.memory.Memo.TheVariants.{Index}
use Rattle.spec_run.specs.declared.moves.Heard.{Heard}
use Rattle.spec_run.specs.declared.moves.Heard.TheVariants.{Answered, Begin, Passed}
use Rattle.spec_tree.specs.declared.term.Kind.{Kind}
use Rattle.spec_tree.specs.declared.term.Kind.TheVariants.{Fallback, ForceFailure, ForceSuccess, Inverter, KeepRunningUntilFailure, ReactiveFallback, ReactiveSequence, Sequence, SequenceWithMemory, SubTree}
use Rattle.run_moves.specs.Rounds.{next_child}

-- the child at which a round of this many children begins by the memo, where there is one
abbrev pub first_in_round : ℕ → Memo → Option ℕ
first_in_round n (Index at seen) = if nat_lt at n then Some at else None
first_in_round n _ = None

-- the child with whose visit the rule of a node of this kind begins, by its memo
abbrev pub first_child : Kind → ℕ → Memo → Option ℕ
first_child Sequence n memo = first_in_round n memo
first_child Fallback n memo = first_in_round n memo
first_child SequenceWithMemory n memo = first_in_round n memo
first_child ReactiveSequence n memo = Some 0
first_child ReactiveFallback n memo = Some 0
first_child SubTree n memo = Some 0
first_child Inverter n memo = Some 0
first_child ForceSuccess n memo = Some 0
first_child ForceFailure n memo = Some 0
first_child KeepRunningUntilFailure n memo = Some 0
first_child _ n memo = None

-- the child that such a node visits at once with what it hears
abbrev pub child_at_once : Kind → ℕ → Memo → Heard → Option ℕ
child_at_once kind n memo (Begin picked) = first_child kind n memo
child_at_once kind n memo (Answered place a) = next_child kind n (Answered place a)
child_at_once kind n memo (Passed place) = None
