-- How rounds of children end, and go on.
use Rattle.std.specs.Prelude.{ℕ, ◌+◌, ◌<◌, ◌≤◌, ◌≡◌, nat_lt, if◌then◌else◌, Option, None, Some}
use Rattle.spec_run.specs.declared.memory.Memo.{Memo}
use Rattle.spec_run.specs.declared.memory.Memo.TheVariants.{Index}
use Rattle.spec_run.specs.declared.moves.Heard.{Heard}
use Rattle.spec_run.specs.declared.moves.Heard.TheVariants.{Answered}
use Rattle.spec_run.specs.declared.moves.Then.{Then}
use Rattle.spec_run.specs.declared.moves.Then.TheVariants.{Visit, Give}
use Rattle.spec_run.specs.declared.status.Answer.{Answer}
use Rattle.spec_run.specs.declared.status.Answer.TheVariants.{Failure, Success}
use Rattle.spec_run.specs.declared.status.RoundEnd.{RoundEnd}
use Rattle.spec_tree.specs.declared.term.Kind.{Kind}
use Rattle.spec_tree.specs.declared.term.Kind.TheVariants.{Fallback, ReactiveFallback, ReactiveSequence, Sequence, SequenceWithMemory}
use Rattle.spec_run.specs.Rules.Sequences.{passes, reactive_end, seen_of, sequence_end, with_memory_end}
use Rattle.spec_run.specs.Steps.{Rule}
use Rattle.run_moves.specs.declared.rounds.Manner.{Manner}
use Rattle.run_moves.specs.declared.rounds.Manner.TheVariants.{Keeps, Restarts, Remembers}

-- what comes after a round
abbrev pub ends_of : Manner → Answer → RoundEnd → Rule
ends_of Keeps goes = λ end. sequence_end goes end
ends_of Restarts goes = λ end. reactive_end goes end
ends_of Remembers goes = λ end. with_memory_end end

-- a child that is visited is there, not before this place, and the memo has its index
abbrev pub VisitsFrom : ℕ → ℕ → Memo → Then → Type 0
VisitsFrom first n kept (Give a) = Unit {0}
VisitsFrom first n kept (Visit place) = (first ≤ place) × (place < n) × (kept ≡ Index place (seen_of kept))

-- the child after the one at this place, where a round of this many children goes on after this answer and there is
-- one
abbrev pub next_passed : Answer → ℕ → ℕ → Answer → Option ℕ
next_passed goes n place a = if passes goes a then (if nat_lt (place + 1) n then Some (place + 1) else None) else None

-- the child that a Sequence or Fallback kind goes on to after what it has heard
abbrev pub next_child : Kind → ℕ → Heard → Option ℕ
next_child Sequence n (Answered place a) = next_passed Success n place a
next_child SequenceWithMemory n (Answered place a) = next_passed Success n place a
next_child ReactiveSequence n (Answered place a) = next_passed Success n place a
next_child Fallback n (Answered place a) = next_passed Failure n place a
next_child ReactiveFallback n (Answered place a) = next_passed Failure n place a
next_child kind n heard = None
