-- The Sequence and Fallback kinds: they visit their children in order.
use Rattle.std.specs.Prelude.{ℕ, zero, suc, ◌+◌, Bool, true, false, ◌||◌, if◌then◌else◌}
use Rattle.spec_run.specs.declared.memory.Memo.{Memo}
use Rattle.spec_run.specs.declared.memory.Memo.TheVariants.{Index}
use Rattle.spec_run.specs.declared.moves.Span.TheVariants.{From, AllBut}
use Rattle.spec_run.specs.declared.status.Answer.{Answer}
use Rattle.spec_run.specs.declared.status.Answer.TheVariants.{Running, Success, Failure, Skipped}
use Rattle.spec_run.specs.declared.status.RoundEnd.{RoundEnd}
use Rattle.spec_run.specs.declared.status.RoundEnd.TheVariants.{AtChild, AfterLast}
use Rattle.spec_run.specs.Rules.Answers.{same_answer, is_seen}
use Rattle.spec_run.specs.Steps.{Rule, keep, over, reset, visit}

-- whether a round goes on to the next child: it does after SKIPPED, and after the answer that `goes` on,
-- which is SUCCESS in a Sequence and FAILURE in a Fallback
abbrev pub passes : Answer → Answer → Bool
passes goes Skipped = true
passes goes a = same_answer goes a

-- a round after the answer of the child at this place: the others go on, or the round ends there
abbrev pub round_after : Answer → (RoundEnd → Rule) → ℕ → Bool → (Bool → Rule) → Answer → Rule
round_after goes ends place seen others a =
    if passes goes a then others (seen || is_seen a) else ends (AtChild place a)

-- a round of the children that are left, of which the first has this place; `seen` says whether a child
-- has answered other than SKIPPED, and `ends` what follows the round
abbrev pub round : Answer → (RoundEnd → Rule) → ℕ → ℕ → Bool → Rule
round goes ends zero place seen = ends (AfterLast seen)
round goes ends (suc left) place seen =
    visit place (λ a. round_after goes ends place seen (λ b. round goes ends left (place + 1) b) a)

-- Sequence and Fallback: RUNNING keeps the index of the child; another answer of a child is the node's
-- answer; and after the last child the answer is the one that goes on, or SKIPPED where every child was
-- skipped since the start
abbrev pub sequence_end : Answer → RoundEnd → Rule
sequence_end goes (AtChild place Running) = keep Running (Index place true)
sequence_end goes (AtChild place a) = over a
sequence_end goes (AfterLast true) = over goes
sequence_end goes (AfterLast false) = over Skipped

-- SequenceWithMemory: on FAILURE only the children from the index on are reset, and the index is kept for
-- the next start
abbrev pub with_memory_end : RoundEnd → Rule
with_memory_end (AtChild place Failure) = reset (From place) (keep Failure (Index place false))
with_memory_end end = sequence_end Success end

-- ReactiveSequence and ReactiveFallback: each visit begins anew, and on RUNNING all other children are reset
abbrev pub reactive_end : Answer → RoundEnd → Rule
reactive_end goes (AtChild place Running) = reset (AllBut place) (keep Running (Index place true))
reactive_end goes end = sequence_end goes end

-- the child that comes next, by the memo
abbrev pub index_of : Memo → ℕ
index_of (Index at seen) = at
index_of _ = 0

-- whether a child has answered other than SKIPPED, by the memo
abbrev pub seen_of : Memo → Bool
seen_of (Index at seen) = seen
seen_of _ = false
