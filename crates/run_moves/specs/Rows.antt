-- What the control nodes answer over the whole list of answers of one visit.
use Rattle.std.specs.List.{count_by, list_any}
use Rattle.std.specs.Prelude.{ℕ, ◌+◌, ◌-◌, Bool, true, false, ◌||◌, ◌&&◌, if◌then◌else◌, nat_eq, nat_le, nat_lt, List, length, Option, Some, None}
use Rattle.spec_run.specs.declared.memory.Counts.{Counts}
use Rattle.spec_run.specs.declared.memory.Memo.TheVariants.{Index, Counts as Counted}
use Rattle.spec_run.specs.declared.moves.Span.TheVariants.{AllBut, From}
use Rattle.spec_run.specs.declared.status.Answer.{Answer}
use Rattle.spec_run.specs.declared.status.Answer.TheVariants.{Running, Success, Failure, Skipped}
use Rattle.spec_run.specs.Rules.Answers.{same_answer}
use Rattle.spec_run.specs.Steps.{Rule, keep, over, reset}

-- some child has answered so
abbrev pub some_is : Answer → List Answer → Bool
some_is a answers = list_any (λ b. same_answer a b) answers

-- ---- Sequence and Fallback

-- a Sequence stops at FAILURE and at RUNNING
abbrev pub sequence_stops : List Answer → Bool
sequence_stops answers = some_is Failure answers || some_is Running answers

-- it answers FAILURE or RUNNING where a child did; else SUCCESS, or SKIPPED where every child since the start
-- answered SKIPPED: none was seen before this visit, and none succeeded in it
abbrev pub sequence_answer : Bool → List Answer → Answer
sequence_answer seen answers =
    if some_is Failure answers then Failure
    else if some_is Running answers then Running
    else if seen || some_is Success answers then Success else Skipped

-- a Fallback has SUCCESS and FAILURE exchanged
abbrev pub fallback_stops : List Answer → Bool
fallback_stops answers = some_is Success answers || some_is Running answers

abbrev pub fallback_answer : Bool → List Answer → Answer
fallback_answer seen answers =
    if some_is Success answers then Success
    else if some_is Running answers then Running
    else if seen || some_is Failure answers then Failure else Skipped

-- the place of the last child of a list, of which the first has this place
abbrev pub last_place : ℕ → List Answer → ℕ
last_place first answers = first + length answers - 1

-- a Sequence or Fallback with this answer: RUNNING keeps the index of the child that is RUNNING
abbrev pub keeps_index : ℕ → Answer → Rule
keeps_index place Running = keep Running (Index place true)
keeps_index place a = over a

-- a SequenceWithMemory: on FAILURE only the children from the one that failed on are reset, and its index is kept
abbrev pub remembers_index : ℕ → Answer → Rule
remembers_index place Failure = reset (From place) (keep Failure (Index place false))
remembers_index place a = keeps_index place a

-- a reactive kind: on RUNNING all children but the one that is RUNNING are reset
abbrev pub halts_others : ℕ → Answer → Rule
halts_others place Running = reset (AllBut place) (keep Running (Index place true))
halts_others place a = over a

-- ---- Parallel

-- whether a child that was heard of has answered so in this visit
abbrev pub answered : Answer → Option Answer → Bool
answered a (Some b) = same_answer a b
answered a None = false

-- the successes so far: those of earlier visits, and those among the children heard of; and likewise the
-- failures; and the skipped ones of this visit
abbrev pub successes : Counts → List (Option Answer) → ℕ
successes c heard = c.successes + count_by (λ o. answered Success o) heard

abbrev pub failures : Counts → List (Option Answer) → ℕ
failures c heard = c.failures + count_by (λ o. answered Failure o) heard

abbrev pub skipped : List (Option Answer) → ℕ
skipped heard = count_by (λ o. answered Skipped o) heard

-- SUCCESS holds where the successes so far reach the success count, with the skipped ones where they count
abbrev pub has_succeeded : Counts → List (Option Answer) → Bool
has_succeeded c heard = nat_le c.need (successes c heard) || c.skips && nat_le c.need (successes c heard + skipped heard)

-- FAILURE holds where too few of n children are left for the success count, or the failures so far reach theirs
abbrev pub has_failed : ℕ → Counts → List (Option Answer) → Bool
has_failed n c heard = nat_lt (n - failures c heard) c.need || nat_le c.most (failures c heard)

abbrev pub parallel_stops : ℕ → Counts → List (Option Answer) → Bool
parallel_stops n c heard = has_succeeded c heard || has_failed n c heard

-- SUCCESS or FAILURE where it holds at the place where the visit stops; else SKIPPED where all n were skipped
-- in this visit, else RUNNING
abbrev pub parallel_answer : ℕ → Counts → List (Option Answer) → Answer
parallel_answer n c heard =
    if has_succeeded c heard then Success
    else if has_failed n c heard then Failure
    else if nat_eq (skipped heard) n then Skipped else Running

-- the counts after what was heard, with so many skipped ones
abbrev pub tally : Counts → List (Option Answer) → ℕ → Counts
tally c heard k = record c { successes = successes c heard; failures = failures c heard; skipped = k }

-- RUNNING keeps the successes and failures so far, and none of the skipped ones
abbrev pub keeps_counts : Counts → List (Option Answer) → Answer → Rule
keeps_counts c heard Running = keep Running (Counted (tally c heard 0))
keeps_counts c heard a = over a
