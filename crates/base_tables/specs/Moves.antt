-- What is still to come of a rule, and what a move does of it.
use Rattle.std.specs.Prelude.{ℕ, ◌+◌, ◌-◌, ◌*◌, ◌<◌, ◌≤◌, ◌^◌, ◌≡◌, Bool, true, false, Option, Some, None, unwrap_or, if◌then◌else◌, nat_eq}
use Rattle.spec_run.specs.declared.memory.Counts.{Counts}
use Rattle.spec_run.specs.declared.memory.Memo.{Memo}
use Rattle.spec_run.specs.declared.memory.Memo.TheVariants.{Index, Chosen, Finished, Counts as Counted, Turns as Turned, Recoveries as Recovering, Rotation as Rotating, Pace as Paced}
use Rattle.spec_run.specs.declared.memory.Recoveries.{Recoveries}
use Rattle.spec_run.specs.declared.memory.Rotation.{Rotation}
use Rattle.spec_run.specs.declared.memory.Turns.{Turns}
use Rattle.spec_run.specs.declared.moves.Heard.{Heard}
use Rattle.spec_run.specs.declared.moves.Heard.TheVariants.{Begin, Answered, Passed}
use Rattle.spec_run.specs.declared.moves.Move.{Move}
use Rattle.spec_run.specs.declared.moves.Span.{Span}
use Rattle.spec_run.specs.declared.moves.Span.TheVariants as span
use Rattle.spec_run.specs.declared.moves.Then.{Then}
use Rattle.spec_run.specs.declared.moves.Then.TheVariants.{Visit, Give}
use Rattle.spec_run.specs.declared.status.Answer.{Answer}
use Rattle.spec_run.specs.declared.status.Answer.TheVariants.{Success, Failure, Skipped}
use Rattle.spec_run.specs.declared.status.RoundEnd.{RoundEnd}
use Rattle.spec_tree.specs.declared.term.Kind.{Kind}
use Rattle.spec_tree.specs.declared.term.Kind.TheVariants.{Sequence, SequenceWithMemory, ReactiveSequence, Fallback, ReactiveFallback, Parallel, Switch, IfThenElse, WhileDoElse, RecoveryNode, PipelineSequence, RoundRobin, Inverter, ForceSuccess, ForceFailure, KeepRunningUntilFailure, Retry, Repeat, Timeout, Delay, RunOnce, RateController, SubTree}
use Rattle.spec_run.specs.Rules.Answers.{pass_on}
use Rattle.spec_run.specs.Rules.Choices.{chosen_of, if_then_else_after, while_do_else_after}
use Rattle.spec_run.specs.Rules.OneVisit.{as_it_is, forced, inverted, keep_running_after, run_once_after}
use Rattle.spec_run.specs.Rules.Kinds.{rule}
use Rattle.spec_run.specs.Rules.Parallels.{counted, counts_of, parallel, parallel_after}
use Rattle.spec_run.specs.Rules.Pipelines.{pipeline, pipeline_after}
use Rattle.spec_run.specs.Rules.Rates.{pace_of, rate_after}
use Rattle.spec_run.specs.Rules.Recoveries.{attempt_after, attempt_on, one_recovered, recoveries_left, recoveries_of, recover, recovery_after}
use Rattle.spec_run.specs.Rules.RoundRobins.{robin_after, robin_on, rotation_of}
use Rattle.spec_run.specs.Rules.Sequences.{index_of, reactive_end, round, round_after, seen_of, sequence_end, with_memory_end}
use Rattle.spec_run.specs.Rules.Turns.{limit_of, turn_after, turns_of, turns_on}
use Rattle.spec_run.specs.Steps.{Rule, keep, over, reset, visit, visit_or_pass}

-- the rest of a round after the answer of a child
abbrev pub round_on : Answer → (RoundEnd → Rule) → ℕ → Memo → Heard → Rule
round_on goes ends n memo (Answered place a) =
    round_after goes ends place (seen_of memo) (λ b. round goes ends (n - (place + 1)) (place + 1) b) a
round_on goes ends n memo _ = over Skipped

-- a Parallel that has heard of a child
abbrev pub parallel_on : ℕ → Counts → Heard → Rule
parallel_on n c (Answered place a) = parallel_after n (counted a c) (parallel n (n - (place + 1)) (place + 1) (counted a c))
parallel_on n c (Passed place) = parallel_after n c (parallel n (n - (place + 1)) (place + 1) c)
parallel_on n c (Begin picked) = over Skipped

-- an IfThenElse that has heard of its chosen branch, or of its condition
abbrev pub if_then_else_on : ℕ → Option ℕ → Heard → Rule
if_then_else_on n (Some kept) (Answered place a) = pass_on (Chosen (Some kept)) a
if_then_else_on n None (Answered place a) = if_then_else_after n a
if_then_else_on n _ _ = over Skipped

-- a WhileDoElse that has heard of its condition, child 0, or of a branch
abbrev pub while_do_else_on : ℕ → Memo → Heard → Rule
while_do_else_on n memo (Answered place a) = if nat_eq place 0 then while_do_else_after n memo a else pass_on memo a
while_do_else_on n memo _ = over Skipped

-- a RecoveryNode that has heard of its second child, where this is at hand, or of its first
abbrev pub recovery_on : Bool → Recoveries → Answer → Rule
recovery_on false r a = attempt_after r (recover (recoveries_left r) r) a
recovery_on true r a = recovery_after r (attempt_on (one_recovered r)) a

-- a RecoveryNode that has heard of the child at hand
abbrev pub recovery_heard : Recoveries → Heard → Rule
recovery_heard r (Answered place a) = recovery_on r.recovers r a
recovery_heard r _ = over Skipped

-- a PipelineSequence that has heard of a child
abbrev pub pipeline_on : ℕ → Memo → Heard → Rule
pipeline_on n memo (Answered place a) =
    pipeline_after (index_of memo) place (seen_of memo) (λ b. pipeline (index_of memo) (n - (place + 1)) (place + 1) b) a
pipeline_on n memo _ = over Skipped

-- a RoundRobin that has heard of the child at hand
abbrev pub robin_heard : ℕ → Rotation → Heard → Rule
robin_heard n r (Answered place a) = robin_after n r (robin_on n (n - (r.passed + 1)) r a) a
robin_heard n r _ = over Skipped

-- a RateController that has heard of its child at this moment
abbrev pub rate_on : Memo → ℕ → Heard → Rule
rate_on memo now (Answered place a) = rate_after (pace_of memo) now a
rate_on memo now _ = over Skipped

-- a node that has heard of the one child that it visits in a visit, and passes its answer on as another one
abbrev pub child_on : (Answer → Answer) → Memo → Heard → Rule
child_on other memo (Answered place a) = pass_on memo (other a)
child_on other memo _ = over Skipped

-- a KeepRunningUntilFailure that has heard of its child
abbrev pub keep_running_on : Memo → Heard → Rule
keep_running_on memo (Answered place a) = keep_running_after memo a
keep_running_on memo _ = over Skipped

-- a RunOnce that has heard of its child
abbrev pub run_once_on : Heard → Rule
run_once_on (Answered place a) = run_once_after a
run_once_on _ = over Skipped

-- a Retry or Repeat that has heard of its child
abbrev pub turns_heard : Answer → Turns → Heard → Rule
turns_heard again t (Answered place a) = turn_after again t (turns_on again (limit_of t.limit) t) a
turns_heard again t _ = over Skipped

-- what a node of this kind with so many children still does at a moment, from this memo and what it hears of a child
abbrev pub after : Kind → ℕ → ℕ → Memo → Heard → Rule
after Sequence n now = λ memo heard. round_on Success (sequence_end Success) n memo heard
after Fallback n now = λ memo heard. round_on Failure (sequence_end Failure) n memo heard
after SequenceWithMemory n now = λ memo heard. round_on Success with_memory_end n memo heard
after ReactiveSequence n now = λ memo heard. round_on Success (reactive_end Success) n memo heard
after ReactiveFallback n now = λ memo heard. round_on Failure (reactive_end Failure) n memo heard
after Parallel n now = λ memo heard. parallel_on n (counts_of memo) heard
after (Switch cases) n now = λ memo heard. child_on as_it_is memo heard
after IfThenElse n now = λ memo heard. if_then_else_on n (chosen_of memo) heard
after WhileDoElse n now = λ memo heard. while_do_else_on n memo heard
after RecoveryNode n now = λ memo heard. recovery_heard (recoveries_of memo) heard
after PipelineSequence n now = λ memo heard. pipeline_on n memo heard
after RoundRobin n now = λ memo heard. robin_heard n (rotation_of memo) heard
after SubTree n now = λ memo heard. child_on as_it_is memo heard
after Inverter n now = λ memo heard. child_on inverted memo heard
after ForceSuccess n now = λ memo heard. child_on (forced Success) memo heard
after ForceFailure n now = λ memo heard. child_on (forced Failure) memo heard
after KeepRunningUntilFailure n now = λ memo heard. keep_running_on memo heard
after Retry n now = λ memo heard. turns_heard Failure (turns_of memo) heard
after Repeat n now = λ memo heard. turns_heard Success (turns_of memo) heard
after Timeout n now = λ memo heard. child_on as_it_is memo heard
after Delay n now = λ memo heard. child_on as_it_is memo heard
after RunOnce n now = λ memo heard. run_once_on heard
after RateController n now = λ memo heard. rate_on memo now heard
after _ n now = λ memo heard. over Skipped

-- what a node still does, from this memo and what it hears, at a moment
abbrev pub rest : Kind → ℕ → ℕ → Memo → Heard → Rule
rest kind n now memo (Begin picked) = rule kind n memo picked now
rest kind n now memo (Answered place a) = after kind n now memo (Answered place a)
rest kind n now memo (Passed place) = after kind n now memo (Passed place)

-- what is heard of the child at a place: its answer, ..
abbrev pub hears_answer : ℕ → (Heard → Rule) → Rule
hears_answer place go = visit place (λ a. go (Answered place a))

-- .. or that it has completed, and is not visited
abbrev pub hears_or_passes : ℕ → (Heard → Rule) → Rule
hears_or_passes place go = visit_or_pass place (go (Passed place)) (λ a. go (Answered place a))

-- what a node of this kind hears of the child at a place
abbrev pub hears : Kind → ℕ → (Heard → Rule) → Rule
hears Parallel = λ place go. hears_or_passes place go
hears _ = λ place go. hears_answer place go

-- the answer is given, or a child is visited and what follows hears of it
abbrev pub going : (ℕ → (Heard → Rule) → Rule) → (Memo → Heard → Rule) → Memo → Then → Rule
going hear next memo (Give a) = keep a memo
going hear next memo (Visit place) = hear place (next memo)

-- the children of a span are reset, if it has any, before what follows
abbrev pub after_resets : Span → Rule → Rule
after_resets span.None rule = rule
after_resets span rule = reset span rule

-- a move, with the memo that it leaves and what follows it
abbrev pub makes : (ℕ → (Heard → Rule) → Rule) → (Memo → Heard → Rule) → Memo → Move → Rule
makes hear next memo move = after_resets move.reset (going hear next memo move.then)

-- a turn is left to a Retry or Repeat with a limit
abbrev pub TurnIsLeft : ℕ → Option ℕ → Type 0
TurnIsLeft count (Some limit) = (count < limit) × (limit < 2 ^ 32)
TurnIsLeft count None = Unit {0}

-- a recovery is left to a RecoveryNode whose second child is at hand
abbrev pub RecoveryIsLeft : Recoveries → Type 0
RecoveryIsLeft r = (r.limit < 2 ^ 31) × (r.recovers ≡ true → r.done < r.limit)

-- the child at hand of a RecoveryNode
abbrev pub place_at_hand : Recoveries → ℕ
place_at_hand r = if r.recovers then 1 else 0

-- the child at hand of a RoundRobin is there, and at least one child is left
abbrev pub HasChildAtHand : ℕ → Rotation → Type 0
HasChildAtHand n r = (r.at < n) × (r.passed < n) × (r.skipped ≤ r.passed)

-- the counts of a Parallel have room for the children that are left from this place on
abbrev pub HasRoom : ℕ → Counts → ℕ → Type 0
HasRoom n c first = c.successes + c.failures + c.skipped + (n - first) < 2 ^ 32

-- a chosen child is there
abbrev pub IsThere : ℕ → Option ℕ → Type 0
IsThere n (Some place) = place < n
IsThere n None = Unit {0}

-- the branch that was chosen is the child at this place, and it is the condition where none was
abbrev pub IsChoice : Option ℕ → ℕ → Type 0
IsChoice (Some kept) place = kept ≡ place
IsChoice None place = place ≡ 0

-- a memo with which a visit of a node of this kind with so many children can begin, and the child that was
-- picked for it
abbrev pub FitsStart : Kind → ℕ → Memo → ℕ → Type 0
FitsStart Parallel n memo picked = HasRoom n (counts_of memo) 0
FitsStart (Switch cases) n memo picked = picked < n
FitsStart IfThenElse n memo picked = (2 ≤ n) × IsThere n (chosen_of memo)
FitsStart WhileDoElse n memo picked = 2 ≤ n
FitsStart RecoveryNode n memo picked = (n ≡ 2) × RecoveryIsLeft (recoveries_of memo)
FitsStart RoundRobin n memo picked = HasChildAtHand n (rotation_of memo)
FitsStart Retry n memo picked = TurnIsLeft (turns_of memo).done (limit_of (turns_of memo).limit)
FitsStart Repeat n memo picked = TurnIsLeft (turns_of memo).done (limit_of (turns_of memo).limit)
FitsStart _ n memo picked = Unit {0}

-- the memo that such a node has while its child at this place is visited
abbrev pub FitsChild : Kind → ℕ → Memo → ℕ → Type 0
FitsChild Sequence n memo place = memo ≡ Index place (seen_of memo)
FitsChild Fallback n memo place = memo ≡ Index place (seen_of memo)
FitsChild SequenceWithMemory n memo place = memo ≡ Index place (seen_of memo)
FitsChild ReactiveSequence n memo place = memo ≡ Index place (seen_of memo)
FitsChild ReactiveFallback n memo place = memo ≡ Index place (seen_of memo)
FitsChild Parallel n memo place = (memo ≡ Counted (counts_of memo)) × HasRoom n (counts_of memo) place
FitsChild (Switch cases) n memo place = memo ≡ Chosen (Some place)
FitsChild IfThenElse n memo place = (2 ≤ n) × (memo ≡ Chosen (chosen_of memo)) × IsChoice (chosen_of memo) place
FitsChild WhileDoElse n memo place = 2 ≤ n
FitsChild RecoveryNode n memo place =
    (n ≡ 2) × (memo ≡ Recovering (recoveries_of memo)) × (place ≡ place_at_hand (recoveries_of memo)) × RecoveryIsLeft (recoveries_of memo)
FitsChild PipelineSequence n memo place = memo ≡ Index (index_of memo) (seen_of memo)
FitsChild RoundRobin n memo place =
    (memo ≡ Rotating (rotation_of memo)) × (place ≡ (rotation_of memo).at) × HasChildAtHand n (rotation_of memo)
FitsChild Retry n memo place = (memo ≡ Turned (turns_of memo)) × TurnIsLeft (turns_of memo).done (limit_of (turns_of memo).limit)
FitsChild Repeat n memo place = (memo ≡ Turned (turns_of memo)) × TurnIsLeft (turns_of memo).done (limit_of (turns_of memo).limit)
FitsChild RunOnce n memo place = memo ≡ Finished None
FitsChild RateController n memo place = memo ≡ Paced (pace_of memo)
FitsChild _ n memo place = Unit {0}

-- a child that is heard of is there, and the memo fits; only a Parallel hears of children that it does not visit
abbrev pub Fits : Kind → ℕ → Memo → Heard → Type 0
Fits kind n memo (Begin picked) = FitsStart kind n memo picked
Fits kind n memo (Answered place a) = (place < n) × FitsChild kind n memo place
Fits kind n memo (Passed place) = (kind ≡ Parallel) × (place < n) × FitsChild kind n memo place

-- the first place that can come after what was heard
abbrev pub next_place : Heard → ℕ
next_place (Begin picked) = 0
next_place (Answered place a) = place + 1
next_place (Passed place) = place + 1

-- the turns that a Retry or Repeat has left
abbrev pub turns_to_do : Turns → ℕ
turns_to_do t = unwrap_or (limit_of t.limit) 0 - t.done

-- the visits of children that a RecoveryNode has left after that of the child at hand
abbrev pub recoveries_to_do : Recoveries → ℕ
recoveries_to_do r = 2 * recoveries_left r - place_at_hand r

-- a bound on the visits of children that are left in a visit, before the child at this place
abbrev pub visits_left : Kind → ℕ → Memo → ℕ → ℕ
visits_left Retry n memo first = turns_to_do (turns_of memo) + (1 - first)
visits_left Repeat n memo first = turns_to_do (turns_of memo) + (1 - first)
visits_left RecoveryNode n memo first = recoveries_to_do (recoveries_of memo) + (1 - first)
visits_left RoundRobin n memo first = n - (rotation_of memo).passed + (1 - first)
visits_left _ n memo first = n - first

-- a child that is visited is there, the memo fits, and fewer visits are left
abbrev pub GoesOn : Kind → ℕ → Memo → ℕ → Memo → Then → Type 0
GoesOn kind n memo first kept (Give a) = Unit {0}
GoesOn kind n memo first kept (Visit place) =
    (place < n) × FitsChild kind n kept place × (visits_left kind n kept (place + 1) < visits_left kind n memo first)
