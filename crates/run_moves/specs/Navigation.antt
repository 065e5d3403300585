-- What RecoveryNode, PipelineSequence and RoundRobin answer over the whole list of answers of one visit.
use Rattle.std.specs.List.{count_by, list_any}
use Rattle.std.specs.Prelude.{ℕ, ◌+◌, ◌-◌, Bool, true, false, not, ◌||◌, if◌then◌else◌, nat_eq, List, [], ◌∷◌, drop, length}
use Rattle.spec_run.specs.declared.memory.Memo.TheVariants.{Recoveries as Recovering, Rotation as Rotating}
use Rattle.spec_run.specs.declared.memory.Recoveries.{Recoveries}
use Rattle.spec_run.specs.declared.memory.Rotation.{Rotation}
use Rattle.spec_run.specs.declared.moves.Heard.TheVariants.{Answered}
use Rattle.spec_run.specs.declared.moves.Span.TheVariants as span
use Rattle.spec_run.specs.declared.status.Answer.{Answer}
use Rattle.spec_run.specs.declared.status.Answer.TheVariants.{Running, Success, Failure, Skipped}
use Rattle.spec_run.specs.Rules.Answers.{is_seen, same_answer}
use Rattle.spec_run.specs.Rules.RoundRobins.{next_of, rotation_at}
use Rattle.spec_run.specs.Steps.{Rule, keep, over, reset}
use Rattle.run_moves.specs.Decorators.Again.{last_answer}
use Rattle.run_moves.specs.Rows.{some_is}
use Rattle.run_moves.specs.Visits.{Told}

-- ---- RecoveryNode

-- the place of the child at hand, by whether it is the second
abbrev pub at_hand : Bool → ℕ
at_hand recovers = if recovers then 1 else 0

-- the answers of the two children in turn; after each the child that has answered is reset, and `recovers` says whether
-- the first of these answers is the second child's
abbrev pub turns_after_resets : Bool → List Answer → List Told
turns_after_resets recovers [] = []
turns_after_resets recovers (a ∷ more) =
    record { reset = span.One (at_hand (not recovers)); heard = Answered (at_hand recovers) a } ∷ turns_after_resets (not recovers) more

abbrev pub answers_in_turn : Bool → List Answer → List Told
answers_in_turn recovers [] = []
answers_in_turn recovers (a ∷ more) =
    record { reset = span.None; heard = Answered (at_hand recovers) a } ∷ turns_after_resets (not recovers) more

-- the other child is visited after FAILURE of the first child and SUCCESS of the second: the visit stops at another
-- answer
abbrev pub recovery_stops : Bool → List Answer → Bool
recovery_stops recovers [] = false
recovery_stops recovers (a ∷ more) = not (same_answer a (if recovers then Success else Failure)) || recovery_stops (not recovers) more

-- whether the last of these answers is the second child's
abbrev pub ends_in_recovery : Bool → List Answer → Bool
ends_in_recovery recovers [] = recovers
ends_in_recovery recovers (a ∷ []) = recovers
ends_in_recovery recovers (a ∷ b ∷ more) = ends_in_recovery (not recovers) (b ∷ more)

-- the last answer is given, but for one of the second child other than RUNNING, for which FAILURE is
abbrev pub recovery_answer : Bool → Answer → Answer
recovery_answer true Running = Running
recovery_answer true a = Failure
recovery_answer false a = a

-- RUNNING keeps the child at hand and the recoveries that are done, to which each SUCCESS of the second child has added
-- one
abbrev pub keeps_recoveries : Recoveries → Bool → List Answer → Answer → Rule
keeps_recoveries r recovers answers Running =
    keep Running (Recovering (record r { done = r.done + count_by (λ a. same_answer a Success) answers; recovers = recovers }))
keeps_recoveries r recovers answers a = over a

-- what is kept and given after these answers, of which the first is the second child's or the first's
abbrev pub recovery_row : Recoveries → Bool → List Answer → Rule
recovery_row r recovers answers =
    keeps_recoveries r (ends_in_recovery recovers answers) answers (recovery_answer (ends_in_recovery recovers answers) (last_answer answers))

-- ---- PipelineSequence

-- some child from this place on is RUNNING
abbrev pub runs_from : ℕ → List Answer → Bool
runs_from farthest answers = some_is Running (drop farthest answers)

-- a PipelineSequence stops at FAILURE, and at RUNNING of the farthest child or one after it
abbrev pub pipeline_stops : ℕ → List Answer → Bool
pipeline_stops farthest answers = some_is Failure answers || runs_from farthest answers

-- it answers FAILURE where a child did, RUNNING where the farthest child or one after it did; else SUCCESS, or SKIPPED
-- where every child of this visit answered SKIPPED
abbrev pub pipeline_answer : ℕ → Bool → List Answer → Answer
pipeline_answer farthest seen answers =
    if some_is Failure answers then Failure
    else if runs_from farthest answers then Running
    else if seen || list_any is_seen answers then Success else Skipped

-- ---- RoundRobin

-- the answers of n children going round, of which the first has this place; the child that has answered is reset
-- before the next one is visited
abbrev pub round_after_resets : ℕ → ℕ → List Answer → List Told
round_after_resets n place [] = []
round_after_resets n place (a ∷ more) =
    record { reset = span.One place; heard = Answered (next_of n place) a } ∷ round_after_resets n (next_of n place) more

abbrev pub answers_round : ℕ → ℕ → List Answer → List Told
answers_round n place [] = []
answers_round n place (a ∷ more) = record { reset = span.None; heard = Answered place a } ∷ round_after_resets n place more

-- the place of the child with the last answer, of which the first has this place
abbrev pub last_round : ℕ → ℕ → List Answer → ℕ
last_round n place [] = place
last_round n place (a ∷ []) = place
last_round n place (a ∷ b ∷ more) = last_round n (next_of n place) (b ∷ more)

-- the children of these answers that were skipped
abbrev pub skipped_among : List Answer → ℕ
skipped_among answers = count_by (λ a. same_answer a Skipped) answers

-- it answers SUCCESS or RUNNING where a child did; else SKIPPED where all n have been skipped since the start, else
-- FAILURE
abbrev pub robin_answer : ℕ → ℕ → List Answer → Answer
robin_answer n skipped answers =
    if some_is Success answers then Success
    else if some_is Running answers then Running
    else if nat_eq (skipped + skipped_among answers) n then Skipped else Failure

-- SUCCESS resets all children and keeps the child after the one that has succeeded; RUNNING keeps the child at hand,
-- and all that have failed or were skipped before it
abbrev pub keeps_rotation : ℕ → Rotation → List Answer → Answer → Rule
keeps_rotation n r answers Success = reset span.All (keep Success (Rotating (rotation_at (next_of n (last_round n r.at answers)))))
keeps_rotation n r answers Running =
    keep Running (Rotating (record { at = last_round n r.at answers; passed = r.passed + length answers - 1; skipped = r.skipped + skipped_among answers }))
keeps_rotation n r answers a = over a
