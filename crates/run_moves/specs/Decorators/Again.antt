-- What a Retry or Repeat answers over the whole list of its child's answers in one visit.
use Rattle.std.specs.List.{count_by, last_or, list_any}
use Rattle.std.specs.Prelude.{◌+◌, Bool, not, List, [], ◌∷◌, None, unwrap_or}
use Rattle.spec_run.specs.declared.memory.Memo.TheVariants.{Turns as Turned}
use Rattle.spec_run.specs.declared.memory.Turns.{Turns}
use Rattle.spec_run.specs.declared.moves.Heard.TheVariants.{Answered}
use Rattle.spec_run.specs.declared.moves.Span.TheVariants as span
use Rattle.spec_run.specs.declared.status.Answer.{Answer}
use Rattle.spec_run.specs.declared.status.Answer.TheVariants.{Running, Skipped}
use Rattle.spec_run.specs.Rules.Answers.{same_answer}
use Rattle.spec_run.specs.Steps.{Rule, keep, over}
use Rattle.run_moves.specs.Visits.{Told}

-- the answers of one child that is visited again and again: after each, it is reset
abbrev pub answers_after_resets : List Answer → List Told
answers_after_resets [] = []
answers_after_resets (a ∷ more) = record { reset = span.All; heard = Answered 0 a } ∷ answers_after_resets more

abbrev pub answers_of_child : List Answer → List Told
answers_of_child [] = []
answers_of_child (a ∷ more) = record { reset = span.None; heard = Answered 0 a } ∷ answers_after_resets more

-- the child is visited again after each of these answers, FAILURE in a Retry and SUCCESS in a Repeat: the visit
-- stops at another one
abbrev pub is_other : Answer → List Answer → Bool
is_other again answers = list_any (λ a. not (same_answer a again)) answers

-- the answer is the last one
abbrev pub last_answer : List Answer → Answer
last_answer answers = unwrap_or (last_or None answers) Skipped

-- RUNNING keeps the count, to which each answer after which the child was visited again has added one
abbrev pub keeps_turns : Answer → Turns → List Answer → Answer → Rule
keeps_turns again t answers Running = keep Running (Turned (record t { done = t.done + count_by (λ a. same_answer a again) answers }))
keeps_turns again t answers a = over a
