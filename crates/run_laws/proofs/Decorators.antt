-- SubTree and the decorators that visit their child at most once in a visit keep the rules.
use Rattle.std.proofs.Common.{◌≡◌, ℕ, ◌-◌, List, Bool, true, false, nat_eq, nat_lt, cond, refl, ap, arith}
use Rattle.std.proofs.lemmas.Bool.{cond_both}
use Rattle.spec_run.specs.declared.memory.Memo.{Memo}
use Rattle.spec_run.specs.declared.memory.Memo.TheVariants.{Nothing, Since as Begun, Finished}
use Rattle.spec_run.specs.declared.memory.Since.{Since}
use Rattle.std.specs.Prelude.{Some, None, codes}
use Rattle.spec_run.specs.declared.moves.Span.TheVariants as span
use Rattle.spec_run.specs.declared.status.Answer.{Answer}
use Rattle.spec_run.specs.declared.status.Answer.TheVariants as answer
use Rattle.spec_run.specs.declared.status.Status.{Status}
use Rattle.spec_tree.specs.declared.term.Kind.{Kind}
use Rattle.spec_tree.specs.declared.term.Kind.TheVariants.{KeepRunningUntilFailure, Timeout, Delay, RunOnce}
use Rattle.spec_run.specs.Rules.Answers.{pass_on}
use Rattle.spec_run.specs.Rules.OneVisit.{as_it_is, child_as, delay, forced, inverted, is_late, keep_running, keep_running_after, run_once, run_once_after, timeout}
use Rattle.base_tables.specs.Shapes.{AllIdle, IsBegun, IsMark, NoneCompleted}
use Rattle.spec_run.specs.Steps.{is_completed, keep, over, reset}
use Rattle.spec_run.specs.Visit.{status_of}
use Rattle.run_laws.proofs.Acts.{Changed}
use Rattle.run_laws.proofs.Nodes.{Fits, Goes, Node, is_over, keeps, passes_on, resets_first, visits}
use Rattle.run_laws.proofs.Choices.{none_completed}

-- an answer is turned into RUNNING only where it is RUNNING
abbrev pub RunsAsItIs : (Answer → Answer) → Type 0
RunsAsItIs other = (a : Answer) → other a ≡ answer.Running → a ≡ answer.Running

pub inverted_runs : RunsAsItIs inverted
inverted_runs answer.Running is = refl
inverted_runs answer.Success is = cc
inverted_runs answer.Failure is = cc
inverted_runs answer.Skipped is = cc

pub success_runs : RunsAsItIs (forced answer.Success)
success_runs answer.Running is = refl
success_runs answer.Success is = cc
success_runs answer.Failure is = cc
success_runs answer.Skipped is = cc

pub failure_runs : RunsAsItIs (forced answer.Failure)
failure_runs answer.Running is = refl
failure_runs answer.Success is = cc
failure_runs answer.Failure is = cc
failure_runs answer.Skipped is = cc

-- no child has completed where all are IDLE
pub idle_none_completed : (ss : List Status) → AllIdle ss → NoneCompleted ss
idle_none_completed ss idle = λ k. ap is_completed (idle k (omega arith))

-- a kind whose memo fits wherever no child has completed
module _ (n : Node) (kind : Kind) (memo : Memo) (fits : (ss : List Status) → NoneCompleted ss → Fits n kind (record { answer = answer.Running; memo = memo }) ss) where
  pub child_goes : (other : Answer → Answer) (ss : List Status) → RunsAsItIs other → NoneCompleted ss → Goes n kind ss (child_as other memo)
  child_goes other ss runs none =
      visits n kind 0 (λ a. pass_on memo (other a)) ss
      (λ a ss1 changed. passes_on n kind memo (other a) ss1 (λ is. fits ss1 (none_completed 0 a ss ss1 (λ k apart. none k) changed (runs a is))))

  -- all children are reset and RUNNING is given
  pub reset_goes : (ss : List Status) → Goes n kind ss (reset span.All (keep answer.Running memo))
  reset_goes ss =
      resets_first n kind span.All (keep answer.Running memo) ss
      (λ ss1 rested. keeps n kind answer.Running memo ss1 (fits ss1 (idle_none_completed ss1 (λ k from. rested.away k refl))))

module _ (n : Node) where
  -- ---- KeepRunningUntilFailure

  keeping : (ss : List Status) → NoneCompleted ss → Fits n KeepRunningUntilFailure (record { answer = answer.Running; memo = Nothing }) ss
  keeping ss none = none

  keep_running_after_goes : (a : Answer) (ss ss1 : List Status) → NoneCompleted ss → Changed 0 (status_of a) ss ss1 → Goes n KeepRunningUntilFailure ss1 (keep_running_after Nothing a)
  keep_running_after_goes answer.Running ss ss1 none changed = keeps n KeepRunningUntilFailure answer.Running Nothing ss1 (none_completed 0 answer.Running ss ss1 (λ k apart. none k) changed refl)
  keep_running_after_goes answer.Success ss ss1 none changed = reset_goes n KeepRunningUntilFailure Nothing keeping ss1
  keep_running_after_goes answer.Failure ss ss1 none changed = is_over n KeepRunningUntilFailure answer.Failure ss1 refl
  keep_running_after_goes answer.Skipped ss ss1 none changed = is_over n KeepRunningUntilFailure answer.Skipped ss1 refl

  pub keep_running_goes : (ss : List Status) → NoneCompleted ss → Goes n KeepRunningUntilFailure ss (keep_running Nothing)
  keep_running_goes ss none = visits n KeepRunningUntilFailure 0 (λ a. keep_running_after Nothing a) ss (λ a ss1 changed. keep_running_after_goes a ss ss1 none changed)

  -- ---- Timeout and Delay

  pub timeout_goes : (since : Since) (now : ℕ) (ss : List Status) → IsBegun since n.moment n.ports (codes "msec") → NoneCompleted ss → Goes n Timeout ss (timeout (Begun since) now)
  timeout_goes since now ss begun none =
      cond_both (is_late since now) (over answer.Failure) (child_as as_it_is (Begun since)) (λ rule. Goes n Timeout ss rule)
      (λ _. is_over n Timeout answer.Failure ss refl)
      (λ _. child_goes n Timeout (Begun since) (λ ss1 none1. (begun, none1)) as_it_is ss (λ a is. is) none)

  pub delay_goes : (since : Since) (now : ℕ) (ss : List Status) → IsBegun since n.moment n.ports (codes "delay_msec") → NoneCompleted ss → Goes n Delay ss (delay (Begun since) now)
  delay_goes since now ss begun none =
      cond_both (nat_lt (now - since.first) since.length) (keep answer.Running (Begun since)) (child_as as_it_is (Begun since)) (λ rule. Goes n Delay ss rule)
      (λ _. keeps n Delay answer.Running (Begun since) ss (begun, none))
      (λ _. child_goes n Delay (Begun since) (λ ss1 none1. (begun, none1)) as_it_is ss (λ a is. is) none)

  -- ---- RunOnce

  run_once_after_goes : (a : Answer) (ss ss1 : List Status) → NoneCompleted ss → Changed 0 (status_of a) ss ss1 → Goes n RunOnce ss1 (run_once_after a)
  run_once_after_goes answer.Running ss ss1 none changed = keeps n RunOnce answer.Running (Finished None) ss1 (none_completed 0 answer.Running ss ss1 (λ k apart. none k) changed refl)
  run_once_after_goes answer.Success ss ss1 none changed =
      resets_first n RunOnce span.All (keep answer.Success (Finished (Some answer.Success))) ss1
      (λ ss2 rested. keeps n RunOnce answer.Success (Finished (Some answer.Success)) ss2 (tt, λ k from. rested.away k refl))
  run_once_after_goes answer.Failure ss ss1 none changed =
      resets_first n RunOnce span.All (keep answer.Failure (Finished (Some answer.Failure))) ss1
      (λ ss2 rested. keeps n RunOnce answer.Failure (Finished (Some answer.Failure)) ss2 (tt, λ k from. rested.away k refl))
  run_once_after_goes answer.Skipped ss ss1 none changed = is_over n RunOnce answer.Skipped ss1 refl

  pub run_once_starts : (picked : ℕ) (ss : List Status) → NoneCompleted ss → Goes n RunOnce ss (run_once None picked)
  run_once_starts picked ss none = visits n RunOnce 0 (λ a. run_once_after a) ss (λ a ss1 changed. run_once_after_goes a ss ss1 none changed)

  -- with a mark nothing is visited, and the mark stays
  mark_or_skipped : (mark : Answer) (gives : Bool) (ss : List Status) → IsMark mark → AllIdle ss → Fits n RunOnce (record { answer = cond gives mark answer.Skipped; memo = Finished (Some mark) }) ss
  mark_or_skipped answer.Success true ss is idle = (tt, idle)
  mark_or_skipped answer.Success false ss is idle = (tt, idle)
  mark_or_skipped answer.Failure true ss is idle = (tt, idle)
  mark_or_skipped answer.Failure false ss is idle = (tt, idle)
  mark_or_skipped answer.Running gives ss is idle = absurd is
  mark_or_skipped answer.Skipped gives ss is idle = absurd is

  pub run_once_goes : (mark : Answer) (picked : ℕ) (ss : List Status) → IsMark mark → AllIdle ss → Goes n RunOnce ss (run_once (Some mark) picked)
  run_once_goes mark picked ss is idle =
      keeps n RunOnce (cond (nat_eq picked 0) mark answer.Skipped) (Finished (Some mark)) ss (mark_or_skipped mark (nat_eq picked 0) ss is idle)
