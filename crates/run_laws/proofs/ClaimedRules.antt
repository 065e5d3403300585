-- The words of rules and the rule of every kind meet a claim, where the children do.
use Rattle.std.proofs.Common.{ℕ, zero, suc, ◌+◌, ◌-◌, Bool, true, false, ◌||◌, cond, List, nat_eq, nat_lt, Option, Some, None}
use Rattle.std.proofs.lemmas.Bool.{cond_both}
use Rattle.spec_run.specs.declared.memory.Counts.{Counts}
use Rattle.spec_run.specs.declared.memory.Memo.{Memo}
use Rattle.spec_run.specs.declared.memory.Memo.TheVariants.{Nothing, Index, Chosen, Finished, Counts as Counted, Turns as Turned, Recoveries as Recovering, Rotation as Rotating, Pace as Paced}
use Rattle.spec_run.specs.declared.memory.Memory.{Memory}
use Rattle.spec_run.specs.declared.memory.Pace.{Pace}
use Rattle.spec_run.specs.declared.memory.Recoveries.{Recoveries}
use Rattle.spec_run.specs.declared.memory.Rotation.{Rotation}
use Rattle.spec_run.specs.declared.memory.Turns.{Turns}
use Rattle.spec_run.specs.declared.moves.Span.{Span}
use Rattle.spec_run.specs.declared.moves.Span.TheVariants as span
use Rattle.spec_run.specs.declared.status.Answer.{Answer}
use Rattle.spec_run.specs.declared.status.Answer.TheVariants as answer
use Rattle.spec_run.specs.declared.status.RoundEnd.{RoundEnd}
use Rattle.spec_run.specs.declared.status.RoundEnd.TheVariants.{AtChild, AfterLast}
use Rattle.spec_tree.specs.declared.term.Kind.{Kind}
use Rattle.spec_tree.specs.declared.term.Kind.TheVariants.{Sequence, SequenceWithMemory, ReactiveSequence, Fallback, ReactiveFallback, Parallel, Switch, IfThenElse, WhileDoElse, RecoveryNode, PipelineSequence, RoundRobin, Inverter, ForceSuccess, ForceFailure, KeepRunningUntilFailure, Retry, Repeat, Timeout, Delay, RunOnce, RateController, SubTree}
use Rattle.spec_run.specs.Done.{Done, State}
use Rattle.spec_run.specs.Rules.Answers.{is_seen, pass_on, same_answer}
use Rattle.spec_run.specs.Rules.Choices.{chosen_branch, chosen_of, if_then_else, if_then_else_after, only_branch, switch, while_do_else_after}
use Rattle.spec_run.specs.Rules.OneVisit.{as_it_is, child_as, forced, inverted, is_late, keep_running_after, mark_of, run_once, run_once_after, since_of}
use Rattle.spec_run.specs.Rules.Kinds.{rule}
use Rattle.spec_run.specs.Rules.Parallels.{counted, counts_of, failure_holds, parallel, parallel_after, success_holds}
use Rattle.spec_run.specs.Rules.Pipelines.{pipeline, pipeline_after, pipeline_end}
use Rattle.spec_run.specs.Rules.Rates.{is_due, pace_of, rate_after, rate_controller}
use Rattle.spec_run.specs.Rules.Recoveries.{attempt, attempt_after, attempt_on, one_recovered, recover, recoveries_left, recoveries_of, recovery_after, recovery_node}
use Rattle.spec_run.specs.Rules.RoundRobins.{next_of, passed_by, robin_after, robin_on, rotation_at, rotation_of, round_robin}
use Rattle.spec_run.specs.Rules.Sequences.{index_of, passes, reactive_end, round, round_after, seen_of, sequence_end, with_memory_end}
use Rattle.spec_run.specs.Rules.Turns.{limit_of, one_more, turn_after, turn_again, turns, turns_of, turns_on}
use Rattle.spec_run.specs.Steps.{Child, Rule, child_at, is_completed, keep, over, reset, resets, visit, visit_or_pass}
use Rattle.run_laws.proofs.Claims.{ChildMeets, Claim, Meets, done_meets, follow_meets, resets_meet}

module _ (claim : Claim) (ks : List Child) (each : (place : ℕ) → ChildMeets claim (child_at ks place)) where
  -- this rule meets the claim, with these children
  abbrev pub RuleMeets : Rule → Type 0
  RuleMeets rule = (ms : List Memory) (s : State) → claim.state s → Meets claim s (rule ks ms s)

  -- ---- Words

  either_meets : (b : Bool) (one other : Rule) → RuleMeets one → RuleMeets other → RuleMeets (cond b one other)
  either_meets b one other first second = cond_both b one other (λ rule. RuleMeets rule) (λ _. first) (λ _. second)

  keep_meets : (a : Answer) (memo : Memo) → RuleMeets (keep a memo)
  unfolding keep
  keep_meets a memo = λ ms s fits. done_meets claim (record { answer = a; memo = memo }) ms s fits

  visit_meets : (place : ℕ) (go : Answer → Rule) → ((a : Answer) → RuleMeets (go a)) → RuleMeets (visit place go)
  unfolding visit
  visit_meets place go goes = λ ms s fits.
      let d : Done Answer (List Memory) = (child_at ks place).visit ms s in
      follow_meets claim s d (λ ms1. ms1) (λ a ms1 s1. go a ks ms1 s1) ((each place).visit ms s fits) (λ a. goes a d.memory d.state)

  pass_meets : (place : ℕ) (passed : Rule) (go : Answer → Rule) → RuleMeets passed → RuleMeets (visit place go) → RuleMeets (visit_or_pass place passed go)
  unfolding visit_or_pass
  pass_meets place passed go passes goes = λ ms s fits.
      cond_both (is_completed ((child_at ks place).status ms)) (passed ks ms s) (visit place go ks ms s) (λ d. Meets claim s d) (λ _. passes ms s fits) (λ _. goes ms s fits)

  reset_meets : (span : Span) (rule : Rule) → RuleMeets rule → RuleMeets (reset span rule)
  unfolding reset
  reset_meets span rule meets = λ ms s fits.
      let d : Done (Unit {0}) (List Memory) = resets span ks 0 ms s in
      follow_meets claim s d (λ ms1. ms1) (λ _ ms1 s1. rule ks ms1 s1) (resets_meet claim span ks 0 ms s each fits) (λ _. meets d.memory d.state)

  over_meets : (a : Answer) → RuleMeets (over a)
  over_meets a = reset_meets span.All (keep a Nothing) (keep_meets a Nothing)

  pass_on_meets : (memo : Memo) (a : Answer) → RuleMeets (pass_on memo a)
  pass_on_meets memo answer.Running = keep_meets answer.Running memo
  pass_on_meets memo answer.Success = over_meets answer.Success
  pass_on_meets memo answer.Failure = over_meets answer.Failure
  pass_on_meets memo answer.Skipped = over_meets answer.Skipped

  -- ---- Rounds

  module _ (goes : Answer) (ends : RoundEnd → Rule) (ending : (end : RoundEnd) → RuleMeets (ends end)) where
    round_meets : (left place : ℕ) (seen : Bool) → RuleMeets (round goes ends left place seen)
    round_meets zero place seen = ending (AfterLast seen)
    round_meets (suc left) place seen =
        visit_meets place (λ a. round_after goes ends place seen (λ b. round goes ends left (place + 1) b) a)
        (λ a. either_meets (passes goes a) (round goes ends left (place + 1) (seen || is_seen a)) (ends (AtChild place a)) (round_meets left (place + 1) (seen || is_seen a)) (ending (AtChild place a)))

  sequence_ending : (goes : Answer) (end : RoundEnd) → RuleMeets (sequence_end goes end)
  sequence_ending goes (AtChild place answer.Running) = keep_meets answer.Running (Index place true)
  sequence_ending goes (AtChild place answer.Success) = over_meets answer.Success
  sequence_ending goes (AtChild place answer.Failure) = over_meets answer.Failure
  sequence_ending goes (AtChild place answer.Skipped) = over_meets answer.Skipped
  sequence_ending goes (AfterLast true) = over_meets goes
  sequence_ending goes (AfterLast false) = over_meets answer.Skipped

  memory_ending : (end : RoundEnd) → RuleMeets (with_memory_end end)
  memory_ending (AtChild place answer.Failure) = reset_meets (span.From place) (keep answer.Failure (Index place false)) (keep_meets answer.Failure (Index place false))
  memory_ending (AtChild place answer.Running) = keep_meets answer.Running (Index place true)
  memory_ending (AtChild place answer.Success) = over_meets answer.Success
  memory_ending (AtChild place answer.Skipped) = over_meets answer.Skipped
  memory_ending (AfterLast seen) = sequence_ending answer.Success (AfterLast seen)

  reactive_ending : (goes : Answer) (end : RoundEnd) → RuleMeets (reactive_end goes end)
  reactive_ending goes (AtChild place answer.Running) = reset_meets (span.AllBut place) (keep answer.Running (Index place true)) (keep_meets answer.Running (Index place true))
  reactive_ending goes (AtChild place answer.Success) = over_meets answer.Success
  reactive_ending goes (AtChild place answer.Failure) = over_meets answer.Failure
  reactive_ending goes (AtChild place answer.Skipped) = over_meets answer.Skipped
  reactive_ending goes (AfterLast seen) = sequence_ending goes (AfterLast seen)

  -- ---- Parallel

  after_meets : (n : ℕ) (c : Counts) (others : Rule) → RuleMeets others → RuleMeets (parallel_after n c others)
  after_meets n c others rest =
      either_meets (success_holds c) (over answer.Success) (cond (failure_holds n c) (over answer.Failure) others) (over_meets answer.Success)
      (either_meets (failure_holds n c) (over answer.Failure) others (over_meets answer.Failure) rest)

  parallel_meets : (n left place : ℕ) (c : Counts) → RuleMeets (parallel n left place c)
  parallel_meets n zero place c =
      let kept : Memo = Counted (record c { skipped = 0 }) in
      either_meets (nat_eq c.skipped n) (over answer.Skipped) (keep answer.Running kept) (over_meets answer.Skipped) (keep_meets answer.Running kept)
  parallel_meets n (suc left) place c =
      let go : Answer → Rule = λ a. parallel_after n (counted a c) (parallel n left (place + 1) (counted a c)) in
      pass_meets place (parallel_after n c (parallel n left (place + 1) c)) go
      (after_meets n c (parallel n left (place + 1) c) (parallel_meets n left (place + 1) c))
      (visit_meets place go (λ a. after_meets n (counted a c) (parallel n left (place + 1) (counted a c)) (parallel_meets n left (place + 1) (counted a c))))

  -- ---- One child, or a condition and a branch

  chosen_meets : (place : ℕ) → RuleMeets (chosen_branch place)
  chosen_meets place = visit_meets place (λ a. pass_on (Chosen (Some place)) a) (λ a. pass_on_meets (Chosen (Some place)) a)

  switch_meets : (kept : Option ℕ) (picked : ℕ) → RuleMeets (switch kept picked)
  switch_meets None picked = chosen_meets picked
  switch_meets (Some kept) picked =
      either_meets (nat_eq kept picked) (chosen_branch picked) (reset (span.One kept) (chosen_branch picked)) (chosen_meets picked)
      (reset_meets (span.One kept) (chosen_branch picked) (chosen_meets picked))

  judged_meets : (n : ℕ) (a : Answer) → RuleMeets (if_then_else_after n a)
  judged_meets n answer.Running = pass_on_meets (Chosen None) answer.Running
  judged_meets n answer.Success = chosen_meets 1
  judged_meets n answer.Failure = either_meets (nat_lt 2 n) (chosen_branch 2) (over answer.Failure) (chosen_meets 2) (over_meets answer.Failure)
  judged_meets n answer.Skipped = pass_on_meets (Chosen None) answer.Skipped

  if_then_else_meets : (n : ℕ) (kept : Option ℕ) → RuleMeets (if_then_else n kept)
  if_then_else_meets n (Some place) = chosen_meets place
  if_then_else_meets n None = visit_meets 0 (λ a. if_then_else_after n a) (judged_meets n)

  only_meets : (place : ℕ) (memo : Memo) → RuleMeets (only_branch place memo)
  only_meets place memo =
      reset_meets (span.AllBut place) (visit place (λ a. pass_on memo a))
      (visit_meets place (λ a. pass_on memo a) (λ a. pass_on_meets memo a))

  while_after_meets : (n : ℕ) (memo : Memo) (a : Answer) → RuleMeets (while_do_else_after n memo a)
  while_after_meets n memo answer.Running = pass_on_meets memo answer.Running
  while_after_meets n memo answer.Success = only_meets 1 memo
  while_after_meets n memo answer.Failure = either_meets (nat_lt 2 n) (only_branch 2 memo) (over answer.Failure) (only_meets 2 memo) (over_meets answer.Failure)
  while_after_meets n memo answer.Skipped = pass_on_meets memo answer.Skipped

  -- ---- Decorators

  child_meets : (other : Answer → Answer) (memo : Memo) → RuleMeets (child_as other memo)
  child_meets other memo = visit_meets 0 (λ a. pass_on memo (other a)) (λ a. pass_on_meets memo (other a))

  keep_running_meets : (memo : Memo) (a : Answer) → RuleMeets (keep_running_after memo a)
  keep_running_meets memo answer.Running = pass_on_meets memo answer.Running
  keep_running_meets memo answer.Success = reset_meets span.All (keep answer.Running memo) (keep_meets answer.Running memo)
  keep_running_meets memo answer.Failure = pass_on_meets memo answer.Failure
  keep_running_meets memo answer.Skipped = pass_on_meets memo answer.Skipped

  run_once_after_meets : (a : Answer) → RuleMeets (run_once_after a)
  run_once_after_meets answer.Running = keep_meets answer.Running (Finished None)
  run_once_after_meets answer.Success = reset_meets span.All (keep answer.Success (Finished (Some answer.Success))) (keep_meets answer.Success (Finished (Some answer.Success)))
  run_once_after_meets answer.Failure = reset_meets span.All (keep answer.Failure (Finished (Some answer.Failure))) (keep_meets answer.Failure (Finished (Some answer.Failure)))
  run_once_after_meets answer.Skipped = over_meets answer.Skipped

  run_once_meets : (mark : Option Answer) (picked : ℕ) → RuleMeets (run_once mark picked)
  run_once_meets None picked = visit_meets 0 (λ a. run_once_after a) run_once_after_meets
  run_once_meets (Some a) picked = keep_meets (cond (nat_eq picked 0) a answer.Skipped) (Finished (Some a))

  -- ---- Retry and Repeat

  module _ (again : Answer) where
    turn_meets : (t : Turns) (others : Rule) (a : Answer) → RuleMeets others → RuleMeets (turn_after again t others a)
    turn_meets t others a rest = either_meets (same_answer a again) others (pass_on (Turned t) a) rest (pass_on_meets (Turned t) a)

    again_meets : (left : ℕ) (t : Turns) → RuleMeets (turn_again again left t)
    again_meets zero t = over_meets again
    again_meets (suc left) t =
        let go : Answer → Rule = λ a. turn_after again (one_more t) (turn_again again left (one_more t)) a in
        reset_meets span.All (visit 0 go) (visit_meets 0 go (λ a. turn_meets (one_more t) (turn_again again left (one_more t)) a (again_meets left (one_more t))))

    on_meets : (limit : Option ℕ) (t : Turns) → RuleMeets (turns_on again limit t)
    on_meets (Some limit) t = again_meets (limit - (t.done + 1)) t
    on_meets None t = reset_meets span.All (keep answer.Running (Turned t)) (keep_meets answer.Running (Turned t))

    turns_meets : (t : Turns) → RuleMeets (turns again t)
    turns_meets t = visit_meets 0 (λ a. turn_after again t (turns_on again (limit_of t.limit) t) a) (λ a. turn_meets t (turns_on again (limit_of t.limit) t) a (on_meets (limit_of t.limit) t))

  -- ---- RecoveryNode

  attempt_after_meets : (r : Recoveries) (failed : Rule) (a : Answer) → RuleMeets failed → RuleMeets (attempt_after r failed a)
  attempt_after_meets r failed answer.Failure rest = rest
  attempt_after_meets r failed answer.Running rest = pass_on_meets (Recovering (record r { recovers = false })) answer.Running
  attempt_after_meets r failed answer.Success rest = over_meets answer.Success
  attempt_after_meets r failed answer.Skipped rest = over_meets answer.Skipped

  attempt_meets : (r : Recoveries) (failed : Rule) → RuleMeets failed → RuleMeets (attempt r failed)
  attempt_meets r failed rest = visit_meets 0 (λ a. attempt_after r failed a) (λ a. attempt_after_meets r failed a rest)

  recovery_after_meets : (r : Recoveries) (again : Rule) (a : Answer) → RuleMeets again → RuleMeets (recovery_after r again a)
  recovery_after_meets r again answer.Success rest = reset_meets (span.One 1) again rest
  recovery_after_meets r again answer.Running rest = keep_meets answer.Running (Recovering (record r { recovers = true }))
  recovery_after_meets r again answer.Failure rest = over_meets answer.Failure
  recovery_after_meets r again answer.Skipped rest = over_meets answer.Failure

  recover_meets : (left : ℕ) (r : Recoveries) → RuleMeets (recover left r)
  recover_meets zero r = over_meets answer.Failure
  recover_meets (suc left) r =
      let again : Rule = attempt (one_recovered r) (recover left (one_recovered r)) in
      reset_meets (span.One 0) (visit 1 (λ a. recovery_after r again a)) (visit_meets 1 (λ a. recovery_after r again a)
      (λ a. recovery_after_meets r again a (attempt_meets (one_recovered r) (recover left (one_recovered r)) (recover_meets left (one_recovered r)))))

  attempt_on_meets : (r : Recoveries) → RuleMeets (attempt_on r)
  attempt_on_meets r = attempt_meets r (recover (recoveries_left r) r) (recover_meets (recoveries_left r) r)

  recovery_meets : (recovers : Bool) (r : Recoveries) → RuleMeets (recovery_node recovers r)
  recovery_meets false r = attempt_on_meets r
  recovery_meets true r = visit_meets 1 (λ a. recovery_after r (attempt_on (one_recovered r)) a) (λ a. recovery_after_meets r (attempt_on (one_recovered r)) a (attempt_on_meets (one_recovered r)))

  -- ---- PipelineSequence

  pipeline_end_meets : (seen : Bool) → RuleMeets (pipeline_end seen)
  pipeline_end_meets true = over_meets answer.Success
  pipeline_end_meets false = over_meets answer.Skipped

  pipeline_after_meets : (farthest place : ℕ) (seen : Bool) (others : Bool → Rule) (a : Answer) → ((b : Bool) → RuleMeets (others b)) → RuleMeets (pipeline_after farthest place seen others a)
  pipeline_after_meets farthest place seen others answer.Running rest = either_meets (nat_lt place farthest) (others true) (keep answer.Running (Index place true)) (rest true) (keep_meets answer.Running (Index place true))
  pipeline_after_meets farthest place seen others answer.Success rest = rest true
  pipeline_after_meets farthest place seen others answer.Failure rest = over_meets answer.Failure
  pipeline_after_meets farthest place seen others answer.Skipped rest = rest seen

  pipeline_meets : (farthest left place : ℕ) (seen : Bool) → RuleMeets (pipeline farthest left place seen)
  pipeline_meets farthest zero place seen = pipeline_end_meets seen
  pipeline_meets farthest (suc left) place seen =
      let go : Bool → Rule = λ b. pipeline farthest left (place + 1) b in
      visit_meets place (λ a. pipeline_after farthest place seen go a) (λ a. pipeline_after_meets farthest place seen go a (λ b. pipeline_meets farthest left (place + 1) b))

  -- ---- RoundRobin

  robin_after_meets : (n : ℕ) (r : Rotation) (others : Rule) (a : Answer) → RuleMeets others → RuleMeets (robin_after n r others a)
  robin_after_meets n r others answer.Running rest = keep_meets answer.Running (Rotating r)
  robin_after_meets n r others answer.Success rest =
      let next : Memo = Rotating (rotation_at (next_of n r.at)) in
      reset_meets span.All (keep answer.Success next) (keep_meets answer.Success next)
  robin_after_meets n r others answer.Failure rest = rest
  robin_after_meets n r others answer.Skipped rest = rest

  robin_on_meets : (n left : ℕ) (r : Rotation) (a : Answer) → RuleMeets (robin_on n left r a)
  robin_on_meets n zero r a = over_meets (cond (nat_eq (passed_by n a r).skipped n) answer.Skipped answer.Failure)
  robin_on_meets n (suc left) r a =
      let next : Rotation = passed_by n a r in
      let go : Answer → Rule = λ b. robin_after n next (robin_on n left next b) b in
      reset_meets (span.One r.at) (visit next.at go) (visit_meets next.at go (λ b. robin_after_meets n next (robin_on n left next b) b (robin_on_meets n left next b)))

  robin_meets : (n : ℕ) (r : Rotation) → RuleMeets (round_robin n r)
  robin_meets n r =
      let go : Answer → Rule = λ a. robin_after n r (robin_on n (n - (r.passed + 1)) r a) a in
      visit_meets r.at go (λ a. robin_after_meets n r (robin_on n (n - (r.passed + 1)) r a) a (robin_on_meets n (n - (r.passed + 1)) r a))

  -- ---- RateController

  rate_after_meets : (p : Pace) (now : ℕ) (a : Answer) → RuleMeets (rate_after p now a)
  rate_after_meets p now answer.Running = keep_meets answer.Running (Paced (record p { due = true }))
  rate_after_meets p now answer.Success =
      let kept : Memo = Paced (record p { first = now; due = false }) in
      reset_meets span.All (keep answer.Success kept) (keep_meets answer.Success kept)
  rate_after_meets p now answer.Failure =
      let kept : Memo = Paced (record p { due = false }) in
      reset_meets span.All (keep answer.Failure kept) (keep_meets answer.Failure kept)
  rate_after_meets p now answer.Skipped = over_meets answer.Skipped

  rate_meets : (p : Pace) (now : ℕ) → RuleMeets (rate_controller p now)
  rate_meets p now = either_meets (is_due p now) (visit 0 (λ a. rate_after p now a)) (keep answer.Running (Paced p)) (visit_meets 0 (λ a. rate_after p now a) (rate_after_meets p now)) (keep_meets answer.Running (Paced p))

  -- ---- Every kind

  pub rule_meets : (kind : Kind) (n : ℕ) (memo : Memo) (picked now : ℕ) → RuleMeets (rule kind n memo picked now)
  rule_meets Sequence n memo picked now = round_meets answer.Success (sequence_end answer.Success) (sequence_ending answer.Success) (n - index_of memo) (index_of memo) (seen_of memo)
  rule_meets Fallback n memo picked now = round_meets answer.Failure (sequence_end answer.Failure) (sequence_ending answer.Failure) (n - index_of memo) (index_of memo) (seen_of memo)
  rule_meets SequenceWithMemory n memo picked now = round_meets answer.Success with_memory_end memory_ending (n - index_of memo) (index_of memo) (seen_of memo)
  rule_meets ReactiveSequence n memo picked now = round_meets answer.Success (reactive_end answer.Success) (reactive_ending answer.Success) n 0 false
  rule_meets ReactiveFallback n memo picked now = round_meets answer.Failure (reactive_end answer.Failure) (reactive_ending answer.Failure) n 0 false
  rule_meets Parallel n memo picked now = parallel_meets n n 0 (counts_of memo)
  rule_meets (Switch cases) n memo picked now = switch_meets (chosen_of memo) picked
  rule_meets IfThenElse n memo picked now = if_then_else_meets n (chosen_of memo)
  rule_meets WhileDoElse n memo picked now = visit_meets 0 (λ a. while_do_else_after n memo a) (while_after_meets n memo)
  rule_meets SubTree n memo picked now = child_meets as_it_is memo
  rule_meets Inverter n memo picked now = child_meets inverted memo
  rule_meets ForceSuccess n memo picked now = child_meets (forced answer.Success) memo
  rule_meets ForceFailure n memo picked now = child_meets (forced answer.Failure) memo
  rule_meets KeepRunningUntilFailure n memo picked now = visit_meets 0 (λ a. keep_running_after memo a) (keep_running_meets memo)
  rule_meets Retry n memo picked now = turns_meets answer.Failure (turns_of memo)
  rule_meets Repeat n memo picked now = turns_meets answer.Success (turns_of memo)
  rule_meets Timeout n memo picked now = either_meets (is_late (since_of memo) now) (over answer.Failure) (child_as as_it_is memo) (over_meets answer.Failure) (child_meets as_it_is memo)
  rule_meets Delay n memo picked now =
      either_meets (nat_lt (now - (since_of memo).first) (since_of memo).length) (keep answer.Running memo) (child_as as_it_is memo) (keep_meets answer.Running memo) (child_meets as_it_is memo)
  rule_meets RunOnce n memo picked now = run_once_meets (mark_of memo) picked
  rule_meets RecoveryNode n memo picked now = recovery_meets (recoveries_of memo).recovers (recoveries_of memo)
  rule_meets PipelineSequence n memo picked now = pipeline_meets (index_of memo) n 0 false
  rule_meets RoundRobin n memo picked now = robin_meets n (rotation_of memo)
  rule_meets RateController n memo picked now = rate_meets (pace_of memo) now
  rule_meets _ n memo picked now = over_meets answer.Skipped
