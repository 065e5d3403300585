-- How many calls of start and running the rule of each kind makes: one visit of each child, or one for each turn.
use Rattle.std.proofs.Common.{ℕ, zero, suc, ◌+◌, ◌*◌, ◌-◌, ◌≤◌, Bool, true, false, ◌||◌, cond, List, pos, negsuc, nat_eq, nat_lt, Option, Some, None, arith, mul-le-mul_right}
use Rattle.std.proofs.lemmas.Bool.{cond_both}
use Rattle.std.specs.Prelude.{ℤ}
use Rattle.spec_run.specs.declared.memory.Counts.{Counts}
use Rattle.spec_run.specs.declared.memory.Memo.{Memo}
use Rattle.spec_run.specs.declared.memory.Memo.TheVariants.{Index, Chosen, Finished, Counts as Counted, Turns as Turned}
use Rattle.spec_run.specs.declared.memory.Turns.{Turns}
use Rattle.spec_run.specs.declared.moves.Span.TheVariants as span
use Rattle.spec_run.specs.declared.status.Answer.{Answer}
use Rattle.spec_run.specs.declared.status.Answer.TheVariants as answer
use Rattle.spec_run.specs.declared.status.RoundEnd.{RoundEnd}
use Rattle.spec_run.specs.declared.status.RoundEnd.TheVariants.{AtChild, AfterLast}
use Rattle.spec_run.specs.Rules.Answers.{is_seen, pass_on, same_answer}
use Rattle.spec_run.specs.Rules.Choices.{chosen_branch, if_then_else, if_then_else_after, only_branch, switch, while_do_else, while_do_else_after}
use Rattle.spec_run.specs.Rules.OneVisit.{as_it_is, child_as, delay, is_late, keep_running, keep_running_after, run_once, run_once_after, since_of, timeout}
use Rattle.spec_run.specs.Rules.Parallels.{counted, failure_holds, parallel, parallel_after, success_holds}
use Rattle.spec_run.specs.Rules.Sequences.{passes, reactive_end, round, round_after, sequence_end, with_memory_end}
use Rattle.spec_run.specs.Rules.Turns.{limit_of, one_more, turn_after, turn_again, turns, turns_on}
use Rattle.base_tables.specs.Shapes.{TurnsGoOn}
use Rattle.spec_run.specs.Sites.{View}
use Rattle.spec_run.specs.Steps.{Rule, keep, over, reset, visit}
use Rattle.run_laws.proofs.Children.{Family}
use Rattle.run_laws.proofs.Shares.{first_and_later, left_from, one_and_rest, share, share_most, whole}
use Rattle.run_laws.proofs.Spending.{Labour, Makes, keep_makes, over_makes, pass_makes, pass_on_makes, reset_makes, visit_makes}
use Rattle.run_laws.proofs.TurnLimits.{Allows}

module _ (F : Family) (cs : List F.Child) (L : Labour F cs) (view : View) (uid : ℕ) where
  abbrev pub Costs : ℕ → Rule → Type 0
  Costs most rule = Makes F cs L view uid most rule

  abbrev pub total : ℕ
  total = whole L.work cs

  abbrev from : ℕ → ℕ
  from place = left_from L.work cs place

  pub either : (most : ℕ) (b : Bool) (one other : Rule) → Costs most one → Costs most other → Costs most (cond b one other)
  either most b one other first second = cond_both b one other (λ rule. Costs most rule) (λ _. first) (λ _. second)

  pub more_costs : (some most : ℕ) (rule : Rule) → some ≤ most → Costs some rule → Costs most rule
  more_costs some most rule below costs = λ ms s all. omega (arith, below, costs ms s all)

  -- ---- Rounds

  module _ (goes : Answer) (ends : RoundEnd → Rule) (ending : (most : ℕ) (end : RoundEnd) → Costs most (ends end)) where
    pub round_costs : (left place : ℕ) (seen : Bool) → Costs (from place) (round goes ends left place seen)
    round_costs zero place seen = ending (from place) (AfterLast seen)
    round_costs (suc left) place seen =
        visit_makes F cs L view uid (from (place + 1)) (from place) place (λ a. round_after goes ends place seen (λ b. round goes ends left (place + 1) b) a) (one_and_rest L.work cs place)
        (λ a. either (from (place + 1)) (passes goes a) (round goes ends left (place + 1) (seen || is_seen a)) (ends (AtChild place a)) (round_costs left (place + 1) (seen || is_seen a)) (ending (from (place + 1)) (AtChild place a)))

  pub sequence_ending : (goes : Answer) (most : ℕ) (end : RoundEnd) → Costs most (sequence_end goes end)
  sequence_ending goes most (AtChild place answer.Running) = keep_makes F cs L view uid most answer.Running (Index place true)
  sequence_ending goes most (AtChild place answer.Success) = over_makes F cs L view uid most answer.Success
  sequence_ending goes most (AtChild place answer.Failure) = over_makes F cs L view uid most answer.Failure
  sequence_ending goes most (AtChild place answer.Skipped) = over_makes F cs L view uid most answer.Skipped
  sequence_ending goes most (AfterLast true) = over_makes F cs L view uid most goes
  sequence_ending goes most (AfterLast false) = over_makes F cs L view uid most answer.Skipped

  pub memory_ending : (most : ℕ) (end : RoundEnd) → Costs most (with_memory_end end)
  memory_ending most (AtChild place answer.Failure) = reset_makes F cs L view uid most (span.From place) (keep answer.Failure (Index place false)) (keep_makes F cs L view uid most answer.Failure (Index place false))
  memory_ending most (AtChild place answer.Running) = keep_makes F cs L view uid most answer.Running (Index place true)
  memory_ending most (AtChild place answer.Success) = over_makes F cs L view uid most answer.Success
  memory_ending most (AtChild place answer.Skipped) = over_makes F cs L view uid most answer.Skipped
  memory_ending most (AfterLast seen) = sequence_ending answer.Success most (AfterLast seen)

  pub reactive_ending : (goes : Answer) (most : ℕ) (end : RoundEnd) → Costs most (reactive_end goes end)
  reactive_ending goes most (AtChild place answer.Running) = reset_makes F cs L view uid most (span.AllBut place) (keep answer.Running (Index place true)) (keep_makes F cs L view uid most answer.Running (Index place true))
  reactive_ending goes most (AtChild place answer.Success) = over_makes F cs L view uid most answer.Success
  reactive_ending goes most (AtChild place answer.Failure) = over_makes F cs L view uid most answer.Failure
  reactive_ending goes most (AtChild place answer.Skipped) = over_makes F cs L view uid most answer.Skipped
  reactive_ending goes most (AfterLast seen) = sequence_ending goes most (AfterLast seen)

  -- ---- Parallel

  after_costs : (most n : ℕ) (c : Counts) (others : Rule) → Costs most others → Costs most (parallel_after n c others)
  after_costs most n c others rest =
      either most (success_holds c) (over answer.Success) (cond (failure_holds n c) (over answer.Failure) others) (over_makes F cs L view uid most answer.Success)
      (either most (failure_holds n c) (over answer.Failure) others (over_makes F cs L view uid most answer.Failure) rest)

  pub parallel_costs : (n left place : ℕ) (c : Counts) → Costs (from place) (parallel n left place c)
  parallel_costs n zero place c =
      either (from place) (nat_eq c.skipped n) (over answer.Skipped) (keep answer.Running (Counted (record c { skipped = 0 }))) (over_makes F cs L view uid (from place) answer.Skipped)
      (keep_makes F cs L view uid (from place) answer.Running (Counted (record c { skipped = 0 })))
  parallel_costs n (suc left) place c =
      let go : Answer → Rule = λ a. parallel_after n (counted a c) (parallel n left (place + 1) (counted a c)) in
      pass_makes F cs L view uid (from place) place (parallel_after n c (parallel n left (place + 1) c)) go
      (after_costs (from place) n c (parallel n left (place + 1) c) (more_costs (from (place + 1)) (from place) (parallel n left (place + 1) c) (omega (arith, one_and_rest L.work cs place)) (parallel_costs n left (place + 1) c)))
      (visit_makes F cs L view uid (from (place + 1)) (from place) place go (one_and_rest L.work cs place) (λ a. after_costs (from (place + 1)) n (counted a c) (parallel n left (place + 1) (counted a c)) (parallel_costs n left (place + 1) (counted a c))))

  -- ---- One child, or a condition and a branch

  chosen_costs : (rest place : ℕ) → share L.work cs place ≤ rest → Costs rest (chosen_branch place)
  chosen_costs rest place below = visit_makes F cs L view uid 0 rest place (λ a. pass_on (Chosen (Some place)) a) (omega (arith, below)) (λ a. pass_on_makes F cs L view uid 0 (Chosen (Some place)) a)

  pub switch_costs : (kept : Option ℕ) (picked : ℕ) → Costs total (switch kept picked)
  switch_costs None picked = chosen_costs total picked (share_most L.work cs picked)
  switch_costs (Some kept) picked =
      either total (nat_eq kept picked) (chosen_branch picked) (reset (span.One kept) (chosen_branch picked)) (chosen_costs total picked (share_most L.work cs picked))
      (reset_makes F cs L view uid total (span.One kept) (chosen_branch picked) (chosen_costs total picked (share_most L.work cs picked)))

  -- the work that is left for a branch after the condition
  abbrev following_first : ℕ
  following_first = total - share L.work cs 0

  branch_below : (place : ℕ) → share L.work cs (place + 1) ≤ following_first
  branch_below place = omega (arith, first_and_later L.work cs place)

  condition_first : share L.work cs 0 + following_first ≤ total
  condition_first = omega (arith, share_most L.work cs 0)

  judged_costs : (n : ℕ) (a : Answer) → Costs following_first (if_then_else_after n a)
  judged_costs n answer.Running = pass_on_makes F cs L view uid following_first (Chosen None) answer.Running
  judged_costs n answer.Success = chosen_costs following_first 1 (branch_below 0)
  judged_costs n answer.Failure = either following_first (nat_lt 2 n) (chosen_branch 2) (over answer.Failure) (chosen_costs following_first 2 (branch_below 1)) (over_makes F cs L view uid following_first answer.Failure)
  judged_costs n answer.Skipped = pass_on_makes F cs L view uid following_first (Chosen None) answer.Skipped

  pub if_then_else_costs : (n : ℕ) (kept : Option ℕ) → Costs total (if_then_else n kept)
  if_then_else_costs n (Some place) = chosen_costs total place (share_most L.work cs place)
  if_then_else_costs n None = visit_makes F cs L view uid following_first total 0 (λ a. if_then_else_after n a) condition_first (judged_costs n)

  only_costs : (rest place : ℕ) (memo : Memo) → share L.work cs place ≤ rest → Costs rest (only_branch place memo)
  only_costs rest place memo below =
      reset_makes F cs L view uid rest (span.AllBut place) (visit place (λ a. pass_on memo a))
      (visit_makes F cs L view uid 0 rest place (λ a. pass_on memo a) (omega (arith, below)) (λ a. pass_on_makes F cs L view uid 0 memo a))

  while_after_costs : (n : ℕ) (memo : Memo) (a : Answer) → Costs following_first (while_do_else_after n memo a)
  while_after_costs n memo answer.Running = pass_on_makes F cs L view uid following_first memo answer.Running
  while_after_costs n memo answer.Success = only_costs following_first 1 memo (branch_below 0)
  while_after_costs n memo answer.Failure = either following_first (nat_lt 2 n) (only_branch 2 memo) (over answer.Failure) (only_costs following_first 2 memo (branch_below 1)) (over_makes F cs L view uid following_first answer.Failure)
  while_after_costs n memo answer.Skipped = pass_on_makes F cs L view uid following_first memo answer.Skipped

  pub while_costs : (n : ℕ) (memo : Memo) → Costs total (while_do_else n memo)
  while_costs n memo = visit_makes F cs L view uid following_first total 0 (λ a. while_do_else_after n memo a) condition_first (while_after_costs n memo)

  -- ---- Decorators

  -- a child is visited first, and what comes after makes no call
  pub child_first : (go : Answer → Rule) → ((a : Answer) → Costs 0 (go a)) → Costs total (visit 0 go)
  child_first go free = visit_makes F cs L view uid 0 total 0 go (omega (arith, share_most L.work cs 0)) free

  pub child_costs : (other : Answer → Answer) (memo : Memo) → Costs total (child_as other memo)
  child_costs other memo = child_first (λ a. pass_on memo (other a)) (λ a. pass_on_makes F cs L view uid 0 memo (other a))

  keep_running_free : (memo : Memo) (a : Answer) → Costs 0 (keep_running_after memo a)
  keep_running_free memo answer.Running = pass_on_makes F cs L view uid 0 memo answer.Running
  keep_running_free memo answer.Success = reset_makes F cs L view uid 0 span.All (keep answer.Running memo) (keep_makes F cs L view uid 0 answer.Running memo)
  keep_running_free memo answer.Failure = pass_on_makes F cs L view uid 0 memo answer.Failure
  keep_running_free memo answer.Skipped = pass_on_makes F cs L view uid 0 memo answer.Skipped

  pub keep_running_costs : (memo : Memo) → Costs total (keep_running memo)
  keep_running_costs memo = child_first (λ a. keep_running_after memo a) (keep_running_free memo)

  pub timeout_costs : (memo : Memo) (now : ℕ) → Costs total (timeout memo now)
  timeout_costs memo now = either total (is_late (since_of memo) now) (over answer.Failure) (child_as as_it_is memo) (over_makes F cs L view uid total answer.Failure) (child_costs as_it_is memo)

  pub delay_costs : (memo : Memo) (now : ℕ) → Costs total (delay memo now)
  delay_costs memo now =
      either total (nat_lt (now - (since_of memo).first) (since_of memo).length) (keep answer.Running memo) (child_as as_it_is memo) (keep_makes F cs L view uid total answer.Running memo) (child_costs as_it_is memo)

  run_once_free : (a : Answer) → Costs 0 (run_once_after a)
  run_once_free answer.Running = keep_makes F cs L view uid 0 answer.Running (Finished None)
  run_once_free answer.Success = reset_makes F cs L view uid 0 span.All (keep answer.Success (Finished (Some answer.Success))) (keep_makes F cs L view uid 0 answer.Success (Finished (Some answer.Success)))
  run_once_free answer.Failure = reset_makes F cs L view uid 0 span.All (keep answer.Failure (Finished (Some answer.Failure))) (keep_makes F cs L view uid 0 answer.Failure (Finished (Some answer.Failure)))
  run_once_free answer.Skipped = over_makes F cs L view uid 0 answer.Skipped

  pub run_once_costs : (mark : Option Answer) (picked : ℕ) → Costs total (run_once mark picked)
  run_once_costs None picked = child_first (λ a. run_once_after a) run_once_free
  run_once_costs (Some a) picked = keep_makes F cs L view uid total (cond (nat_eq picked 0) a answer.Skipped) (Finished (Some a))

  -- ---- Retry and Repeat

  module _ (again : Answer) where
    turn_costs : (most : ℕ) (t : Turns) (others : Rule) (a : Answer) → Costs most others → Costs most (turn_after again t others a)
    turn_costs most t others a costs = either most (same_answer a again) others (pass_on (Turned t) a) costs (pass_on_makes F cs L view uid most (Turned t) a)

    again_costs : (left : ℕ) (t : Turns) → Costs (left * total) (turn_again again left t)
    again_costs zero t = over_makes F cs L view uid (0 * total) again
    again_costs (suc left) t =
        let go : Answer → Rule = λ a. turn_after again (one_more t) (turn_again again left (one_more t)) a in
        reset_makes F cs L view uid (suc left * total) span.All (visit 0 go)
        (visit_makes F cs L view uid (left * total) (suc left * total) 0 go (omega (arith, share_most L.work cs 0)) (λ a. turn_costs (left * total) (one_more t) (turn_again again left (one_more t)) a (again_costs left (one_more t))))

    on_costs : (limit : ℤ) (t : Turns) (left : ℕ) → TurnsGoOn t limit → Allows limit (suc left) → Costs (left * total) (turns_on again (limit_of limit) t)
    on_costs (pos limit) t left goes_on allows =
        more_costs ((limit - (t.done + 1)) * total) (left * total) (turn_again again (limit - (t.done + 1)) t)
        (mul-le-mul_right total (let below : limit - (t.done + 1) ≤ left = omega (arith, goes_on, allows) in below))
        (again_costs (limit - (t.done + 1)) t)
    on_costs (negsuc k) t left goes_on allows = reset_makes F cs L view uid (left * total) span.All (keep answer.Running (Turned t)) (keep_makes F cs L view uid (left * total) answer.Running (Turned t))

    none_allowed : (limit : ℤ) (t : Turns) → TurnsGoOn t limit → Allows limit 0 → ⊥
    none_allowed (pos limit) t goes_on allows = omega (arith, goes_on, allows)
    none_allowed (negsuc k) t goes_on allows = omega (arith, allows)

    -- the child is visited as often as the limit allows
    pub turns_cost : (t : Turns) (most : ℕ) → TurnsGoOn t t.limit → Allows t.limit most → Costs (most * total) (turns again t)
    turns_cost t zero goes_on allows = absurd (none_allowed t.limit t goes_on allows)
    turns_cost t (suc left) goes_on allows =
        visit_makes F cs L view uid (left * total) (suc left * total) 0 (λ a. turn_after again t (turns_on again (limit_of t.limit) t) a) (omega (arith, share_most L.work cs 0))
        (λ a. turn_costs (left * total) t (turns_on again (limit_of t.limit) t) a (on_costs t.limit t left goes_on allows))
