-- The rule of every kind leaves the leaves apart that are never held together.
use Rattle.std.proofs.Common.{◌≡◌, ⊎_elim, ℕ, zero, suc, ◌+◌, ◌-◌, ◌≤◌, List, Bool, true, false, ◌||◌, not, if◌then◌else◌, cond, nat_eq, nat_lt, Option, Some, None, refl, ap, subst, ◌∙◌, arith}
use Rattle.std.proofs.lemmas.Bool.{cases_eq, cases_lt, cond_both, eqb-true, ne_eqb}
use Rattle.base_tables.specs.Shapes.{AllIdle, IdleFrom, OneRuns, BranchRuns, is_running, status_at}
use Rattle.run_laws.proofs.Acts.{Changed, others}
use Rattle.run_laws.proofs.Beginnings.{Begins}
use Rattle.run_laws.proofs.Choices.{OthersIdle, released}
use Rattle.run_laws.proofs.Resting.{Rested}
use Rattle.run_laws.proofs.Rounds.{StartsAt}
use Rattle.spec_exclusive.specs.declared.meeting.Meeting.TheVariants.{Never}
use Rattle.spec_exclusive.specs.Meetings.{meeting_at}
use Rattle.spec_run.specs.declared.memory.Counts.{Counts}
use Rattle.spec_run.specs.declared.memory.Memo.{Memo}
use Rattle.spec_run.specs.declared.memory.Memo.TheVariants.{Nothing, Index, Chosen, Finished, Counts as Counted, Turns as Turned, Since as Begun, Recoveries as Recovering, Rotation as Rotating, Pace as Paced}
use Rattle.spec_run.specs.declared.memory.Pace.{Pace}
use Rattle.spec_run.specs.declared.memory.Recoveries.{Recoveries}
use Rattle.spec_run.specs.declared.memory.Rotation.{Rotation}
use Rattle.spec_run.specs.declared.memory.Turns.{Turns}
use Rattle.spec_run.specs.declared.moves.Span.{Span}
use Rattle.spec_run.specs.declared.moves.Span.TheVariants as span
use Rattle.spec_run.specs.declared.status.Answer.{Answer}
use Rattle.spec_run.specs.declared.status.Answer.TheVariants as answer
use Rattle.spec_run.specs.declared.status.RoundEnd.{RoundEnd}
use Rattle.spec_run.specs.declared.status.RoundEnd.TheVariants.{AtChild, AfterLast}
use Rattle.spec_run.specs.declared.status.Status.{Status}
use Rattle.spec_run.specs.declared.status.Status.TheVariants as status
use Rattle.spec_run.specs.Rules.Answers.{is_seen, pass_on, same_answer}
use Rattle.spec_run.specs.Rules.Choices.{chosen_branch, if_then_else, if_then_else_after, only_branch, switch, while_do_else, while_do_else_after}
use Rattle.spec_run.specs.Rules.OneVisit.{as_it_is, child_as, forced, inverted, is_late, keep_running_after, run_once, run_once_after}
use Rattle.spec_run.specs.Rules.Kinds.{rule}
use Rattle.spec_run.specs.Rules.Parallels.{counted, failure_holds, parallel, parallel_after, success_holds}
use Rattle.spec_run.specs.Rules.Pipelines.{pipeline, pipeline_after, pipeline_end}
use Rattle.spec_run.specs.Rules.Rates.{is_due, rate_after, rate_controller}
use Rattle.spec_run.specs.Rules.Recoveries.{attempt, attempt_after, attempt_on, one_recovered, recover, recoveries_left, recovery_after, recovery_node}
use Rattle.spec_run.specs.Rules.RoundRobins.{next_of, passed_by, robin_after, robin_on, rotation_at, round_robin}
use Rattle.spec_run.specs.Rules.Sequences.{passes, reactive_end, round, round_after, sequence_end, with_memory_end}
use Rattle.spec_run.specs.Rules.Turns.{limit_of, one_more, turn_after, turn_again, turns, turns_on}
use Rattle.spec_run.specs.Sites.{View}
use Rattle.spec_run.specs.Steps.{Rule, is_completed, keep, over, reset, spans, visit, visit_or_pass}
use Rattle.spec_run.specs.Visit.{status_of}
use Rattle.spec_tree.specs.declared.term.Kind.{Kind}
use Rattle.spec_tree.specs.declared.term.Kind.TheVariants.{Sequence, SequenceWithMemory, ReactiveSequence, Fallback, ReactiveFallback, Parallel, Switch, IfThenElse, WhileDoElse, RecoveryNode, PipelineSequence, RoundRobin, Inverter, ForceSuccess, ForceFailure, KeepRunningUntilFailure, Retry, Repeat, Timeout, Delay, RunOnce, RateController, SubTree}
use Rattle.spec_tree.specs.declared.term.Port.{Port}
use Rattle.spec_tree.specs.declared.term.Term.{Term}
use Rattle.tree_exclusive.proofs.Words.{Alone, Always, PartsOf, Splits, keep_splits, pass_splits, reset_splits, visit_splits}

both_tests : {b : Bool} → b ≡ true → b ≡ false → ⊥
both_tests one other = cc

cases_bool : {P : Type 0} (b : Bool) → (b ≡ true → P) → (b ≡ false → P) → P
cases_bool true one other = one refl
cases_bool false one other = other refl

-- no child is RUNNING, but for the one at a place
abbrev Quiet : ℕ → List Status → Type 0
Quiet place ss = (k : ℕ) → (k ≡ place → ⊥) → is_running (status_at ss k) ≡ false

abbrev NoneRuns : List Status → Type 0
NoneRuns ss = (k : ℕ) → is_running (status_at ss k) ≡ false

idle_quiet : (place : ℕ) (ss : List Status) → OthersIdle place ss → Quiet place ss
idle_quiet place ss idle = λ k other. ap is_running (idle k other)

none_after : (place : ℕ) (st : Status) (ss ss1 : List Status) → Quiet place ss → Changed place st ss ss1 → is_running st ≡ false → NoneRuns ss1
none_after place st ss ss1 quiet changed rests = λ k. ⊎_elim
    (λ same. ap is_running (ap (status_at ss1) same ∙ changed.here) ∙ rests)
    (λ other. ap is_running (others changed k other) ∙ quiet k other)
    (cases_eq k place)

none_rested : (span : Span) (ss ss1 : List Status) → NoneRuns ss → Rested span ss ss1 → NoneRuns ss1
none_rested span ss ss1 none rested = λ k. cases_bool (spans span k) (λ e. ap is_running (rested.away k e)) (λ e. ap is_running (rested.stays k e) ∙ none k)

module _ (runner : ℕ) {X : Type 0} (term : X → Term) (parts : (c : X) → PartsOf runner (term c)) (view : View) (cs : List X) (uid : ℕ) where
  abbrev S : Kind → List Status → Rule → Type 0
  S kind ss rule = Splits runner term parts view cs uid kind ss rule

  abbrev Any : Kind → Rule → Type 0
  Any kind rule = Always runner term parts view cs uid kind rule

  -- from children of which none is RUNNING
  abbrev Fresh : Kind → Rule → Type 0
  Fresh kind rule = (ss : List Status) → NoneRuns ss → S kind ss rule

  module _ (kind : Kind) where
    keep_any : (a : Answer) (memo : Memo) → Any kind (keep a memo)
    keep_any a memo = keep_splits runner term parts view cs uid kind a memo

    reset_any : (span : Span) (rule : Rule) → Any kind rule → Any kind (reset span rule)
    reset_any span rule any ss = reset_splits runner term parts view cs uid kind span rule ss (λ ss1 rested. any ss1)

    over_any : (a : Answer) → Any kind (over a)
    over_any a = reset_any span.All (keep a Nothing) (keep_any a Nothing)

    pass_on_any : (memo : Memo) (a : Answer) → Any kind (pass_on memo a)
    pass_on_any memo answer.Running = keep_any answer.Running memo
    pass_on_any memo answer.Success = over_any answer.Success
    pass_on_any memo answer.Failure = over_any answer.Failure
    pass_on_any memo answer.Skipped = over_any answer.Skipped

    either_any : (b : Bool) (one other : Rule) → Any kind one → Any kind other → Any kind (cond b one other)
    either_any b one other first second ss = cond_both b one other (λ rule. S kind ss rule) (λ _. first ss) (λ _. second ss)

    -- ---- The ends of rounds

    sequence_any : (goes : Answer) (e : RoundEnd) → Any kind (sequence_end goes e)
    sequence_any goes (AtChild place answer.Running) = keep_any answer.Running (Index place true)
    sequence_any goes (AtChild place answer.Success) = over_any answer.Success
    sequence_any goes (AtChild place answer.Failure) = over_any answer.Failure
    sequence_any goes (AtChild place answer.Skipped) = over_any answer.Skipped
    sequence_any goes (AfterLast true) = over_any goes
    sequence_any goes (AfterLast false) = over_any answer.Skipped

    memory_any : (e : RoundEnd) → Any kind (with_memory_end e)
    memory_any (AtChild place answer.Failure) = reset_any (span.From place) (keep answer.Failure (Index place false)) (keep_any answer.Failure (Index place false))
    memory_any (AtChild place answer.Running) = sequence_any answer.Success (AtChild place answer.Running)
    memory_any (AtChild place answer.Success) = sequence_any answer.Success (AtChild place answer.Success)
    memory_any (AtChild place answer.Skipped) = sequence_any answer.Success (AtChild place answer.Skipped)
    memory_any (AfterLast seen) = sequence_any answer.Success (AfterLast seen)

    reactive_any : (goes : Answer) (e : RoundEnd) → Any kind (reactive_end goes e)
    reactive_any goes (AtChild place answer.Running) = reset_any (span.AllBut place) (keep answer.Running (Index place true)) (keep_any answer.Running (Index place true))
    reactive_any goes (AtChild place answer.Success) = sequence_any goes (AtChild place answer.Success)
    reactive_any goes (AtChild place answer.Failure) = sequence_any goes (AtChild place answer.Failure)
    reactive_any goes (AtChild place answer.Skipped) = sequence_any goes (AtChild place answer.Skipped)
    reactive_any goes (AfterLast seen) = sequence_any goes (AfterLast seen)

    -- ---- Kinds of which one child alone holds leaves

    quiet_alone : (place : ℕ) (ss : List Status) → Quiet place ss → Alone runner term parts view cs uid kind place ss
    quiet_alone place ss quiet = record { earlier = λ k less never. quiet k (λ e. omega (arith, e, less)); later = λ k less never. quiet k (λ e. omega (arith, e, less)) }

    visit_quiet : (place : ℕ) (go : Answer → Rule) → Any kind (go answer.Running) → ((a : Answer) → Fresh kind (go a)) → (ss : List Status) → Quiet place ss → S kind ss (visit place go)
    visit_quiet place go runs fresh ss quiet = visit_splits runner term parts view cs uid kind place go ss (quiet_alone place ss quiet) heard
      where
        heard : (a : Answer) (ss1 : List Status) → Changed place (status_of a) ss ss1 → S kind ss1 (go a)
        heard answer.Running ss1 changed = runs ss1
        heard answer.Success ss1 changed = fresh answer.Success ss1 (none_after place status.Success ss ss1 quiet changed refl)
        heard answer.Failure ss1 changed = fresh answer.Failure ss1 (none_after place status.Failure ss ss1 quiet changed refl)
        heard answer.Skipped ss1 changed = fresh answer.Skipped ss1 (none_after place status.Idle ss ss1 quiet changed refl)

    visit_fresh : (place : ℕ) (go : Answer → Rule) → Any kind (go answer.Running) → ((a : Answer) → Fresh kind (go a)) → Fresh kind (visit place go)
    visit_fresh place go runs fresh ss none = visit_quiet place go runs fresh ss (λ k other. none k)

    reset_fresh : (span : Span) (rule : Rule) → Fresh kind rule → Fresh kind (reset span rule)
    reset_fresh span rule fresh ss none = reset_splits runner term parts view cs uid kind span rule ss (λ ss1 rested. fresh ss1 (none_rested span ss ss1 none rested))

    any_fresh : (rule : Rule) → Any kind rule → Fresh kind rule
    any_fresh rule any ss none = any ss

    -- a round
    module _ (goes : Answer) (ends : RoundEnd → Rule) (stops : passes goes answer.Running ≡ false) (ends_any : (e : RoundEnd) → Any kind (ends e)) where
      round_quiet : (left place : ℕ) (seen : Bool) (ss : List Status) → Quiet place ss → S kind ss (round goes ends left place seen)
      round_quiet zero place seen ss quiet = ends_any (AfterLast seen) ss
      round_quiet (suc left) place seen ss quiet =
          let later : Bool → Rule = λ b. round goes ends left (place + 1) b in
          visit_quiet place (λ a. round_after goes ends place seen later a)
          (λ ss1. cond_both (passes goes answer.Running) (later (seen || is_seen answer.Running)) (ends (AtChild place answer.Running)) (λ rule. S kind ss1 rule) (λ e. absurd (both_tests e stops)) (λ _. ends_any (AtChild place answer.Running) ss1))
          (λ a ss1 none. cond_both (passes goes a) (later (seen || is_seen a)) (ends (AtChild place a)) (λ rule. S kind ss1 rule)
          (λ _. round_quiet left (place + 1) (seen || is_seen a) ss1 (λ k other. none k)) (λ _. ends_any (AtChild place a) ss1))
          ss quiet

    chosen_quiet : (place : ℕ) (ss : List Status) → Quiet place ss → S kind ss (chosen_branch place)
    chosen_quiet place = visit_quiet place (λ a. pass_on (Chosen (Some place)) a) (pass_on_any (Chosen (Some place)) answer.Running) (λ a. any_fresh (pass_on (Chosen (Some place)) a) (pass_on_any (Chosen (Some place)) a))

    switch_starts : (picked : ℕ) (ss : List Status) → AllIdle ss → S kind ss (switch None picked)
    switch_starts picked ss idle = chosen_quiet picked ss (λ k other. ap is_running (idle k (omega arith)))

    switch_goes : (place picked : ℕ) (ss : List Status) → OneRuns place ss → S kind ss (switch (Some place) picked)
    switch_goes place picked ss runs =
        cond_both (nat_eq place picked) (chosen_branch picked) (reset (span.One place) (chosen_branch picked)) (λ rule. S kind ss rule)
        (λ same. chosen_quiet picked ss (idle_quiet picked ss (subst (λ (k : ℕ). OthersIdle k ss) (eqb-true place picked same) runs.others)))
        (λ _. reset_splits runner term parts view cs uid kind (span.One place) (chosen_branch picked) ss
        (λ ss1 rested. chosen_quiet picked ss1 (λ k other. ap is_running (released place ss ss1 runs.others rested k (omega arith)))))

    judged_fresh : (n : ℕ) (a : Answer) → Fresh kind (if_then_else_after n a)
    judged_fresh n answer.Running = λ ss none. pass_on_any (Chosen None) answer.Running ss
    judged_fresh n answer.Success = λ ss none. chosen_quiet 1 ss (λ k other. none k)
    judged_fresh n answer.Failure = λ ss none. cond_both (nat_lt 2 n) (chosen_branch 2) (over answer.Failure) (λ rule. S kind ss rule) (λ _. chosen_quiet 2 ss (λ k other. none k)) (λ _. over_any answer.Failure ss)
    judged_fresh n answer.Skipped = λ ss none. pass_on_any (Chosen None) answer.Skipped ss

    if_starts : (n : ℕ) (ss : List Status) → IdleFrom 1 ss → S kind ss (if_then_else n None)
    if_starts n ss idle = visit_quiet 0 (λ a. if_then_else_after n a) (pass_on_any (Chosen None) answer.Running) (judged_fresh n) ss (λ k other. ap is_running (idle k (omega (arith, other))))

    completed_rests : (st : Status) → is_completed st ≡ true → is_running st ≡ false
    completed_rests status.Idle e = refl
    completed_rests status.Running e = cc
    completed_rests status.Success e = refl
    completed_rests status.Failure e = refl

    if_goes : (n place : ℕ) (ss : List Status) → BranchRuns place ss → S kind ss (if_then_else n (Some place))
    if_goes n place ss runs = chosen_quiet place ss quiet
      where
        quiet : Quiet place ss
        quiet zero other = completed_rests (status_at ss 0) runs.condition
        quiet (suc k) other = ap is_running (runs.others (suc k) (omega arith) other)

    -- ---- RecoveryNode

    attempt_after_fresh : (r : Recoveries) (failed : Rule) (a : Answer) → Fresh kind failed → Fresh kind (attempt_after r failed a)
    attempt_after_fresh r failed answer.Failure fresh = fresh
    attempt_after_fresh r failed answer.Running fresh = λ ss none. pass_on_any (Recovering (record r { recovers = false })) answer.Running ss
    attempt_after_fresh r failed answer.Success fresh = λ ss none. over_any answer.Success ss
    attempt_after_fresh r failed answer.Skipped fresh = λ ss none. over_any answer.Skipped ss

    attempt_quiet : (r : Recoveries) (failed : Rule) → Fresh kind failed → (ss : List Status) → Quiet 0 ss → S kind ss (attempt r failed)
    attempt_quiet r failed fresh = visit_quiet 0 (λ a. attempt_after r failed a) (pass_on_any (Recovering (record r { recovers = false })) answer.Running) (λ a. attempt_after_fresh r failed a fresh)

    recovery_after_fresh : (r : Recoveries) (again : Rule) (a : Answer) → Fresh kind again → Fresh kind (recovery_after r again a)
    recovery_after_fresh r again answer.Success fresh = reset_fresh (span.One 1) again fresh
    recovery_after_fresh r again answer.Running fresh = λ ss none. keep_any answer.Running (Recovering (record r { recovers = true })) ss
    recovery_after_fresh r again answer.Failure fresh = λ ss none. over_any answer.Failure ss
    recovery_after_fresh r again answer.Skipped fresh = λ ss none. over_any answer.Failure ss

    helped_quiet : (r : Recoveries) (again : Rule) → Fresh kind again → (ss : List Status) → Quiet 1 ss → S kind ss (visit 1 (λ a. recovery_after r again a))
    helped_quiet r again fresh = visit_quiet 1 (λ a. recovery_after r again a) (keep_any answer.Running (Recovering (record r { recovers = true }))) (λ a. recovery_after_fresh r again a fresh)

    recover_fresh : (left : ℕ) (r : Recoveries) → Fresh kind (recover left r)
    recover_fresh zero r = λ ss none. over_any answer.Failure ss
    recover_fresh (suc left) r =
        let again : Rule = attempt (one_recovered r) (recover left (one_recovered r)) in
        reset_fresh (span.One 0) (visit 1 (λ a. recovery_after r again a))
        (λ ss none. helped_quiet r again (λ ss1 none1. attempt_quiet (one_recovered r) (recover left (one_recovered r)) (recover_fresh left (one_recovered r)) ss1 (λ k other. none1 k)) ss (λ k other. none k))

    attempt_on_quiet : (r : Recoveries) (ss : List Status) → Quiet 0 ss → S kind ss (attempt_on r)
    attempt_on_quiet r = attempt_quiet r (recover (recoveries_left r) r) (recover_fresh (recoveries_left r) r)

    recovery_quiet : (recovers : Bool) (r : Recoveries) (ss : List Status) → OthersIdle (if recovers then 1 else 0) ss → S kind ss (recovery_node recovers r)
    recovery_quiet false r ss idle = attempt_on_quiet r ss (idle_quiet 0 ss idle)
    recovery_quiet true r ss idle = helped_quiet r (attempt_on (one_recovered r)) (λ ss1 none. attempt_on_quiet (one_recovered r) ss1 (λ k other. none k)) ss (idle_quiet 1 ss idle)

    -- ---- RoundRobin

    robin_after_fresh : (n : ℕ) (r : Rotation) (later : Rule) (a : Answer) → Fresh kind later → Fresh kind (robin_after n r later a)
    robin_after_fresh n r later answer.Running fresh = λ ss none. keep_any answer.Running (Rotating r) ss
    robin_after_fresh n r later answer.Success fresh =
        let next : Memo = Rotating (rotation_at (next_of n r.at)) in
        λ ss none. reset_any span.All (keep answer.Success next) (keep_any answer.Success next) ss
    robin_after_fresh n r later answer.Failure fresh = fresh
    robin_after_fresh n r later answer.Skipped fresh = fresh

    robin_on_fresh : (n left : ℕ) (r : Rotation) (a : Answer) → Fresh kind (robin_on n left r a)
    robin_on_fresh n zero r a = λ ss none. over_any (cond (nat_eq (passed_by n a r).skipped n) answer.Skipped answer.Failure) ss
    robin_on_fresh n (suc left) r a =
        let next : Rotation = passed_by n a r in
        let go : Answer → Rule = λ b. robin_after n next (robin_on n left next b) b in
        reset_fresh (span.One r.at) (visit next.at go) (visit_fresh next.at go (keep_any answer.Running (Rotating next)) (λ b. robin_after_fresh n next (robin_on n left next b) b (robin_on_fresh n left next b)))

    robin_quiet : (n : ℕ) (r : Rotation) (ss : List Status) → Quiet r.at ss → S kind ss (round_robin n r)
    robin_quiet n r =
        let go : Answer → Rule = λ a. robin_after n r (robin_on n (n - (r.passed + 1)) r a) a in
        visit_quiet r.at go (keep_any answer.Running (Rotating r)) (λ a. robin_after_fresh n r (robin_on n (n - (r.passed + 1)) r a) a (robin_on_fresh n (n - (r.passed + 1)) r a))

    -- ---- Kinds whose children may all meet

    module _ (meets : (k : ℕ) → meeting_at kind k ≡ Never → ⊥) where
      visit_any : (place : ℕ) (go : Answer → Rule) → ((a : Answer) → Any kind (go a)) → Any kind (visit place go)
      visit_any place go any ss =
          visit_splits runner term parts view cs uid kind place go ss (record { earlier = λ k less never. absurd (meets k never); later = λ k less never. absurd (meets place never) }) (λ a ss1 changed. any a ss1)

      pass_any : (place : ℕ) (passed : Rule) (go : Answer → Rule) → Any kind passed → Any kind (visit place go) → Any kind (visit_or_pass place passed go)
      pass_any place passed go one other ss = pass_splits runner term parts view cs uid kind place passed go ss (one ss) (other ss)

      round_any : (goes : Answer) (ends : RoundEnd → Rule) → ((e : RoundEnd) → Any kind (ends e)) → (left place : ℕ) (seen : Bool) → Any kind (round goes ends left place seen)
      round_any goes ends ends_any zero place seen = ends_any (AfterLast seen)
      round_any goes ends ends_any (suc left) place seen =
          let later : Bool → Rule = λ b. round goes ends left (place + 1) b in
          visit_any place (λ a. round_after goes ends place seen later a)
          (λ a. either_any (passes goes a) (later (seen || is_seen a)) (ends (AtChild place a)) (round_any goes ends ends_any left (place + 1) (seen || is_seen a)) (ends_any (AtChild place a)))

      after_any : (n : ℕ) (c : Counts) (later : Rule) → Any kind later → Any kind (parallel_after n c later)
      after_any n c later rest =
          either_any (success_holds c) (over answer.Success) (cond (failure_holds n c) (over answer.Failure) later) (over_any answer.Success)
          (either_any (failure_holds n c) (over answer.Failure) later (over_any answer.Failure) rest)

      parallel_any : (n left place : ℕ) (c : Counts) → Any kind (parallel n left place c)
      parallel_any n zero place c =
          let kept : Memo = Counted (record c { skipped = 0 }) in
          either_any (nat_eq c.skipped n) (over answer.Skipped) (keep answer.Running kept) (over_any answer.Skipped) (keep_any answer.Running kept)
      parallel_any n (suc left) place c =
          let go : Answer → Rule = λ a. parallel_after n (counted a c) (parallel n left (place + 1) (counted a c)) in
          pass_any place (parallel_after n c (parallel n left (place + 1) c)) go
          (after_any n c (parallel n left (place + 1) c) (parallel_any n left (place + 1) c))
          (visit_any place go (λ a. after_any n (counted a c) (parallel n left (place + 1) (counted a c)) (parallel_any n left (place + 1) (counted a c))))

      pipeline_end_any : (seen : Bool) → Any kind (pipeline_end seen)
      pipeline_end_any true = over_any answer.Success
      pipeline_end_any false = over_any answer.Skipped

      pipeline_after_any : (farthest place : ℕ) (seen : Bool) (later : Bool → Rule) (a : Answer) → ((b : Bool) → Any kind (later b)) → Any kind (pipeline_after farthest place seen later a)
      pipeline_after_any farthest place seen later answer.Running rest = either_any (nat_lt place farthest) (later true) (keep answer.Running (Index place true)) (rest true) (keep_any answer.Running (Index place true))
      pipeline_after_any farthest place seen later answer.Success rest = rest true
      pipeline_after_any farthest place seen later answer.Failure rest = over_any answer.Failure
      pipeline_after_any farthest place seen later answer.Skipped rest = rest seen

      pipeline_any : (farthest left place : ℕ) (seen : Bool) → Any kind (pipeline farthest left place seen)
      pipeline_any farthest zero place seen = pipeline_end_any seen
      pipeline_any farthest (suc left) place seen =
          let later : Bool → Rule = λ b. pipeline farthest left (place + 1) b in
          visit_any place (λ a. pipeline_after farthest place seen later a) (λ a. pipeline_after_any farthest place seen later a (λ b. pipeline_any farthest left (place + 1) b))

      child_any : (other : Answer → Answer) (memo : Memo) → Any kind (child_as other memo)
      child_any other memo = visit_any 0 (λ a. pass_on memo (other a)) (λ a. pass_on_any memo (other a))

      keep_running_any : (memo : Memo) (a : Answer) → Any kind (keep_running_after memo a)
      keep_running_any memo answer.Running = pass_on_any memo answer.Running
      keep_running_any memo answer.Success = reset_any span.All (keep answer.Running memo) (keep_any answer.Running memo)
      keep_running_any memo answer.Failure = pass_on_any memo answer.Failure
      keep_running_any memo answer.Skipped = pass_on_any memo answer.Skipped

      run_once_after_any : (a : Answer) → Any kind (run_once_after a)
      run_once_after_any answer.Running = keep_any answer.Running (Finished None)
      run_once_after_any answer.Success = reset_any span.All (keep answer.Success (Finished (Some answer.Success))) (keep_any answer.Success (Finished (Some answer.Success)))
      run_once_after_any answer.Failure = reset_any span.All (keep answer.Failure (Finished (Some answer.Failure))) (keep_any answer.Failure (Finished (Some answer.Failure)))
      run_once_after_any answer.Skipped = over_any answer.Skipped

      run_once_any : (mark : Option Answer) (picked : ℕ) → Any kind (run_once mark picked)
      run_once_any None picked = visit_any 0 (λ a. run_once_after a) run_once_after_any
      run_once_any (Some a) picked = keep_any (cond (nat_eq picked 0) a answer.Skipped) (Finished (Some a))

      module _ (again : Answer) where
        turn_any : (t : Turns) (later : Rule) (a : Answer) → Any kind later → Any kind (turn_after again t later a)
        turn_any t later a rest = either_any (same_answer a again) later (pass_on (Turned t) a) rest (pass_on_any (Turned t) a)

        again_any : (left : ℕ) (t : Turns) → Any kind (turn_again again left t)
        again_any zero t = over_any again
        again_any (suc left) t =
            let go : Answer → Rule = λ a. turn_after again (one_more t) (turn_again again left (one_more t)) a in
            reset_any span.All (visit 0 go) (visit_any 0 go (λ a. turn_any (one_more t) (turn_again again left (one_more t)) a (again_any left (one_more t))))

        on_any : (limit : Option ℕ) (t : Turns) → Any kind (turns_on again limit t)
        on_any (Some limit) t = again_any (limit - (t.done + 1)) t
        on_any None t = reset_any span.All (keep answer.Running (Turned t)) (keep_any answer.Running (Turned t))

        turns_any : (t : Turns) → Any kind (turns again t)
        turns_any t = visit_any 0 (λ a. turn_after again t (turns_on again (limit_of t.limit) t) a) (λ a. turn_any t (turns_on again (limit_of t.limit) t) a (on_any (limit_of t.limit) t))

      rate_after_any : (p : Pace) (now : ℕ) (a : Answer) → Any kind (rate_after p now a)
      rate_after_any p now answer.Running = keep_any answer.Running (Paced (record p { due = true }))
      rate_after_any p now answer.Success =
          let kept : Memo = Paced (record p { first = now; due = false }) in
          reset_any span.All (keep answer.Success kept) (keep_any answer.Success kept)
      rate_after_any p now answer.Failure =
          let kept : Memo = Paced (record p { due = false }) in
          reset_any span.All (keep answer.Failure kept) (keep_any answer.Failure kept)
      rate_after_any p now answer.Skipped = over_any answer.Skipped

      rate_any : (p : Pace) (now : ℕ) → Any kind (rate_controller p now)
      rate_any p now = either_any (is_due p now) (visit 0 (λ a. rate_after p now a)) (keep answer.Running (Paced p)) (visit_any 0 (λ a. rate_after p now a) (rate_after_any p now)) (keep_any answer.Running (Paced p))

  -- ---- WhileDoElse

  only_any : (place : ℕ) (memo : Memo) → Any WhileDoElse (only_branch place memo)
  only_any place memo ss =
      reset_splits runner term parts view cs uid WhileDoElse (span.AllBut place) (visit place (λ a. pass_on memo a)) ss
      (λ ss1 rested. visit_splits runner term parts view cs uid WhileDoElse place (λ a. pass_on memo a) ss1
      (quiet_alone WhileDoElse place ss1 (λ k other. ap is_running (rested.away k (ap not (ne_eqb k place other)))))
      (λ a ss2 changed. pass_on_any WhileDoElse memo a ss2))

  while_any : (n : ℕ) (memo : Memo) (a : Answer) → Any WhileDoElse (while_do_else_after n memo a)
  while_any n memo answer.Running = pass_on_any WhileDoElse memo answer.Running
  while_any n memo answer.Success = only_any 1 memo
  while_any n memo answer.Failure = either_any WhileDoElse (nat_lt 2 n) (only_branch 2 memo) (over answer.Failure) (only_any 2 memo) (over_any WhileDoElse answer.Failure)
  while_any n memo answer.Skipped = pass_on_any WhileDoElse memo answer.Skipped

  while_do_else_any : (n : ℕ) (memo : Memo) → Any WhileDoElse (while_do_else n memo)
  while_do_else_any n memo ss =
      visit_splits runner term parts view cs uid WhileDoElse 0 (λ a. while_do_else_after n memo a) ss
      (record { earlier = λ k less never. absurd (omega (arith, less)); later = λ k less never. cc })
      (λ a ss1 changed. while_any n memo a ss1)

  -- ---- Every kind

  starts_quiet : (place : ℕ) (ss : List Status) → StartsAt place ss → Quiet place ss
  starts_quiet place ss starts = λ k other. ⊎_elim
      (λ below. starts.before k below)
      (λ from. ap is_running (starts.following k (strictly k from other)))
      (cases_lt k place)
    where
      strictly : (k : ℕ) → place ≤ k → (k ≡ place → ⊥) → place + 1 ≤ k
      strictly k from other = ⊎_elim (λ below. omega (arith, below)) (λ reached. absurd (other (omega (arith, from, reached)))) (cases_lt place k)

  pub rule_splits : (n picked now : ℕ) (ports : List Port) (ss : List Status) (kind : Kind) (memo : Memo) → Begins kind ports now memo ss → S kind ss (rule kind n memo picked now)
  rule_splits n picked now ports ss Sequence (Index at seen) begins = round_quiet Sequence answer.Success (sequence_end answer.Success) refl (sequence_any Sequence answer.Success) (n - at) at seen ss (starts_quiet at ss begins)
  rule_splits n picked now ports ss Fallback (Index at seen) begins = round_quiet Fallback answer.Failure (sequence_end answer.Failure) refl (sequence_any Fallback answer.Failure) (n - at) at seen ss (starts_quiet at ss begins)
  rule_splits n picked now ports ss SequenceWithMemory (Index at seen) begins = round_quiet SequenceWithMemory answer.Success with_memory_end refl (memory_any SequenceWithMemory) (n - at) at seen ss (starts_quiet at ss begins)
  rule_splits n picked now ports ss ReactiveSequence (Index at seen) begins = round_any ReactiveSequence (λ k e. cc) answer.Success (reactive_end answer.Success) (reactive_any ReactiveSequence answer.Success) n 0 false ss
  rule_splits n picked now ports ss ReactiveFallback (Index at seen) begins = round_any ReactiveFallback (λ k e. cc) answer.Failure (reactive_end answer.Failure) (reactive_any ReactiveFallback answer.Failure) n 0 false ss
  rule_splits n picked now ports ss Parallel (Counted c) begins = parallel_any Parallel (λ k e. cc) n n 0 c ss
  rule_splits n picked now ports ss (Switch cases) (Chosen None) begins = switch_starts (Switch cases) picked ss begins
  rule_splits n picked now ports ss (Switch cases) (Chosen (Some place)) begins = switch_goes (Switch cases) place picked ss begins
  rule_splits n picked now ports ss IfThenElse (Chosen None) begins = if_starts IfThenElse n ss begins
  rule_splits n picked now ports ss IfThenElse (Chosen (Some place)) begins = if_goes IfThenElse n place ss begins
  rule_splits n picked now ports ss WhileDoElse Nothing begins = while_do_else_any n Nothing ss
  rule_splits n picked now ports ss RecoveryNode (Recovering r) begins = recovery_quiet RecoveryNode r.recovers r ss begins.1
  rule_splits n picked now ports ss PipelineSequence (Index at seen) begins = pipeline_any PipelineSequence (λ k e. cc) at n 0 false ss
  rule_splits n picked now ports ss RoundRobin (Rotating r) begins = robin_quiet RoundRobin n r ss (idle_quiet r.at ss begins.1)
  rule_splits n picked now ports ss SubTree Nothing begins = child_any SubTree (λ k e. cc) as_it_is Nothing ss
  rule_splits n picked now ports ss Inverter Nothing begins = child_any Inverter (λ k e. cc) inverted Nothing ss
  rule_splits n picked now ports ss ForceSuccess Nothing begins = child_any ForceSuccess (λ k e. cc) (forced answer.Success) Nothing ss
  rule_splits n picked now ports ss ForceFailure Nothing begins = child_any ForceFailure (λ k e. cc) (forced answer.Failure) Nothing ss
  rule_splits n picked now ports ss KeepRunningUntilFailure Nothing begins = visit_any KeepRunningUntilFailure (λ k e. cc) 0 (λ a. keep_running_after Nothing a) (keep_running_any KeepRunningUntilFailure (λ k e. cc) Nothing) ss
  rule_splits n picked now ports ss Retry (Turned t) begins = turns_any Retry (λ k e. cc) answer.Failure t ss
  rule_splits n picked now ports ss Repeat (Turned t) begins = turns_any Repeat (λ k e. cc) answer.Success t ss
  rule_splits n picked now ports ss Timeout (Begun since) begins =
      either_any Timeout (is_late since now) (over answer.Failure) (child_as as_it_is (Begun since)) (over_any Timeout answer.Failure) (child_any Timeout (λ k e. cc) as_it_is (Begun since)) ss
  rule_splits n picked now ports ss Delay (Begun since) begins =
      either_any Delay (nat_lt (now - since.first) since.length) (keep answer.Running (Begun since)) (child_as as_it_is (Begun since)) (keep_any Delay answer.Running (Begun since)) (child_any Delay (λ k e. cc) as_it_is (Begun since)) ss
  rule_splits n picked now ports ss RunOnce (Finished mark) begins = run_once_any RunOnce (λ k e. cc) mark picked ss
  rule_splits n picked now ports ss RateController (Paced p) begins = rate_any RateController (λ k e. cc) p now ss
  rule_splits n picked now ports ss _ _ begins = absurd begins
