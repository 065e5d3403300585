-- Switch, IfThenElse and WhileDoElse, and the decorators.
use Rattle.std.proofs.Common.{◌≡◌, ℕ, ℤ, zero, suc, pos, negsuc, ◌+◌, ◌-◌, ◌<◌, List, length, Bool, true, false, not, if◌then◌else◌, nat_eq, nat_lt, Option, Some, None, IfSome, refl, sym, ap, subst, ◌∙◌, arith}
use Rattle.std.specs.Prelude.{codes}
use Rattle.std.specs.Ordering.{int_eq}
use Rattle.std.proofs.lemmas.Bool.{cond_both, ltb-true}
use Rattle.spec_script.specs.declared.value.Value.TheVariants.{Int, Text}
use Rattle.spec_run.specs.declared.memory.Memo.{Memo}
use Rattle.spec_run.specs.declared.memory.Memo.TheVariants.{Nothing, Chosen, Finished, Turns as Turned}
use Rattle.spec_run.specs.declared.memory.Turns.{Turns}
use Rattle.spec_run.specs.declared.moves.Span.TheVariants as span
use Rattle.spec_run.specs.declared.status.Answer.{Answer}
use Rattle.spec_run.specs.declared.status.Answer.TheVariants as answer
use Rattle.spec_tree.specs.declared.term.Kind.{Kind}
use Rattle.spec_tree.specs.declared.term.Kind.TheVariants.{Switch, IfThenElse, WhileDoElse, KeepRunningUntilFailure, Timeout, Delay, RunOnce}
use Rattle.spec_tree.specs.declared.term.Port.{Port}
use Rattle.spec_tree.specs.declared.term.PortValue.{PortValue}
use Rattle.spec_tree.specs.declared.term.PortValue.TheVariants.{Lit, Key}
use Rattle.spec_world.specs.declared.world.Row.{Row}
use Rattle.spec_tree.specs.BuiltIns.{ports_of}
use Rattle.spec_run.specs.Rules.Answers.{pass_on, same_answer}
use Rattle.spec_run.specs.Rules.Choices.{chosen_branch, if_then_else, if_then_else_after, only_branch, switch, while_do_else, while_do_else_after}
use Rattle.spec_run.specs.Rules.OneVisit.{as_it_is, child_as, delay, is_late, keep_running, keep_running_after, run_once, run_once_after, since_of, timeout}
use Rattle.spec_run.specs.Rules.Turns.{limit_of, one_more, turn_after, turn_again, turns, turns_on}
use Rattle.spec_run.specs.Steps.{Rule, keep, over, reset, visit}
use Rattle.spec_run.specs.Visit.{status_of}
use Rattle.spec_dead.specs.declared.answers.Answers.{Answers}
use Rattle.spec_dead.specs.Answers.{becoming, either, may, only, only_if, without}
use Rattle.spec_dead.specs.Reached.{always_selected, answers_at, branch_reached, given, is_zero, may_be_selected}
use Rattle.spec_dead.specs.Rules.{branch_answers, never_skips, otherwise, rule_answers, turned}
use Rattle.tree_dead.proofs.Fits.{Begins, IsBranch, IsLength, IsLimit, MayEnd, MayGoOn, MemoOf, RestsWith}
use Rattle.tree_dead.proofs.RoundSteps.{reached_has}
use Rattle.tree_dead.proofs.Rounds.{Gives}
use Rattle.tree_dead.proofs.Sets.{Has, either_left, either_right, if_so, not_both, only_has}
use Rattle.tree_dead.proofs.Words.{Children, Goes, answers_here, keep_goes, over_goes, pass_on_goes, reset_goes, visit_goes}

-- ---- Sets

-- all answers but others than this
pub without_other : (from a : Answer) (set : Answers) → same_answer a from ≡ false → Has a set → Has a (without from set)
without_other answer.Running answer.Running set other has = cc
without_other answer.Running answer.Success set other has = has
without_other answer.Running answer.Failure set other has = has
without_other answer.Running answer.Skipped set other has = has
without_other answer.Success answer.Running set other has = has
without_other answer.Success answer.Success set other has = cc
without_other answer.Success answer.Failure set other has = has
without_other answer.Success answer.Skipped set other has = has
without_other answer.Failure answer.Running set other has = has
without_other answer.Failure answer.Success set other has = has
without_other answer.Failure answer.Failure set other has = cc
without_other answer.Failure answer.Skipped set other has = has
without_other answer.Skipped answer.Running set other has = has
without_other answer.Skipped answer.Success set other has = has
without_other answer.Skipped answer.Failure set other has = has
without_other answer.Skipped answer.Skipped set other has = cc

pub stays_in : (from to a : Answer) (set : Answers) → same_answer a from ≡ false → Has a set → Has a (becoming from to set)
stays_in from to a set other has = either_left a (without from set) (only_if (may from set) (only to)) (without_other from a set other has)

pub becomes_in : (from to : Answer) (set : Answers) → Has from set → Has to (becoming from to set)
becomes_in from to set has = either_right to (without from set) (only_if (may from set) (only to)) (if_so to (may from set) (only to) has (only_has to))

same_is : (a b : Answer) → same_answer a b ≡ true → a ≡ b
same_is answer.Running answer.Running e = refl
same_is answer.Success answer.Success e = refl
same_is answer.Failure answer.Failure e = refl
same_is answer.Skipped answer.Skipped e = refl
same_is answer.Running answer.Success e = cc
same_is answer.Running answer.Failure e = cc
same_is answer.Running answer.Skipped e = cc
same_is answer.Success answer.Running e = cc
same_is answer.Success answer.Failure e = cc
same_is answer.Success answer.Skipped e = cc
same_is answer.Failure answer.Running e = cc
same_is answer.Failure answer.Success e = cc
same_is answer.Failure answer.Skipped e = cc
same_is answer.Skipped answer.Running e = cc
same_is answer.Skipped answer.Success e = cc
same_is answer.Skipped answer.Failure e = cc

module _ (is_dead : ℕ → Bool) (rows : List Row) (n : Children is_dead rows) where
  abbrev all : List Answers
  all = answers_here is_dead rows n

  abbrev child : ℕ → Answers
  child place = answers_at all place

  abbrev Fit : Kind → List Port → Rule → Type 0
  Fit kind ports rule = Goes is_dead rows n (Gives kind ports all) rule

  -- an answer is passed on that the rule may give
  passed : (kind : Kind) (ports : List Port) (memo : Memo) (a : Answer) → Has a (rule_answers kind ports all) → (a ≡ answer.Running → Begins kind ports all memo) → RestsWith kind all Nothing → Fit kind ports (pass_on memo a)
  passed kind ports memo a has begins rests =
      pass_on_goes is_dead rows n (Gives kind ports all) memo a (λ is. (subst (λ (x : Answer). Has x (rule_answers kind ports all)) is has, begins is)) (λ ends. (has, at_end a ends))
    where
      at_end : (a : Answer) → (a ≡ answer.Running → ⊥) → MemoOf kind ports all (status_of a) Nothing
      at_end answer.Running ends = absurd (ends refl)
      at_end answer.Success ends = rests
      at_end answer.Failure ends = rests
      at_end answer.Skipped ends = rests

  -- a chosen child is visited, and its answer is passed on
  chosen : (kind : Kind) (ports : List Port) (place : ℕ) → n.visits place ≡ true → ((a : Answer) → Has a (child place) → Has a (rule_answers kind ports all)) → Begins kind ports all (Chosen (Some place)) → RestsWith kind all Nothing →
      Fit kind ports (chosen_branch place)
  chosen kind ports place comes within begins rests =
      visit_goes is_dead rows n (Gives kind ports all) place (λ a. pass_on (Chosen (Some place)) a) comes (λ a has. passed kind ports (Chosen (Some place)) a (within a has) (λ _. begins) rests)

  -- ---- Switch

  module _ (cases : ℕ) (ports : List Port) (comes : (place : ℕ) → may_be_selected (always_selected (ports_of (Switch cases)) ports) place ≡ true → n.visits place ≡ true) where
    abbrev selects : ℕ → Bool
    selects place = may_be_selected (always_selected (ports_of (Switch cases)) ports) place

    branch : (picked : ℕ) → picked < length all → selects picked ≡ true → Fit (Switch cases) ports (chosen_branch picked)
    branch picked within is =
        chosen (Switch cases) ports picked (comes picked is)
        (λ a has. reached_has selects 0 all picked a (ap selects (let here : 0 + picked ≡ picked = omega arith in here) ∙ is) within has) tt tt

    pub switch_fits : (kept : Option ℕ) (picked : ℕ) → picked < length all → selects picked ≡ true → Fit (Switch cases) ports (switch kept picked)
    switch_fits None picked within is = branch picked within is
    switch_fits (Some kept) picked within is =
        cond_both (nat_eq kept picked) (chosen_branch picked) (reset (span.One kept) (chosen_branch picked)) (Fit (Switch cases) ports)
        (λ _. branch picked within is)
        (λ _. reset_goes is_dead rows n (Gives (Switch cases) ports all) (span.One kept) (chosen_branch picked) (branch picked within is))

  -- ---- Conditions with branches

  abbrev done_set : Answers
  done_set = only_if (child 0).success (child 1)

  abbrev other_set : Answers
  other_set = only_if (child 0).failure (otherwise (length all) (child 2))

  abbrev own_set : Answers
  own_set = without answer.Success (without answer.Failure (child 0))

  condition_in : (a : Answer) → same_answer a answer.Failure ≡ false → same_answer a answer.Success ≡ false → Has a (child 0) → Has a (branch_answers all)
  condition_in a apart other has = either_left a own_set (either done_set other_set) (without_other answer.Success a (without answer.Failure (child 0)) other (without_other answer.Failure a (child 0) apart has))

  done_in : (a : Answer) → (child 0).success ≡ true → Has a (child 1) → Has a (branch_answers all)
  done_in a is has = either_right a own_set (either done_set other_set) (either_left a done_set other_set (if_so a (child 0).success (child 1) is has))

  other_in : (a : Answer) → (child 0).failure ≡ true → Has a (otherwise (length all) (child 2)) → Has a (branch_answers all)
  other_in a is has = either_right a own_set (either done_set other_set) (either_right a done_set other_set (if_so a (child 0).failure (otherwise (length all) (child 2)) is has))

  third_in : (a : Answer) → (child 0).failure ≡ true → nat_lt 2 (length all) ≡ true → Has a (child 2) → Has a (branch_answers all)
  third_in a is more has = other_in a is (cond_both (nat_lt 2 (length all)) (child 2) (only answer.Failure) (Has a) (λ _. has) (λ none. absurd (not_both more none)))

  fails_in : (child 0).failure ≡ true → nat_lt 2 (length all) ≡ false → Has answer.Failure (branch_answers all)
  fails_in is none = other_in answer.Failure is (cond_both (nat_lt 2 (length all)) (child 2) (only answer.Failure) (Has answer.Failure) (λ more. absurd (not_both more none)) (λ _. refl))

  module _ (ports : List Port) (comes : (place : ℕ) → branch_reached (child 0) place ≡ true → n.visits place ≡ true) where
    if_after : (a : Answer) → Has a (child 0) → Fit IfThenElse ports (if_then_else_after (length all) a)
    if_after answer.Running has = passed IfThenElse ports (Chosen None) answer.Running (condition_in answer.Running refl refl has) (λ _. tt) tt
    if_after answer.Skipped has = passed IfThenElse ports (Chosen None) answer.Skipped (condition_in answer.Skipped refl refl has) (λ _. tt) tt
    if_after answer.Success has = chosen IfThenElse ports 1 (comes 1 has) (λ a is. done_in a has is) has tt
    if_after answer.Failure has =
        cond_both (nat_lt 2 (length all)) (chosen_branch 2) (over answer.Failure) (Fit IfThenElse ports)
        (λ more. chosen IfThenElse ports 2 (comes 2 has) (λ a is. third_in a has more is) (has, more) tt)
        (λ none. over_goes is_dead rows n (Gives IfThenElse ports all) answer.Failure (fails_in has none, tt))

    kept_branch : (place : ℕ) → IsBranch all place → Fit IfThenElse ports (chosen_branch place)
    kept_branch zero is = absurd is
    kept_branch (suc zero) is = chosen IfThenElse ports 1 (comes 1 is) (λ a has. done_in a is has) is tt
    kept_branch (suc (suc zero)) is = chosen IfThenElse ports 2 (comes 2 is.0) (λ a has. third_in a is.0 is.1 has) is tt
    kept_branch (suc (suc (suc k))) is = absurd is

    pub if_fits : (kept : Option ℕ) → IfSome kept (IsBranch all) → Fit IfThenElse ports (if_then_else (length all) kept)
    if_fits None is = visit_goes is_dead rows n (Gives IfThenElse ports all) 0 (λ a. if_then_else_after (length all) a) (comes 0 refl) if_after
    if_fits (Some place) is = kept_branch place is

    only_fits : (place : ℕ) (memo : Memo) → branch_reached (child 0) place ≡ true → ((a : Answer) → Has a (child place) → Has a (branch_answers all)) → Fit WhileDoElse ports (only_branch place memo)
    only_fits place memo is within =
        reset_goes is_dead rows n (Gives WhileDoElse ports all) (span.AllBut place) (visit place (λ a. pass_on memo a))
        (visit_goes is_dead rows n (Gives WhileDoElse ports all) place (λ a. pass_on memo a) (comes place is) (λ a has. passed WhileDoElse ports memo a (within a has) (λ _. tt) tt))

    while_after : (memo : Memo) (a : Answer) → Has a (child 0) → Fit WhileDoElse ports (while_do_else_after (length all) memo a)
    while_after memo answer.Running has = passed WhileDoElse ports memo answer.Running (condition_in answer.Running refl refl has) (λ _. tt) tt
    while_after memo answer.Skipped has = passed WhileDoElse ports memo answer.Skipped (condition_in answer.Skipped refl refl has) (λ _. tt) tt
    while_after memo answer.Success has = only_fits 1 memo has (λ a is. done_in a has is)
    while_after memo answer.Failure has =
        cond_both (nat_lt 2 (length all)) (only_branch 2 memo) (over answer.Failure) (Fit WhileDoElse ports)
        (λ more. only_fits 2 memo has (λ a is. third_in a has more is))
        (λ none. over_goes is_dead rows n (Gives WhileDoElse ports all) answer.Failure (fails_in has none, tt))

    pub while_fits : (memo : Memo) → Fit WhileDoElse ports (while_do_else (length all) memo)
    while_fits memo = visit_goes is_dead rows n (Gives WhileDoElse ports all) 0 (λ a. while_do_else_after (length all) memo a) (comes 0 refl) (while_after memo)

  -- ---- Decorators

  module _ (comes : n.visits 0 ≡ true) where
    -- the child's answer is passed on as another one
    pub child_fits : (kind : Kind) (ports : List Port) (other : Answer → Answer) (memo : Memo) → ((a : Answer) → Has a (child 0) → Has (other a) (rule_answers kind ports all)) → Begins kind ports all memo → RestsWith kind all Nothing → Fit kind ports (child_as other memo)
    child_fits kind ports other memo within begins rests =
        visit_goes is_dead rows n (Gives kind ports all) 0 (λ a. pass_on memo (other a)) comes (λ a has. passed kind ports memo (other a) (within a has) (λ _. begins) rests)

    keep_after : (ports : List Port) (memo : Memo) (a : Answer) → Has a (child 0) → Fit KeepRunningUntilFailure ports (keep_running_after memo a)
    keep_after ports memo answer.Success has =
        reset_goes is_dead rows n (Gives KeepRunningUntilFailure ports all) span.All (keep answer.Running memo)
        (keep_goes is_dead rows n (Gives KeepRunningUntilFailure ports all) answer.Running memo (becomes_in answer.Success answer.Running (child 0) has, tt))
    keep_after ports memo answer.Running has = passed KeepRunningUntilFailure ports memo answer.Running (stays_in answer.Success answer.Running answer.Running (child 0) refl has) (λ _. tt) tt
    keep_after ports memo answer.Failure has = passed KeepRunningUntilFailure ports memo answer.Failure (stays_in answer.Success answer.Running answer.Failure (child 0) refl has) (λ _. tt) tt
    keep_after ports memo answer.Skipped has = passed KeepRunningUntilFailure ports memo answer.Skipped (stays_in answer.Success answer.Running answer.Skipped (child 0) refl has) (λ _. tt) tt

    pub keep_running_fits : (ports : List Port) (memo : Memo) → Fit KeepRunningUntilFailure ports (keep_running memo)
    keep_running_fits ports memo = visit_goes is_dead rows n (Gives KeepRunningUntilFailure ports all) 0 (λ a. keep_running_after memo a) comes (keep_after ports memo)

    -- a length that has passed, or has not passed yet, is not 0
    late_given : (port : Option PortValue) (most now first : ℕ) → IsLength port most → is_late (record { first = first; length = most }) now ≡ true → not (is_zero port) ≡ true
    late_given port most now first is late = by (is_zero port) is
      where
        late_zero : (k : ℕ) → k ≡ 0 → is_late (record { first = first; length = k }) now ≡ true → ⊥
        late_zero zero none passed_by = cc
        late_zero (suc k) none passed_by = omega (arith, none)

        by : (b : Bool) → (b ≡ true → most ≡ 0) → not b ≡ true
        by true none = absurd (late_zero most (none refl) late)
        by false none = refl

    pub timeout_fits : (ports : List Port) (memo : Memo) (now : ℕ) → IsLength (given ports (codes "msec")) (since_of memo).length → Fit Timeout ports (timeout memo now)
    timeout_fits ports memo now is =
        let late : Answers = only_if (not (is_zero (given ports (codes "msec")))) (only answer.Failure) in
        cond_both (is_late (since_of memo) now) (over answer.Failure) (child_as as_it_is memo) (Fit Timeout ports)
        (λ passes. over_goes is_dead rows n (Gives Timeout ports all) answer.Failure
        (either_right answer.Failure (child 0) late (if_so answer.Failure (not (is_zero (given ports (codes "msec")))) (only answer.Failure) (late_given (given ports (codes "msec")) (since_of memo).length now (since_of memo).first is passes) refl), tt))
        (λ _. child_fits Timeout ports as_it_is memo (λ a has. either_left a (child 0) late has) is tt)

    waits_given : (port : Option PortValue) (most past : ℕ) → IsLength port most → nat_lt past most ≡ true → not (is_zero port) ≡ true
    waits_given port most past is waits = by (is_zero port) is
      where
        by : (b : Bool) → (b ≡ true → most ≡ 0) → not b ≡ true
        by true none = absurd (omega (arith, none refl, ltb-true past most waits))
        by false none = refl

    pub delay_fits : (ports : List Port) (memo : Memo) (now : ℕ) → IsLength (given ports (codes "delay_msec")) (since_of memo).length → Fit Delay ports (delay memo now)
    delay_fits ports memo now is =
        let waits : Answers = only_if (not (is_zero (given ports (codes "delay_msec")))) (only answer.Running) in
        cond_both (nat_lt (now - (since_of memo).first) (since_of memo).length) (keep answer.Running memo) (child_as as_it_is memo) (Fit Delay ports)
        (λ early. keep_goes is_dead rows n (Gives Delay ports all) answer.Running memo
        (either_right answer.Running (child 0) waits (if_so answer.Running (not (is_zero (given ports (codes "delay_msec")))) (only answer.Running) (waits_given (given ports (codes "delay_msec")) (since_of memo).length (now - (since_of memo).first) is early) refl), is))
        (λ _. child_fits Delay ports as_it_is memo (λ a has. either_left a (child 0) waits has) is tt)

    -- ---- RunOnce

    module _ (ports : List Port) where
      abbrev skip_set : Answers
      skip_set = only_if (not (never_skips (given ports (codes "then_skip")))) (only answer.Skipped)

      once_after : (a : Answer) → Has a (child 0) → Fit RunOnce ports (run_once_after a)
      once_after answer.Running has = keep_goes is_dead rows n (Gives RunOnce ports all) answer.Running (Finished None) (either_left answer.Running (child 0) skip_set has, tt)
      once_after answer.Skipped has = over_goes is_dead rows n (Gives RunOnce ports all) answer.Skipped (either_left answer.Skipped (child 0) skip_set has, tt)
      once_after answer.Success has =
          reset_goes is_dead rows n (Gives RunOnce ports all) span.All (keep answer.Success (Finished (Some answer.Success)))
          (keep_goes is_dead rows n (Gives RunOnce ports all) answer.Success (Finished (Some answer.Success)) (either_left answer.Success (child 0) skip_set has, has))
      once_after answer.Failure has =
          reset_goes is_dead rows n (Gives RunOnce ports all) span.All (keep answer.Failure (Finished (Some answer.Failure)))
          (keep_goes is_dead rows n (Gives RunOnce ports all) answer.Failure (Finished (Some answer.Failure)) (either_left answer.Failure (child 0) skip_set has, has))

      mark_gives : (mark : Answer) (b : Bool) → Has mark (child 0) → (b ≡ false → not (never_skips (given ports (codes "then_skip"))) ≡ true) → Gives RunOnce ports all (record { answer = if b then mark else answer.Skipped; memo = Finished (Some mark) })
      mark_gives answer.Running true has skips = (either_left answer.Running (child 0) skip_set has, has)
      mark_gives answer.Success true has skips = (either_left answer.Success (child 0) skip_set has, has)
      mark_gives answer.Failure true has skips = (either_left answer.Failure (child 0) skip_set has, has)
      mark_gives answer.Skipped true has skips = (either_left answer.Skipped (child 0) skip_set has, has)
      mark_gives mark false has skips = (either_right answer.Skipped (child 0) skip_set (if_so answer.Skipped (not (never_skips (given ports (codes "then_skip")))) (only answer.Skipped) (skips refl) refl), has)

      pub run_once_fits : (mark : Option Answer) (picked : ℕ) → IfSome mark (λ a. Has a (child 0)) → (nat_eq picked 0 ≡ false → IfSome mark (λ a. not (never_skips (given ports (codes "then_skip"))) ≡ true)) → Fit RunOnce ports (run_once mark picked)
      run_once_fits None picked is skips = visit_goes is_dead rows n (Gives RunOnce ports all) 0 run_once_after comes once_after
      run_once_fits (Some mark) picked is skips =
          keep_goes is_dead rows n (Gives RunOnce ports all) (if nat_eq picked 0 then mark else answer.Skipped) (Finished (Some mark)) (mark_gives mark (nat_eq picked 0) is skips)

    -- ---- Retry and Repeat

    module _ (kind : Kind) (ports : List Port) (again : Answer) (limit_given : Option PortValue) (set : rule_answers kind ports all ≡ turned again limit_given (child 0)) (ends : again ≡ answer.Running → ⊥)
        (begins : (t : Turns) → IsLimit limit_given t.limit → Begins kind ports all (Turned t)) (rests : RestsWith kind all Nothing) where
      abbrev TurnFit : Rule → Type 0
      TurnFit rule = Fit kind ports rule

      other_stays : (g : Option PortValue) (a : Answer) → same_answer a again ≡ false → Has a (child 0) → Has a (turned again g (child 0))
      other_stays (Some (Lit (Int n))) a other has = cond_both (int_eq n (negsuc 0)) (becoming again answer.Running (child 0)) (child 0) (Has a) (λ _. stays_in again answer.Running a (child 0) other has) (λ _. has)
      other_stays (Some (Lit (Text t))) a other has = has
      other_stays (Some (Key key)) a other has = either_left a (child 0) (becoming again answer.Running (child 0)) has
      other_stays None a other has = has

      again_ends : (g : Option PortValue) → MayEnd g → Has again (child 0) → Has again (turned again g (child 0))
      again_ends (Some (Lit (Int n))) end has = cond_both (int_eq n (negsuc 0)) (becoming again answer.Running (child 0)) (child 0) (Has again) (λ holds. absurd (not_both holds end)) (λ _. has)
      again_ends (Some (Lit (Text t))) end has = has
      again_ends (Some (Key key)) end has = either_left again (child 0) (becoming again answer.Running (child 0)) has
      again_ends None end has = has

      again_runs : (g : Option PortValue) → MayGoOn g → Has again (child 0) → Has answer.Running (turned again g (child 0))
      again_runs (Some (Lit (Int n))) on has = cond_both (int_eq n (negsuc 0)) (becoming again answer.Running (child 0)) (child 0) (Has answer.Running) (λ _. becomes_in again answer.Running (child 0) has) (λ fails. absurd (not_both on fails))
      again_runs (Some (Lit (Text t))) on has = absurd on
      again_runs (Some (Key key)) on has = either_right answer.Running (child 0) (becoming again answer.Running (child 0)) (becomes_in again answer.Running (child 0) has)
      again_runs None on has = absurd on

      in_set : (a : Answer) → Has a (turned again limit_given (child 0)) → Has a (rule_answers kind ports all)
      in_set a has = subst (λ (x : Answers). Has a x) (sym set) has

      after_fits : (t : Turns) (next : Rule) (a : Answer) → IsLimit limit_given t.limit → Has a (child 0) → (Has again (child 0) → TurnFit next) → TurnFit (turn_after again t next a)
      after_fits t next a is has goes =
          cond_both (same_answer a again) next (pass_on (Turned t) a) TurnFit
          (λ same. goes (subst (λ (x : Answer). Has x (child 0)) (same_is a again same) has))
          (λ other. passed kind ports (Turned t) a (in_set a (other_stays limit_given a other has)) (λ _. begins t is) rests)

      end_fits : MayEnd limit_given → Has again (child 0) → TurnFit (over again)
      end_fits end has = over_goes is_dead rows n (Gives kind ports all) again (in_set again (again_ends limit_given end has), at_end again ends)
        where
          at_end : (a : Answer) → (a ≡ answer.Running → ⊥) → MemoOf kind ports all (status_of a) Nothing
          at_end answer.Running ends = absurd (ends refl)
          at_end answer.Success ends = rests
          at_end answer.Failure ends = rests
          at_end answer.Skipped ends = rests

      again_fits : (left : ℕ) (t : Turns) → IsLimit limit_given t.limit → MayEnd limit_given → Has again (child 0) → TurnFit (turn_again again left t)
      again_fits zero t is end has = end_fits end has
      again_fits (suc left) t is end has =
          let go : Answer → Rule = λ a. turn_after again (one_more t) (turn_again again left (one_more t)) a in
          reset_goes is_dead rows n (Gives kind ports all) span.All (visit 0 go)
          (visit_goes is_dead rows n (Gives kind ports all) 0 go comes (λ a had. after_fits (one_more t) (turn_again again left (one_more t)) a is had (λ has1. again_fits left (one_more t) is end has1)))

      on_fits : (limit : ℤ) (t : Turns) → t.limit ≡ limit → IsLimit limit_given t.limit → Has again (child 0) → TurnFit (turns_on again (limit_of limit) t)
      on_fits (pos k) t same is has = again_fits (k - (t.done + 1)) t is (subst (λ (l : ℤ). IsLimit limit_given l) same is) has
      on_fits (negsuc k) t same is has =
          reset_goes is_dead rows n (Gives kind ports all) span.All (keep answer.Running (Turned t))
          (keep_goes is_dead rows n (Gives kind ports all) answer.Running (Turned t) (in_set answer.Running (again_runs limit_given (subst (λ (l : ℤ). IsLimit limit_given l) same is) has), begins t is))

      pub turns_fit : (t : Turns) → IsLimit limit_given t.limit → TurnFit (turns again t)
      turns_fit t is =
          visit_goes is_dead rows n (Gives kind ports all) 0 (λ a. turn_after again t (turns_on again (limit_of t.limit) t) a) comes
          (λ a has. after_fits t (turns_on again (limit_of t.limit) t) a is has (λ had. on_fits t.limit t refl is had))
