-- A Retry or Repeat over one visit.
use Rattle.std.proofs.Common.{◌≡◌, ◌≢◌, ℕ, zero, suc, ◌+◌, ◌-◌, ◌<◌, Bool, true, false, not, ◌||◌, cond, List, [], ◌∷◌, Option, Some, None, refl, sym, ap, subst, ◌∙◌, arith, ⊎_elim}
use Rattle.std.proofs.lemmas.Bool.{both_ways, cases_lt, cond_both}
use Rattle.std.proofs.lemmas.List.Sums.{sum_by-cons}
use Rattle.std.specs.List.{count_by}
use Rattle.spec_run.specs.declared.memory.Memo.TheVariants.{Turns as Turned}
use Rattle.spec_run.specs.declared.memory.Turns.{Turns}
use Rattle.spec_run.specs.declared.moves.Heard.{Heard}
use Rattle.spec_run.specs.declared.moves.Span.TheVariants as span
use Rattle.spec_run.specs.declared.status.Answer.{Answer}
use Rattle.spec_run.specs.declared.status.Answer.TheVariants.{Failure, Running, Skipped, Success}
use Rattle.spec_tree.specs.declared.term.Kind.{Kind}
use Rattle.spec_tree.specs.declared.term.Kind.TheVariants.{Repeat, Retry}
use Rattle.base_tables.specs.Moves.{hears, hears_answer}
use Rattle.spec_run.specs.Rules.Answers.{pass_on, same_answer}
use Rattle.spec_run.specs.Rules.Kinds.{rule}
use Rattle.spec_run.specs.Rules.Turns.{limit_of, one_more, turn_after, turn_again, turns, turns_on}
use Rattle.spec_run.specs.Steps.{Rule, keep, over, reset, visit}
use Rattle.run_moves.specs.Visits.{Hears, IsVisit}
use Rattle.run_moves.proofs.Visits.{by_answer, rest_of_visit}
use Rattle.run_moves.specs.Decorators.Again.{answers_after_resets, answers_of_child, is_other, keeps_turns, last_answer}

-- ---- The row of one more answer

abbrev turns_among : Answer → List Answer → ℕ
turns_among again answers = count_by (λ (a : Answer). same_answer a again) answers

-- another answer is passed on, and adds nothing to the count
none_more : (again : Answer) (t : Turns) (a : Answer) → same_answer a again ≡ false → t.done ≡ t.done + turns_among again (a ∷ [])
none_more again t a other =
    let added : ◌≡◌ {A = ℕ} (cond (same_answer a again) 1 0) 0 = ap (λ (b : Bool). cond b 1 0) other in
    omega (arith, added, sum_by-cons (λ x. cond (same_answer x again) 1 0) a [])

pub other_is_kept : (again : Answer) (t : Turns) (a : Answer) → same_answer a again ≡ false → pass_on (Turned t) a ≡ keeps_turns again t (a ∷ []) a
other_is_kept again t Running other = ap (λ (k : ℕ). keep Running (Turned (record t { done = k }))) (none_more again t Running other)
other_is_kept again t Success other = refl
other_is_kept again t Failure other = refl
other_is_kept again t Skipped other = refl

-- an answer after which the child is visited again adds one
one_turn : (again : Answer) (t : Turns) (a : Answer) (more : List Answer) → same_answer a again ≡ true → t.done + 1 + turns_among again more ≡ t.done + turns_among again (a ∷ more)
one_turn again t a more same =
    let added : ◌≡◌ {A = ℕ} (cond (same_answer a again) 1 0) 1 = ap (λ (b : Bool). cond b 1 0) same in
    omega (arith, added, sum_by-cons (λ x. cond (same_answer x again) 1 0) a more)

turn_is_kept : (again : Answer) (t : Turns) (a : Answer) (more : List Answer) (x : Answer) → same_answer a again ≡ true →
    keeps_turns again (one_more t) more x ≡ keeps_turns again t (a ∷ more) x
turn_is_kept again t a more Running is =
    ap (λ (k : ℕ). keep Running (Turned (record t { done = k }))) (one_turn again t a more is)
turn_is_kept again t a more Success is = refl
turn_is_kept again t a more Failure is = refl
turn_is_kept again t a more Skipped is = refl

-- ---- The visit

-- a Retry or Repeat: the answer after which the child is visited again is not RUNNING
pub record IsAgain (again : Answer) : Type 0 where
  same : (a : Answer) → same_answer a again ≡ true → a ≡ again
  given : (t : Turns) (answers : List Answer) → over again ≡ keeps_turns again t answers again

pub failure_again : IsAgain Failure
failure_again = record { same = same; given = λ t answers. refl }
  where
    same : (a : Answer) → same_answer a Failure ≡ true → a ≡ Failure
    same Failure e = refl
    same Success e = cc
    same Running e = cc
    same Skipped e = cc

pub success_again : IsAgain Success
success_again = record { same = same; given = λ t answers. refl }
  where
    same : (a : Answer) → same_answer a Success ≡ true → a ≡ Success
    same Success e = refl
    same Failure e = cc
    same Running e = cc
    same Skipped e = cc

module _ (kind : Kind) (plain : (place : ℕ) (go : Heard → Rule) → hears kind place go ≡ hears_answer place go) (again : Answer) (is : IsAgain again) where
  passed : (a : Answer) → same_answer a again ≡ true → (l : List Answer) → is_other again (a ∷ l) ≡ is_other again l
  passed a same l = ap (λ (b : Bool). not b || is_other again l) same

  stopped : (a : Answer) → same_answer a again ≡ false → is_other again (a ∷ []) ≡ true
  stopped a other = ap (λ (b : Bool). not b || false) other

  -- after the last answer of a visit that goes on, no turn is left
  no_turn : (left : ℕ) (a : Answer) → IsVisit (λ l. is_other again l) (suc left) (a ∷ []) → same_answer a again ≡ true → left ≡ 0
  no_turn left a visit same = ⊎_elim
      (λ more. absurd (both_ways (is_other again (a ∷ [])) (passed a same []) (visit.ends (omega (arith, more)))))
      (λ none. omega (arith, none))
      (cases_lt 0 left)

  -- the last turn is given
  is_given : (t : Turns) (a : Answer) → same_answer a again ≡ true → over again ≡ keeps_turns again t (a ∷ []) a
  is_given t a same = is.given t (a ∷ []) ∙ ap (λ (x : Answer). keeps_turns again t (a ∷ []) x) (sym (is.same a same))

  following : (more : List Answer) (a : Answer) (left : ℕ) (t : Turns) → IsVisit (λ l. is_other again l) (suc left) (a ∷ more) →
      Hears kind (turn_after again t (turn_again again left t) a) (answers_after_resets more) (keeps_turns again t (a ∷ more) (last_answer (a ∷ more)))
  following [] a left t visited =
      cond_both (same_answer a again) (turn_again again left t) (pass_on (Turned t) a) (λ rule. rule ≡ keeps_turns again t (a ∷ []) a)
      (λ same. ap (λ (k : ℕ). turn_again again k t) (no_turn left a visited same) ∙ is_given t a same)
      (λ other. other_is_kept again t a other)
  following (b ∷ more) a zero t visited = absurd (omega (arith, visited.within))
  following (b ∷ more) a (suc left) t visited =
      let go : Answer → Rule = λ x. turn_after again (one_more t) (turn_again again left (one_more t)) x in
      let given : Rule = keeps_turns again t (a ∷ b ∷ more) (last_answer (a ∷ b ∷ more)) in
      cond_both (same_answer a again) (turn_again again (suc left) t) (pass_on (Turned t) a) (λ rule. Hears kind rule (answers_after_resets (b ∷ more)) given)
      (λ same. (
        by_answer go,
        ap (λ (rule : Rule). reset span.All rule) (sym (plain 0 (by_answer go))),
        subst (λ rule. Hears kind (go b) (answers_after_resets more) rule) (turn_is_kept again t a (b ∷ more) (last_answer (b ∷ more)) same)
            (following more b left (one_more t) (rest_of_visit (λ l. is_other again l) (λ l. is_other again l) (suc left) a b more (passed a same) visited)),
      ))
      (λ other. absurd (both_ways (is_other again (a ∷ [])) (visited.goes_on 1 (omega arith) (omega arith)) (stopped a other)))

  pub turns_hear : (answers : List Answer) (limit : ℕ) (t : Turns) → limit_of t.limit ≡ Some limit → t.done < limit → IsVisit (λ l. is_other again l) (limit - t.done) answers →
      Hears kind (turns again t) (answers_of_child answers) (keeps_turns again t answers (last_answer answers))
  turns_hear [] limit t limited left visited = absurd (omega (arith, visited.some))
  turns_hear (a ∷ more) limit t limited left visited =
      let go : Answer → Rule = λ x. turn_after again t (turns_on again (limit_of t.limit) t) x in
      let given : Rule = keeps_turns again t (a ∷ more) (last_answer (a ∷ more)) in
      let turns_left : limit - t.done ≡ suc (limit - (t.done + 1)) = omega (arith, left) in (
        by_answer go,
        sym (plain 0 (by_answer go)),
        subst (λ (o : Option ℕ). Hears kind (turn_after again t (turns_on again o t) a) (answers_after_resets more) given) (sym limited)
            (following more a (limit - (t.done + 1)) t (subst (λ (k : ℕ). IsVisit (λ l. is_other again l) k (a ∷ more)) turns_left visited)),
      )

  -- without a number
  pub one_visit : (t : Turns) (a : Answer) (given : Rule) → limit_of t.limit ≡ None → turn_after again t (reset span.All (keep Running (Turned t))) a ≡ given →
      Hears kind (turns again t) (answers_of_child (a ∷ [])) given
  one_visit t a given unlimited is_so =
      let go : Answer → Rule = λ x. turn_after again t (turns_on again (limit_of t.limit) t) x in
      (by_answer go, sym (plain 0 (by_answer go)), ap (λ (o : Option ℕ). turn_after again t (turns_on again o t) a) unlimited ∙ is_so)

-- ---- Retry and Repeat

pub retry_hears : (now picked limit : ℕ) (t : Turns) (answers : List Answer) → limit_of t.limit ≡ Some limit → t.done < limit → IsVisit (λ l. is_other Failure l) (limit - t.done) answers →
    Hears Retry (rule Retry 1 (Turned t) picked now) (answers_of_child answers) (keeps_turns Failure t answers (last_answer answers))
retry_hears now picked limit t answers limited left visited = turns_hear Retry (λ _ _. refl) Failure failure_again answers limit t limited left visited

pub repeat_hears : (now picked limit : ℕ) (t : Turns) (answers : List Answer) → limit_of t.limit ≡ Some limit → t.done < limit → IsVisit (λ l. is_other Success l) (limit - t.done) answers →
    Hears Repeat (rule Repeat 1 (Turned t) picked now) (answers_of_child answers) (keeps_turns Success t answers (last_answer answers))
repeat_hears now picked limit t answers limited left visited = turns_hear Repeat (λ _ _. refl) Success success_again answers limit t limited left visited

-- any other answer is theirs
pub retry_other : (t : Turns) (a : Answer) → a ≢ Failure → turn_after Failure t (reset span.All (keep Running (Turned t))) a ≡ keeps_turns Failure t (a ∷ []) a
retry_other t Failure other = absurd (other refl)
retry_other t Success other = refl
retry_other t Running other = other_is_kept Failure t Running refl
retry_other t Skipped other = refl

pub repeat_other : (t : Turns) (a : Answer) → a ≢ Success → turn_after Success t (reset span.All (keep Running (Turned t))) a ≡ keeps_turns Success t (a ∷ []) a
repeat_other t Success other = absurd (other refl)
repeat_other t Failure other = refl
repeat_other t Running other = other_is_kept Success t Running refl
repeat_other t Skipped other = refl
