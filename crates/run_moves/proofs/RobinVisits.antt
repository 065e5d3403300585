-- A RoundRobin over one visit.
use Rattle.std.proofs.Common.{◌≡◌, ℕ, zero, suc, ◌+◌, ◌-◌, Bool, true, false, cond, nat_eq, List, [], ◌∷◌, length, refl, sym, ap, subst, ◌∙◌, arith, ⊎_elim}
use Rattle.std.proofs.lemmas.Bool.{both_ways, cases_lt}
use Rattle.std.proofs.lemmas.List.Sums.{sum_by-cons}
use Rattle.spec_run.specs.declared.memory.Memo.TheVariants.{Rotation as Rotating}
use Rattle.spec_run.specs.declared.memory.Rotation.{Rotation}
use Rattle.spec_run.specs.declared.status.Answer.{Answer}
use Rattle.spec_run.specs.declared.status.Answer.TheVariants.{Failure, Running, Skipped, Success}
use Rattle.spec_tree.specs.declared.term.Kind.TheVariants.{RoundRobin}
use Rattle.spec_run.specs.Rules.Answers.{same_answer}
use Rattle.spec_run.specs.Rules.Kinds.{rule}
use Rattle.spec_run.specs.Rules.RoundRobins.{next_of, passed_by, robin_after, robin_on, skipped_by}
use Rattle.spec_run.specs.Steps.{Rule, keep, over}
use Rattle.run_moves.specs.Navigation.{answers_round, keeps_rotation, last_round, robin_answer, round_after_resets, skipped_among}
use Rattle.run_moves.specs.Rows.{fallback_stops, some_is}
use Rattle.run_moves.specs.Visits.{Hears, IsVisit}
use Rattle.run_moves.proofs.Visits.{by_answer, rest_of_visit}

-- ---- The row of one more answer

-- one child's part in the count of those that were skipped
skipped_first : (k : ℕ) (a : Answer) (more : List Answer) → k + skipped_by a + skipped_among more ≡ k + skipped_among (a ∷ more)
skipped_first k Running more = omega (arith, sum_by-cons (λ x. cond (same_answer x Skipped) 1 0) Running more)
skipped_first k Success more = omega (arith, sum_by-cons (λ x. cond (same_answer x Skipped) 1 0) Success more)
skipped_first k Failure more = omega (arith, sum_by-cons (λ x. cond (same_answer x Skipped) 1 0) Failure more)
skipped_first k Skipped more = omega (arith, sum_by-cons (λ x. cond (same_answer x Skipped) 1 0) Skipped more)

-- after FAILURE and SKIPPED the others go on
record Passes (a : Answer) : Type 0 where
  onward : (n : ℕ) (r : Rotation) (others : Rule) → robin_after n r others a ≡ others
  stops : (l : List Answer) → fallback_stops (a ∷ l) ≡ fallback_stops l
  answer : (n k : ℕ) (l : List Answer) → robin_answer n (k + skipped_by a) l ≡ robin_answer n k (a ∷ l)

-- the answer by how many were skipped
abbrev by_skipped : ℕ → List Answer → ℕ → Answer
by_skipped n l k = cond (some_is Success l) Success (cond (some_is Running l) Running (cond (nat_eq k n) Skipped Failure))

failure_passes : Passes Failure
failure_passes = record {
  onward = λ n r others. refl;
  stops = λ l. refl;
  answer = λ n k l. ap (by_skipped n l) (skipped_first k Failure l);
}

skipped_passes : Passes Skipped
skipped_passes = record {
  onward = λ n r others. refl;
  stops = λ l. refl;
  answer = λ n k l. ap (by_skipped n l) (skipped_first k Skipped l);
}

-- two rotations that are the same
same_rotation : (at passed passed1 skipped skipped1 : ℕ) → passed ≡ passed1 → skipped ≡ skipped1 →
    ◌≡◌ {A = Rotation} (record { at = at; passed = passed; skipped = skipped }) (record { at = at; passed = passed1; skipped = skipped1 })
same_rotation at passed passed1 skipped skipped1 e1 e2 =
    ap (λ (k : ℕ). record { at = at; passed = k; skipped = skipped }) e1 ∙ ap (λ (k : ℕ). record { at = at; passed = passed1; skipped = k }) e2

module _ (n : ℕ) where
  abbrev given : Rotation → List Answer → Rule
  given r answers = keeps_rotation n r answers (robin_answer n r.skipped answers)

  -- what is kept of an answer does not ask whether the children before were counted one by one
  kept_alike : (a b x : Answer) (more : List Answer) (r : Rotation) → keeps_rotation n (passed_by n a r) (b ∷ more) x ≡ keeps_rotation n r (a ∷ b ∷ more) x
  kept_alike a b Running more r = ap (λ (k : Rotation). keep Running (Rotating k))
      (same_rotation (last_round n r.at (a ∷ b ∷ more)) (r.passed + 1 + length (b ∷ more) - 1) (r.passed + length (a ∷ b ∷ more) - 1)
      (r.skipped + skipped_by a + skipped_among (b ∷ more)) (r.skipped + skipped_among (a ∷ b ∷ more)) (omega arith) (skipped_first r.skipped a (b ∷ more)))
  kept_alike a b Success more r = refl
  kept_alike a b Failure more r = refl
  kept_alike a b Skipped more r = refl

  next_row : (a b : Answer) (more : List Answer) (r : Rotation) → Passes a → given (passed_by n a r) (b ∷ more) ≡ given r (a ∷ b ∷ more)
  next_row a b more r passes =
      kept_alike a b (robin_answer n (r.skipped + skipped_by a) (b ∷ more)) more r ∙ ap (keeps_rotation n r (a ∷ b ∷ more)) (passes.answer n r.skipped (b ∷ more))

  -- RUNNING keeps the rotation
  running_row : (r : Rotation) → keep Running (Rotating r) ≡ given r (Running ∷ [])
  running_row r = ap (λ (k : Rotation). keep Running (Rotating k))
      (same_rotation r.at r.passed (r.passed + length (Running ∷ []) - 1) r.skipped (r.skipped + skipped_among (Running ∷ [])) (omega arith)
      (omega (arith, sum_by-cons (λ x. cond (same_answer x Skipped) 1 0) Running [])))

  -- the end of a round
  end_kept : (r : Rotation) (answers : List Answer) (all : Bool) → over (cond all Skipped Failure) ≡ keeps_rotation n r answers (cond all Skipped Failure)
  end_kept r answers true = refl
  end_kept r answers false = refl

  -- ---- The visit

  none_left : (left : ℕ) (a : Answer) → Passes a → IsVisit fallback_stops (suc left) (a ∷ []) → left ≡ 0
  none_left left a passes visited = ⊎_elim
      (λ more. absurd (both_ways (fallback_stops (a ∷ [])) (passes.stops []) (visited.ends (omega (arith, more)))))
      (λ none. omega (arith, none))
      (cases_lt 0 left)

  -- the last child of a round
  passed_alone : (a : Answer) (left : ℕ) (r : Rotation) → Passes a → IsVisit fallback_stops (suc left) (a ∷ []) → robin_after n r (robin_on n left r a) a ≡ given r (a ∷ [])
  passed_alone a left r passes visited =
      let skipped : ℕ = r.skipped + skipped_by a in
      let no_others : skipped ≡ skipped + skipped_among [] = omega arith in
      passes.onward n r (robin_on n left r a)
      ∙ ap (λ (k : ℕ). robin_on n k r a) (none_left left a passes visited)
      ∙ ap (λ (k : ℕ). over (cond (nat_eq k n) Skipped Failure)) no_others
      ∙ end_kept r (a ∷ []) (nat_eq (skipped + skipped_among []) n)
      ∙ ap (keeps_rotation n r (a ∷ [])) (passes.answer n r.skipped [])

  -- another one follows
  passed_on : (a b : Answer) (more : List Answer) (left : ℕ) (r : Rotation) → Passes a →
      Hears RoundRobin (robin_after n (passed_by n a r) (robin_on n left (passed_by n a r) b) b) (round_after_resets n (next_of n r.at) more) (given (passed_by n a r) (b ∷ more)) →
      Hears RoundRobin (robin_after n r (robin_on n (suc left) r a) a) (round_after_resets n r.at (b ∷ more)) (given r (a ∷ b ∷ more))
  passed_on a b more left r passes others =
      let r1 : Rotation = passed_by n a r in
      let go : Answer → Rule = λ x. robin_after n r1 (robin_on n left r1 x) x in
      subst (λ rule. Hears RoundRobin rule (round_after_resets n r.at (b ∷ more)) (given r (a ∷ b ∷ more))) (sym (passes.onward n r (robin_on n (suc left) r a)))
      (by_answer go, refl, subst (λ rule. Hears RoundRobin (go b) (round_after_resets n (next_of n r.at) more) rule) (next_row a b more r passes) others)

  following : (more : List Answer) (a : Answer) (left : ℕ) (r : Rotation) → IsVisit fallback_stops (suc left) (a ∷ more) →
      Hears RoundRobin (robin_after n r (robin_on n left r a) a) (round_after_resets n r.at more) (given r (a ∷ more))
  following [] Running left r visited = running_row r
  following [] Success left r visited = refl
  following [] Failure left r visited = passed_alone Failure left r failure_passes visited
  following [] Skipped left r visited = passed_alone Skipped left r skipped_passes visited
  following (b ∷ more) Running left r visited = absurd (both_ways (fallback_stops (Running ∷ [])) (visited.goes_on 1 (omega arith) (omega arith)) refl)
  following (b ∷ more) Success left r visited = absurd (both_ways (fallback_stops (Success ∷ [])) (visited.goes_on 1 (omega arith) (omega arith)) refl)
  following (b ∷ more) a zero r visited = absurd (omega (arith, visited.within))
  following (b ∷ more) Failure (suc left) r visited =
      passed_on Failure b more left r failure_passes
      (following more b left (passed_by n Failure r) (rest_of_visit fallback_stops fallback_stops (suc left) Failure b more failure_passes.stops visited))
  following (b ∷ more) Skipped (suc left) r visited =
      passed_on Skipped b more left r skipped_passes
      (following more b left (passed_by n Skipped r) (rest_of_visit fallback_stops fallback_stops (suc left) Skipped b more skipped_passes.stops visited))

  pub robin_hears : (now picked : ℕ) (r : Rotation) (answers : List Answer) → IsVisit fallback_stops (n - r.passed) answers →
      Hears RoundRobin (rule RoundRobin n (Rotating r) picked now) (answers_round n r.at answers) (keeps_rotation n r answers (robin_answer n r.skipped answers))
  robin_hears now picked r [] visited = absurd (omega (arith, visited.some))
  robin_hears now picked r (a ∷ more) visited =
      let left : ℕ = n - (r.passed + 1) in
      let here : n - r.passed ≡ suc left = omega (arith, visited.within) in
      (by_answer (λ x. robin_after n r (robin_on n left r x) x), refl, following more a left r (subst (λ (k : ℕ). IsVisit fallback_stops k (a ∷ more)) here visited))
