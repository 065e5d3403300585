-- RoundRobin.
use Rattle.std.proofs.Common.{◌≡◌, ℕ, zero, suc, ◌+◌, ◌-◌, ◌<◌, ◌≤◌, List, [], ◌∷◌, length, Bool, true, false, ◌&&◌, ◌||◌, nat_eq, nat_lt, refl, subst, ◌∙◌, arith, ⊎_elim}
use Rattle.std.proofs.lemmas.Bool.{and_from, cases_lt, cond_both, eq-eqb, eqb-true, ltb-false, or_left, or_right}
use Rattle.spec_run.specs.declared.memory.Memo.TheVariants.{Rotation as Rotating}
use Rattle.spec_run.specs.declared.memory.Rotation.{Rotation}
use Rattle.spec_run.specs.declared.moves.Span.TheVariants as span
use Rattle.spec_run.specs.declared.status.Answer.{Answer}
use Rattle.spec_run.specs.declared.status.Answer.TheVariants as answer
use Rattle.spec_tree.specs.declared.term.Kind.TheVariants.{RoundRobin}
use Rattle.spec_tree.specs.declared.term.Port.{Port}
use Rattle.spec_world.specs.declared.world.Row.{Row}
use Rattle.spec_run.specs.Rules.RoundRobins.{next_of, passed_by, robin_after, robin_end, robin_on, rotation_at, round_robin}
use Rattle.spec_run.specs.Rules.Sequences.{passes}
use Rattle.spec_run.specs.Steps.{Rule, keep, over, visit}
use Rattle.run_laws.proofs.RoundRobins.{next_there}
use Rattle.spec_dead.specs.declared.answers.Answers.{Answers}
use Rattle.spec_dead.specs.Answers.{either, only, only_if, without}
use Rattle.spec_dead.specs.Reached.{all_before, all_end, all_pass, answers_at, may_end, may_pass}
use Rattle.spec_dead.specs.Rules.{all_skip, reached_answers, robin_answers, some_fails}
use Rattle.tree_dead.proofs.Fits.{CameRound, WentRound}
use Rattle.tree_dead.proofs.Passing.{all_before_next}
use Rattle.tree_dead.proofs.RoundSteps.{passes_may, stopped_in}
use Rattle.tree_dead.proofs.Rounds.{Gives, skips_whole}
use Rattle.tree_dead.proofs.Sets.{Has, either_left, either_right, if_so, not_both}
use Rattle.tree_dead.proofs.Words.{Children, Goes, answers_here, keep_goes, over_goes, reset_goes, visit_goes}

-- ---- Going round

module _ (n : ℕ) (Holds : ℕ → Type 0) (at passed : ℕ) (inside : at < n) (went : WentRound n Holds at passed) where
  -- the child at hand is passed as well, and is not the last one
  onward : Holds at → WentRound n Holds (at + 1) (passed + 1)
  onward here = record {
    before = λ k earlier near. ⊎_elim (λ less. went.before k less (omega (arith, near))) (λ from. subst Holds (let same : at ≡ k = omega (arith, from, earlier) in same) here) (cases_lt k at);
    after = λ k later within near. went.after k (omega (arith, later)) within (omega (arith, near));
  }

  -- .. or it is
  around : n ≤ at + 1 → Holds at → WentRound n Holds 0 (passed + 1)
  around last here = record {
    before = λ k earlier near. absurd (omega (arith, earlier));
    after = λ k later within near.
        ⊎_elim (λ less. went.before k less (omega (arith, near, inside))) (λ from. subst Holds (let same : at ≡ k = omega (arith, from, within, last) in same) here) (cases_lt k at);
  }

  round_more : Holds at → WentRound n Holds (next_of n at) (passed + 1)
  round_more here = cond_both (nat_lt (at + 1) n) (at + 1) 0 (λ next. WentRound n Holds next (passed + 1)) (λ _. onward here) (λ last. around (ltb-false (at + 1) n last) here)

  -- it holds of all children once all were passed
  round_whole : n ≤ passed → (k : ℕ) → k < n → Holds k
  round_whole whole k within = ⊎_elim (λ less. went.before k less (omega (arith, inside, whole))) (λ from. went.after k from within (omega (arith, from, whole))) (cases_lt k at)

all_hold : (holds : Answers → Bool) (children : List Answers) (place : ℕ) → place ≤ length children → ((k : ℕ) → k < length children → holds (answers_at children k) ≡ true) → all_before holds children place ≡ true
all_hold holds children zero few each = refl
all_hold holds children (suc place) few each =
    and_from (all_before holds children place) (holds (answers_at children place)) (all_hold holds children place (omega (arith, few)) each) (each place (omega (arith, few)))

-- ---- Answers

fails_here : (children : List Answers) (place : ℕ) → place < length children → (answers_at children place).failure ≡ true → some_fails children ≡ true
fails_here [] place within fails = absurd (omega (arith, within))
fails_here (c ∷ cs) zero within fails = or_left c.failure (some_fails cs) fails
fails_here (c ∷ cs) (suc place) within fails = or_right c.failure (some_fails cs) (fails_here cs place (omega (arith, within)) fails)

ends_so : (a : Answer) (set : Answers) → (a ≡ answer.Running → ⊥) → Has a set → may_end set ≡ true
ends_so answer.Running set other has = absurd (other refl)
ends_so answer.Success set other has = or_left (set.success || set.failure) set.skipped (or_left set.success set.failure has)
ends_so answer.Failure set other has = or_left (set.success || set.failure) set.skipped (or_right set.success set.failure has)
ends_so answer.Skipped set other has = or_right (set.success || set.failure) set.skipped has

module _ (children : List Answers) where
  abbrev stopping : Answers
  stopping = without answer.Skipped (without answer.Failure (reached_answers (all_end children) 0 children))

  abbrev failing : Answers
  failing = only_if (all_pass answer.Failure children (length children) && some_fails children) (only answer.Failure)

  abbrev skipping : Answers
  skipping = only_if (all_skip children) (only answer.Skipped)

  stop_in : (place : ℕ) (a : Answer) → place < length children → all_end children place ≡ true → passes answer.Failure a ≡ false → Has a (answers_at children place) → Has a (robin_answers children)
  stop_in place a within came stop has = either_left a stopping (either failing skipping) (stopped_in may_end answer.Failure children place a within came stop has)

  fail_in : all_pass answer.Failure children (length children) ≡ true → some_fails children ≡ true → Has answer.Failure (robin_answers children)
  fail_in passed some =
      either_right answer.Failure stopping (either failing skipping)
      (either_left answer.Failure failing skipping
      (if_so answer.Failure (all_pass answer.Failure children (length children) && some_fails children) (only answer.Failure) (and_from (all_pass answer.Failure children (length children)) (some_fails children) passed some) refl))

  skip_in : all_skip children ≡ true → Has answer.Skipped (robin_answers children)
  skip_in skips = either_right answer.Skipped stopping (either failing skipping) (either_right answer.Skipped failing skipping (if_so answer.Skipped (all_skip children) (only answer.Skipped) skips refl))

  -- the child at a place may let a round of a Fallback go on, or may be skipped
  abbrev Passes : ℕ → Type 0
  Passes place = may_pass answer.Failure (answers_at children place) ≡ true

  abbrev Skips : ℕ → Type 0
  Skips place = (answers_at children place).skipped ≡ true

  -- the next child is reached
  next_reached : (place : ℕ) → all_end children place ≡ true → may_end (answers_at children place) ≡ true → all_end children (next_of (length children) place) ≡ true
  next_reached place came ends =
      cond_both (nat_lt (place + 1) (length children)) (place + 1) 0 (λ next. all_end children next ≡ true)
      (λ _. all_before_next may_end children place ∙ and_from (all_end children place) (may_end (answers_at children place)) came ends) (λ _. refl)

  -- the child at hand has failed or was skipped
  came_on : (a : Answer) (r : Rotation) → passes answer.Failure a ≡ true → Has a (answers_at children r.at) → CameRound children r → CameRound children (passed_by (length children) a r)
  came_on answer.Running r on has came = cc
  came_on answer.Success r on has came = cc
  came_on answer.Failure r on has came = record {
    inside = next_there (length children) r.at came.inside;
    reached = next_reached r.at came.reached (ends_so answer.Failure (answers_at children r.at) (λ e. cc) has);
    few = omega (arith, came.few);
    passed = round_more (length children) Passes r.at r.passed came.inside came.passed (passes_may answer.Failure answer.Failure (answers_at children r.at) refl has);
    skipped = λ all. absurd (omega (arith, all, came.few));
    failed = λ some. fails_here children r.at came.inside has;
  }
  came_on answer.Skipped r on has came = record {
    inside = next_there (length children) r.at came.inside;
    reached = next_reached r.at came.reached (ends_so answer.Skipped (answers_at children r.at) (λ e. cc) has);
    few = omega (arith, came.few);
    passed = round_more (length children) Passes r.at r.passed came.inside came.passed (passes_may answer.Failure answer.Skipped (answers_at children r.at) refl has);
    skipped = λ all. round_more (length children) Skips r.at r.passed came.inside (came.skipped (omega (arith, all))) has;
    failed = λ some. came.failed (omega (arith, some));
  }

  -- all children were passed
  all_passed : (r : Rotation) → CameRound children r → r.passed ≡ length children → all_pass answer.Failure children (length children) ≡ true
  all_passed r came whole =
      all_hold (may_pass answer.Failure) children (length children) (omega arith) (round_whole (length children) Passes r.at r.passed came.inside came.passed (omega (arith, whole)))

  all_skipped : (r : Rotation) → CameRound children r → r.passed ≡ length children → r.skipped ≡ length children → all_skip children ≡ true
  all_skipped r came whole skips =
      skips_whole children (all_hold (λ (child : Answers). child.skipped) children (length children) (omega arith)
      (round_whole (length children) Skips r.at r.passed came.inside (came.skipped (omega (arith, whole, skips))) (omega (arith, whole))))

  one_failed : (r : Rotation) → CameRound children r → r.passed ≡ length children → nat_eq r.skipped (length children) ≡ false → some_fails children ≡ true
  one_failed r came whole other =
      ⊎_elim (λ less. came.failed (omega (arith, less, whole)))
      (λ from. absurd (not_both (eq-eqb r.skipped (length children) (omega (arith, from, came.few, whole))) other)) (cases_lt r.skipped (length children))

-- ---- The rule

module _ (is_dead : ℕ → Bool) (rows : List Row) (n : Children is_dead rows) (ports : List Port) (comes : (place : ℕ) → all_end (answers_here is_dead rows n) place ≡ true → n.visits place ≡ true) where
  abbrev all : List Answers
  all = answers_here is_dead rows n

  abbrev Fit : Rule → Type 0
  Fit rule = Goes is_dead rows n (Gives RoundRobin ports all) rule

  end_fits : (r : Rotation) → CameRound all r → r.passed ≡ length all → Fit (robin_end (length all) r)
  end_fits r came whole =
      cond_both (nat_eq r.skipped (length all)) answer.Skipped answer.Failure (λ a. Fit (over a))
      (λ same. over_goes is_dead rows n (Gives RoundRobin ports all) answer.Skipped (skip_in all (all_skipped all r came whole (eqb-true r.skipped (length all) same)), tt))
      (λ other. over_goes is_dead rows n (Gives RoundRobin ports all) answer.Failure (fail_in all (all_passed all r came whole) (one_failed all r came whole other), tt))

  -- after an answer of the child at hand, with what is done where it has failed or was skipped
  after_fits : (r : Rotation) (others : Rule) (a : Answer) → CameRound all r → r.passed < length all → Has a (answers_at all r.at) → (passes answer.Failure a ≡ true → Fit others) → Fit (robin_after (length all) r others a)
  after_fits r others answer.Running came left has goes = keep_goes is_dead rows n (Gives RoundRobin ports all) answer.Running (Rotating r) (stop_in all r.at answer.Running came.inside came.reached refl has, (came, left))
  after_fits r others answer.Success came left has goes =
      let next : ℕ = next_of (length all) r.at in
      reset_goes is_dead rows n (Gives RoundRobin ports all) span.All (keep answer.Success (Rotating (rotation_at next)))
      (keep_goes is_dead rows n (Gives RoundRobin ports all) answer.Success (Rotating (rotation_at next)) (
        stop_in all r.at answer.Success came.inside came.reached refl has,
        (next_reached all r.at came.reached (ends_so answer.Success (answers_at all r.at) (λ e. cc) has), next_there (length all) r.at came.inside),
      ))
  after_fits r others answer.Failure came left has goes = goes refl
  after_fits r others answer.Skipped came left has goes = goes refl

  -- the child at hand has failed or was skipped, and so many children are left
  on_fits : (left : ℕ) (r : Rotation) (a : Answer) → r.passed + 1 + left ≡ length all → CameRound all r → passes answer.Failure a ≡ true → Has a (answers_at all r.at) → Fit (robin_on (length all) left r a)
  on_fits zero r a sums came on has = end_fits (passed_by (length all) a r) (came_on all a r on has came) (omega (arith, sums))
  on_fits (suc left) r a sums came on has =
      let next : Rotation = passed_by (length all) a r in
      let came1 : CameRound all next = came_on all a r on has came in
      let go : Answer → Rule = λ b. robin_after (length all) next (robin_on (length all) left next b) b in
      reset_goes is_dead rows n (Gives RoundRobin ports all) (span.One r.at) (visit next.at go)
      (visit_goes is_dead rows n (Gives RoundRobin ports all) next.at go (comes next.at came1.reached)
      (λ b has1. after_fits next (robin_on (length all) left next b) b came1 (omega (arith, sums)) has1 (λ on1. on_fits left next b (omega (arith, sums)) came1 on1 has1)))

  pub robin_fits : (r : Rotation) → CameRound all r → r.passed < length all → Fit (round_robin (length all) r)
  robin_fits r came some =
      let left : ℕ = length all - (r.passed + 1) in
      visit_goes is_dead rows n (Gives RoundRobin ports all) r.at (λ a. robin_after (length all) r (robin_on (length all) left r a) a) (comes r.at came.reached)
      (λ a has. after_fits r (robin_on (length all) left r a) a came some has (λ on. on_fits left r a (omega (arith, some)) came on has))
