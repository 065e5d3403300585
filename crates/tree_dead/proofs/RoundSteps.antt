-- The rule of each kind gives an answer that it may give, and visits no child that is not reached.
use Rattle.std.proofs.Common.{◌≡◌, ℕ, zero, suc, ◌+◌, ◌<◌, List, [], ◌∷◌, length, Bool, true, false, ◌&&◌, ◌||◌, refl, sym, ap, subst, ◌∙◌, arith}
use Rattle.std.proofs.lemmas.Bool.{and_from, cond_both, or_left, or_right}
use Rattle.spec_run.specs.declared.status.Answer.{Answer}
use Rattle.spec_run.specs.declared.status.Answer.TheVariants as answer
use Rattle.spec_run.specs.declared.status.RoundEnd.{RoundEnd}
use Rattle.spec_run.specs.declared.status.RoundEnd.TheVariants.{AtChild, AfterLast}
use Rattle.spec_world.specs.declared.world.Row.{Row}
use Rattle.spec_run.specs.Rules.Answers.{is_seen}
use Rattle.spec_run.specs.Rules.Sequences.{passes, round, round_after}
use Rattle.spec_run.specs.Steps.{Given, Rule}
use Rattle.spec_dead.specs.declared.answers.Answers.{Answers}
use Rattle.spec_dead.specs.Answers.{either, may, only, only_if, without}
use Rattle.spec_dead.specs.Reached.{all_before, all_pass, answers_at, may_pass}
use Rattle.spec_dead.specs.Rules.{reached_answers, round_answers, some_seen}
use Rattle.tree_dead.proofs.Fits.{CameTo}
use Rattle.tree_dead.proofs.Passing.{all_before_next}
use Rattle.tree_dead.proofs.Sets.{Has, either_left, either_right, if_so, only_has}
use Rattle.tree_dead.proofs.Words.{Children, Goes, answers_here, visit_goes}

-- ---- What children may answer

-- what a child that is reached may answer is among what those may that are reached
pub reached_has : (reached : ℕ → Bool) (first : ℕ) (children : List Answers) (place : ℕ) (a : Answer) → reached (first + place) ≡ true → place < length children → Has a (answers_at children place) → Has a (reached_answers reached first children)
reached_has reached first [] place a comes within has = absurd (omega (arith, within))
reached_has reached first (c ∷ cs) zero a comes within has =
    let here : first + 0 ≡ first = omega arith in
    either_left a (only_if (reached first) c) (reached_answers reached (first + 1) cs) (if_so a (reached first) c (ap reached (sym here) ∙ comes) has)
reached_has reached first (c ∷ cs) (suc place) a comes within has =
    let here : first + 1 + place ≡ first + suc place = omega arith in
    either_right a (only_if (reached first) c) (reached_answers reached (first + 1) cs) (reached_has reached (first + 1) cs place a (ap reached here ∙ comes) (omega (arith, within)) has)

-- a child that may be seen
pub seen_here : (goes : Answer) (children : List Answers) (place : ℕ) → place < length children → may goes (answers_at children place) || (answers_at children place).running ≡ true → some_seen goes children ≡ true
seen_here goes [] place within is = absurd (omega (arith, within))
seen_here goes (c ∷ cs) zero within is = or_left (may goes c || c.running) (some_seen goes cs) is
seen_here goes (c ∷ cs) (suc place) within is = or_right (may goes c || c.running) (some_seen goes cs) (seen_here goes cs place (omega (arith, within)) is)

-- an answer of a child that ends its round
stops_without : (goes a : Answer) (set : Answers) → passes goes a ≡ false → Has a set → Has a (without answer.Skipped (without goes set))
stops_without answer.Running answer.Running set stop has = cc
stops_without answer.Running answer.Success set stop has = has
stops_without answer.Running answer.Failure set stop has = has
stops_without answer.Running answer.Skipped set stop has = cc
stops_without answer.Success answer.Running set stop has = has
stops_without answer.Success answer.Success set stop has = cc
stops_without answer.Success answer.Failure set stop has = has
stops_without answer.Success answer.Skipped set stop has = cc
stops_without answer.Failure answer.Running set stop has = has
stops_without answer.Failure answer.Success set stop has = has
stops_without answer.Failure answer.Failure set stop has = cc
stops_without answer.Failure answer.Skipped set stop has = cc
stops_without answer.Skipped answer.Running set stop has = has
stops_without answer.Skipped answer.Success set stop has = has
stops_without answer.Skipped answer.Failure set stop has = has
stops_without answer.Skipped answer.Skipped set stop has = cc

-- an answer of a child that is reached and ends the round
pub stopped_in : (holds : Answers → Bool) (goes : Answer) (children : List Answers) (place : ℕ) (a : Answer) → place < length children → all_before holds children place ≡ true → passes goes a ≡ false → Has a (answers_at children place) →
    Has a (without answer.Skipped (without goes (reached_answers (all_before holds children) 0 children)))
stopped_in holds goes children place a within came stop has =
    let here : 0 + place ≡ place = omega arith in
    stops_without goes a (reached_answers (all_before holds children) 0 children) stop (reached_has (all_before holds children) 0 children place a (ap (all_before holds children) here ∙ came) within has)

-- an answer that lets a round go on is one that may
pub passes_may : (goes a : Answer) (set : Answers) → passes goes a ≡ true → Has a set → may_pass goes set ≡ true
passes_may goes a set on has = by goes a on has
  where
    by : (goes a : Answer) → passes goes a ≡ true → Has a set → may_pass goes set ≡ true
    by goes answer.Skipped on has = or_right (may goes set) set.skipped has
    by answer.Running answer.Running on has = or_left set.running set.skipped has
    by answer.Success answer.Success on has = or_left set.success set.skipped has
    by answer.Failure answer.Failure on has = or_left set.failure set.skipped has
    by answer.Running answer.Success on has = cc
    by answer.Running answer.Failure on has = cc
    by answer.Success answer.Running on has = cc
    by answer.Success answer.Failure on has = cc
    by answer.Failure answer.Running on has = cc
    by answer.Failure answer.Success on has = cc
    by answer.Skipped answer.Running on has = cc
    by answer.Skipped answer.Success on has = cc
    by answer.Skipped answer.Failure on has = cc

-- an answer that a round goes on after, and that is not SKIPPED, is the one that it goes on after
goes_seen : (goes a : Answer) (set : Answers) → passes goes a ≡ true → is_seen a ≡ true → Has a set → Has goes set
goes_seen goes answer.Skipped set on seen has = cc
goes_seen answer.Running answer.Running set on seen has = has
goes_seen answer.Success answer.Success set on seen has = has
goes_seen answer.Failure answer.Failure set on seen has = has
goes_seen answer.Running answer.Success set on seen has = cc
goes_seen answer.Running answer.Failure set on seen has = cc
goes_seen answer.Success answer.Running set on seen has = cc
goes_seen answer.Success answer.Failure set on seen has = cc
goes_seen answer.Failure answer.Running set on seen has = cc
goes_seen answer.Failure answer.Success set on seen has = cc
goes_seen answer.Skipped answer.Running set on seen has = cc
goes_seen answer.Skipped answer.Success set on seen has = cc
goes_seen answer.Skipped answer.Failure set on seen has = cc

unseen_skips : (a : Answer) (set : Answers) → is_seen a ≡ false → Has a set → set.skipped ≡ true
unseen_skips answer.Skipped set none has = has
unseen_skips answer.Running set none has = cc
unseen_skips answer.Success set none has = cc
unseen_skips answer.Failure set none has = cc

-- ---- Rounds

module _ (goes : Answer) (children : List Answers) where
  -- what a round may answer
  module _ (skips : Bool) where
    abbrev set : Answers
    set = round_answers goes skips children

    abbrev stopping : Answers
    stopping = without answer.Skipped (without goes (reached_answers (all_pass goes children) 0 children))

    abbrev ending : Answers
    ending = only_if (all_pass goes children (length children) && some_seen goes children) (only goes)

    pub stop_in : (place : ℕ) (a : Answer) → place < length children → all_pass goes children place ≡ true → passes goes a ≡ false → Has a (answers_at children place) → Has a set
    stop_in place a within passed stop has =
        either_left a stopping (either ending (only_if skips (only answer.Skipped))) (stopped_in (may_pass goes) goes children place a within passed stop has)

    pub end_in : all_pass goes children (length children) ≡ true → some_seen goes children ≡ true → Has goes set
    end_in passed saw =
        either_right goes stopping (either ending (only_if skips (only answer.Skipped)))
        (either_left goes ending (only_if skips (only answer.Skipped))
        (if_so goes (all_pass goes children (length children) && some_seen goes children) (only goes) (and_from (all_pass goes children (length children)) (some_seen goes children) passed saw) (only_has goes)))

    pub skip_in : skips ≡ true → Has answer.Skipped set
    skip_in skipped =
        either_right answer.Skipped stopping (either ending (only_if skips (only answer.Skipped)))
        (either_right answer.Skipped ending (only_if skips (only answer.Skipped)) (if_so answer.Skipped skips (only answer.Skipped) skipped refl))

  -- a round at a RUNNING child
  pub runs_here : (skips : ℕ → Type 0) (place : ℕ) (seen : Bool) → place < length children → CameTo goes skips children place seen → Has answer.Running (answers_at children place) → CameTo goes skips children place true
  runs_here skips place seen within came has = record {
    inside = came.inside;
    passed = came.passed;
    saw = λ _. seen_here goes children place within (or_right (may goes (answers_at children place)) (answers_at children place).running has);
    skipped = λ e. cc;
  }

  module _ (skips : ℕ → Type 0) (step : (place : ℕ) → place < length children → skips place → (answers_at children place).skipped ≡ true → skips (place + 1)) where
    saw_next : (place : ℕ) (seen : Bool) (a : Answer) → place < length children → CameTo goes skips children place seen → passes goes a ≡ true → Has a (answers_at children place) → seen || is_seen a ≡ true → some_seen goes children ≡ true
    saw_next place true a within came on has e = came.saw refl
    saw_next place false a within came on has e =
        seen_here goes children place within (or_left (may goes (answers_at children place)) (answers_at children place).running (goes_seen goes a (answers_at children place) on e has))

    skipped_next : (place : ℕ) (seen : Bool) (a : Answer) → place < length children → CameTo goes skips children place seen → Has a (answers_at children place) → seen || is_seen a ≡ false → skips (place + 1)
    skipped_next place true a within came has e = cc
    skipped_next place false a within came has e = step place within (came.skipped refl) (unseen_skips a (answers_at children place) e has)

    -- a round goes on
    pub came_on : (place : ℕ) (seen : Bool) (a : Answer) → place < length children → CameTo goes skips children place seen → passes goes a ≡ true → Has a (answers_at children place) → CameTo goes skips children (place + 1) (seen || is_seen a)
    came_on place seen a within came on has = record {
      inside = omega (arith, within);
      passed = all_before_next (may_pass goes) children place ∙ and_from (all_pass goes children place) (may_pass goes (answers_at children place)) came.passed (passes_may goes a (answers_at children place) on has);
      saw = saw_next place seen a within came on has;
      skipped = skipped_next place seen a within came has;
    }

module _ (is_dead : ℕ → Bool) (rows : List Row) (n : Children is_dead rows) (fits : Given → Type 0) (goes : Answer) (skips : ℕ → Type 0) (ends : RoundEnd → Rule)
    (step : (place : ℕ) → place < length (answers_here is_dead rows n) → skips place → (answers_at (answers_here is_dead rows n) place).skipped ≡ true → skips (place + 1))
    (comes : (place : ℕ) → all_pass goes (answers_here is_dead rows n) place ≡ true → n.visits place ≡ true)
    (stops : (place : ℕ) (seen : Bool) (a : Answer) → place < length (answers_here is_dead rows n) → CameTo goes skips (answers_here is_dead rows n) place seen → passes goes a ≡ false →
    Has a (answers_at (answers_here is_dead rows n) place) → Goes is_dead rows n fits (ends (AtChild place a)))
    (ending : (seen : Bool) → CameTo goes skips (answers_here is_dead rows n) (length (answers_here is_dead rows n)) seen → Goes is_dead rows n fits (ends (AfterLast seen))) where
  abbrev all : List Answers
  all = answers_here is_dead rows n

  pub round_goes : (left place : ℕ) (seen : Bool) → place + left ≡ length all → CameTo goes skips all place seen → Goes is_dead rows n fits (round goes ends left place seen)
  round_goes zero place seen sums came = ending seen (subst (λ (k : ℕ). CameTo goes skips all k seen) (let e : place ≡ length all = omega (arith, sums) in e) came)
  round_goes (suc left) place seen sums came =
      let within : place < length all = omega (arith, sums) in
      visit_goes is_dead rows n fits place (λ a. round_after goes ends place seen (λ b. round goes ends left (place + 1) b) a) (comes place came.passed)
      (λ a has. cond_both (passes goes a) (round goes ends left (place + 1) (seen || is_seen a)) (ends (AtChild place a)) (λ rule. Goes is_dead rows n fits rule)
      (λ on. round_goes left (place + 1) (seen || is_seen a) (omega (arith, sums)) (came_on goes all skips step place seen a within came on has))
      (λ stop. stops place seen a within came stop has))
