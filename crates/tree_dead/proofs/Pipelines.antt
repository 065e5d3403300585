-- PipelineSequence.
use Rattle.std.proofs.Common.{◌≡◌, ℕ, zero, suc, ◌+◌, ◌<◌, List, length, Bool, true, false, ◌&&◌, ◌||◌, nat_lt, refl, subst, ◌∙◌, arith}
use Rattle.std.proofs.lemmas.Bool.{and_from, cond_both, or_left, or_right}
use Rattle.spec_run.specs.declared.memory.Memo.TheVariants.{Index}
use Rattle.spec_run.specs.declared.status.Answer.{Answer}
use Rattle.spec_run.specs.declared.status.Answer.TheVariants as answer
use Rattle.spec_tree.specs.declared.term.Kind.TheVariants.{PipelineSequence}
use Rattle.spec_tree.specs.declared.term.Port.{Port}
use Rattle.spec_world.specs.declared.world.Row.{Row}
use Rattle.spec_run.specs.Rules.Pipelines.{pipeline, pipeline_after, pipeline_end}
use Rattle.spec_run.specs.Rules.Sequences.{passes}
use Rattle.spec_run.specs.Steps.{Rule, keep}
use Rattle.spec_dead.specs.declared.answers.Answers.{Answers}
use Rattle.spec_dead.specs.Answers.{either, only, only_if, without}
use Rattle.spec_dead.specs.Reached.{all_flow, answers_at, may_flow, may_pass}
use Rattle.spec_dead.specs.Rules.{all_skip, pipeline_answers, reached_answers, some_seen}
use Rattle.tree_dead.proofs.Fits.{SkipsAll}
use Rattle.tree_dead.proofs.Passing.{all_before_next}
use Rattle.tree_dead.proofs.RoundSteps.{seen_here, stopped_in}
use Rattle.tree_dead.proofs.Rounds.{Gives, skips_more, skips_whole}
use Rattle.tree_dead.proofs.Sets.{Has, either_left, either_right, if_so}
use Rattle.tree_dead.proofs.Words.{Children, Goes, answers_here, keep_goes, over_goes, visit_goes}

-- a visit has come to a place: all children before may let it go on, and one of them may be seen where one was
record Flowed (children : List Answers) (place : ℕ) (seen : Bool) : Type 0 where
  flowed : all_flow children place ≡ true
  saw : seen ≡ true → some_seen answer.Success children ≡ true
  skipped : seen ≡ false → SkipsAll children place

module _ (children : List Answers) where
  abbrev stopping : Answers
  stopping = without answer.Skipped (without answer.Success (reached_answers (all_flow children) 0 children))

  abbrev ending : Answers
  ending = only_if (all_flow children (length children) && some_seen answer.Success children) (only answer.Success)

  abbrev skipping : Answers
  skipping = only_if (all_skip children) (only answer.Skipped)

  stop_in : (place : ℕ) (a : Answer) → place < length children → all_flow children place ≡ true → passes answer.Success a ≡ false → Has a (answers_at children place) → Has a (pipeline_answers children)
  stop_in place a within came stop has = either_left a stopping (either ending skipping) (stopped_in may_flow answer.Success children place a within came stop has)

  end_in : all_flow children (length children) ≡ true → some_seen answer.Success children ≡ true → Has answer.Success (pipeline_answers children)
  end_in came saw =
      either_right answer.Success stopping (either ending skipping)
      (either_left answer.Success ending skipping
      (if_so answer.Success (all_flow children (length children) && some_seen answer.Success children) (only answer.Success) (and_from (all_flow children (length children)) (some_seen answer.Success children) came saw) refl))

  skip_in : all_skip children ≡ true → Has answer.Skipped (pipeline_answers children)
  skip_in skips = either_right answer.Skipped stopping (either ending skipping) (either_right answer.Skipped ending skipping (if_so answer.Skipped (all_skip children) (only answer.Skipped) skips refl))

  module _ (place : ℕ) (seen : Bool) (within : place < length children) (came : Flowed children place seen) where
    abbrev child : Answers
    child = answers_at children place

    flowed_next : may_flow child ≡ true → all_flow children (place + 1) ≡ true
    flowed_next flows = all_before_next may_flow children place ∙ and_from (all_flow children place) (may_flow child) came.flowed flows

    -- the visit goes on after SUCCESS or RUNNING
    seen_next : may_flow child ≡ true → child.success || child.running ≡ true → Flowed children (place + 1) true
    seen_next flows shown = record { flowed = flowed_next flows; saw = λ e. seen_here answer.Success children place within shown; skipped = λ e. cc }

    -- .. and after SKIPPED
    skipped_next : child.skipped ≡ true → Flowed children (place + 1) seen
    skipped_next skips = record {
      flowed = flowed_next (or_left (may_pass answer.Success child) child.running (or_right child.success child.skipped skips));
      saw = came.saw;
      skipped = λ e. skips_more children place within (came.skipped e) skips;
    }

module _ (is_dead : ℕ → Bool) (rows : List Row) (n : Children is_dead rows) (ports : List Port) (comes : (place : ℕ) → all_flow (answers_here is_dead rows n) place ≡ true → n.visits place ≡ true) (farthest : ℕ) where
  abbrev all : List Answers
  all = answers_here is_dead rows n

  abbrev Fit : Rule → Type 0
  Fit rule = Goes is_dead rows n (Gives PipelineSequence ports all) rule

  ends_fit : (seen : Bool) → Flowed all (length all) seen → Fit (pipeline_end seen)
  ends_fit true came = over_goes is_dead rows n (Gives PipelineSequence ports all) answer.Success (end_in all came.flowed (came.saw refl), tt)
  ends_fit false came = over_goes is_dead rows n (Gives PipelineSequence ports all) answer.Skipped (skip_in all (skips_whole all (came.skipped refl)), tt)

  -- after an answer of the child at a place, where the others go on
  after_fits : (place : ℕ) (seen : Bool) (others : Bool → Rule) (a : Answer) → place < length all → Flowed all place seen → Has a (answers_at all place) → ((b : Bool) → Flowed all (place + 1) b → Fit (others b)) →
      Fit (pipeline_after farthest place seen others a)
  after_fits place seen others answer.Running within came has goes =
      let child : Answers = answers_at all place in
      cond_both (nat_lt place farthest) (others true) (keep answer.Running (Index place true)) Fit
      (λ _. goes true (seen_next all place seen within came (or_right (may_pass answer.Success child) child.running has) (or_right child.success child.running has)))
      (λ _. keep_goes is_dead rows n (Gives PipelineSequence ports all) answer.Running (Index place true) (stop_in all place answer.Running within came.flowed refl has, tt))
  after_fits place seen others answer.Success within came has goes =
      let child : Answers = answers_at all place in
      goes true (seen_next all place seen within came (or_left (may_pass answer.Success child) child.running (or_left child.success child.skipped has)) (or_left child.success child.running has))
  after_fits place seen others answer.Failure within came has goes = over_goes is_dead rows n (Gives PipelineSequence ports all) answer.Failure (stop_in all place answer.Failure within came.flowed refl has, tt)
  after_fits place seen others answer.Skipped within came has goes = goes seen (skipped_next all place seen within came has)

  children_fit : (left place : ℕ) (seen : Bool) → place + left ≡ length all → Flowed all place seen → Fit (pipeline farthest left place seen)
  children_fit zero place seen sums came = ends_fit seen (subst (λ (k : ℕ). Flowed all k seen) (let e : place ≡ length all = omega (arith, sums) in e) came)
  children_fit (suc left) place seen sums came =
      let go : Bool → Rule = λ b. pipeline farthest left (place + 1) b in
      let within : place < length all = omega (arith, sums) in
      visit_goes is_dead rows n (Gives PipelineSequence ports all) place (λ a. pipeline_after farthest place seen go a) (comes place came.flowed)
      (λ a has. after_fits place seen go a within came has (λ b came1. children_fit left (place + 1) b (omega (arith, sums)) came1))

  pub pipeline_fits : Fit (pipeline farthest (length all) 0 false)
  pipeline_fits = children_fit (length all) 0 false (omega arith) (record { flowed = refl; saw = λ e. cc; skipped = λ e. refl })
