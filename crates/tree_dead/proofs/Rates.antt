-- RateController.
use Rattle.std.proofs.Common.{◌≡◌, ℕ, List, Bool, true, false, refl}
use Rattle.std.proofs.lemmas.Bool.{cond_both}
use Rattle.spec_run.specs.declared.memory.Memo.TheVariants.{Pace as Paced}
use Rattle.spec_run.specs.declared.memory.Pace.{Pace}
use Rattle.spec_run.specs.declared.moves.Span.TheVariants as span
use Rattle.spec_run.specs.declared.status.Answer.{Answer}
use Rattle.spec_run.specs.declared.status.Answer.TheVariants as answer
use Rattle.spec_tree.specs.declared.term.Kind.TheVariants.{RateController}
use Rattle.spec_tree.specs.declared.term.Port.{Port}
use Rattle.spec_world.specs.declared.world.Row.{Row}
use Rattle.spec_run.specs.Rules.Rates.{is_due, rate_after, rate_controller}
use Rattle.spec_run.specs.Steps.{Rule, keep, visit}
use Rattle.spec_dead.specs.declared.answers.Answers.{Answers}
use Rattle.spec_dead.specs.Answers.{only}
use Rattle.spec_dead.specs.Reached.{answers_at}
use Rattle.tree_dead.proofs.Rounds.{Gives}
use Rattle.tree_dead.proofs.Sets.{Has, either_left, either_right}
use Rattle.tree_dead.proofs.Words.{Children, Goes, answers_here, keep_goes, over_goes, reset_goes, visit_goes}

module _ (is_dead : ℕ → Bool) (rows : List Row) (n : Children is_dead rows) (comes : n.visits 0 ≡ true) (ports : List Port) (p : Pace) (now : ℕ) where
  abbrev all : List Answers
  all = answers_here is_dead rows n

  abbrev child : Answers
  child = answers_at all 0

  abbrev Fit : Rule → Type 0
  Fit rule = Goes is_dead rows n (Gives RateController ports all) rule

  after_fits : (a : Answer) → Has a child → Fit (rate_after p now a)
  after_fits answer.Running has = keep_goes is_dead rows n (Gives RateController ports all) answer.Running (Paced (record p { due = true })) (either_left answer.Running child (only answer.Running) has, tt)
  after_fits answer.Success has =
      let next : Pace = record p { first = now; due = false } in
      reset_goes is_dead rows n (Gives RateController ports all) span.All (keep answer.Success (Paced next))
      (keep_goes is_dead rows n (Gives RateController ports all) answer.Success (Paced next) (either_left answer.Success child (only answer.Running) has, tt))
  after_fits answer.Failure has =
      let next : Pace = record p { due = false } in
      reset_goes is_dead rows n (Gives RateController ports all) span.All (keep answer.Failure (Paced next))
      (keep_goes is_dead rows n (Gives RateController ports all) answer.Failure (Paced next) (either_left answer.Failure child (only answer.Running) has, tt))
  after_fits answer.Skipped has = over_goes is_dead rows n (Gives RateController ports all) answer.Skipped (either_left answer.Skipped child (only answer.Running) has, tt)

  -- where the child is not visited RUNNING is given
  pub rate_fits : Fit (rate_controller p now)
  rate_fits =
      cond_both (is_due p now) (visit 0 (λ a. rate_after p now a)) (keep answer.Running (Paced p)) Fit
      (λ _. visit_goes is_dead rows n (Gives RateController ports all) 0 (λ a. rate_after p now a) comes after_fits)
      (λ _. keep_goes is_dead rows n (Gives RateController ports all) answer.Running (Paced p) (either_right answer.Running child (only answer.Running) refl, tt))
