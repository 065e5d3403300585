-- RateController keeps the rules.
use Rattle.std.proofs.Common.{◌≡◌, ℕ, ◌-◌, ◌*◌, ◌≤◌, List, Bool, true, false, nat_le, refl, arith}
use Rattle.std.proofs.lemmas.Bool.{cond_both, or_parts}
use Rattle.spec_run.specs.declared.memory.Memo.TheVariants.{Pace as Paced}
use Rattle.spec_run.specs.declared.memory.Pace.{Pace}
use Rattle.spec_run.specs.declared.moves.Span.TheVariants as span
use Rattle.spec_run.specs.declared.status.Answer.{Answer}
use Rattle.spec_run.specs.declared.status.Answer.TheVariants as answer
use Rattle.spec_run.specs.declared.status.Status.{Status}
use Rattle.spec_tree.specs.declared.term.Kind.TheVariants.{RateController}
use Rattle.spec_run.specs.Rules.Rates.{is_due, rate_after, rate_controller}
use Rattle.base_tables.specs.Shapes.{AllIdle, IsPaced, PacedChild}
use Rattle.spec_run.specs.Steps.{keep, visit}
use Rattle.spec_run.specs.Visit.{status_of}
use Rattle.run_laws.proofs.Acts.{Changed}
use Rattle.run_laws.proofs.Choices.{OthersIdle, runs_alone}
use Rattle.run_laws.proofs.Nodes.{Goes, Node, is_over, keeps, resets_first, visits}

module _ (n : Node) (p : Pace) (paced : IsPaced p n.moment n.ports) where
  paced_so : (first : ℕ) (due : Bool) → first ≤ n.moment → IsPaced (record p { first = first; due = due }) n.moment n.ports
  paced_so first due before = record { first = before; rate = paced.rate }

  after_goes : (a : Answer) (ss ss1 : List Status) → OthersIdle 0 ss → Changed 0 (status_of a) ss ss1 → Goes n RateController ss1 (rate_after p n.moment a)
  after_goes answer.Running ss ss1 idle changed =
      keeps n RateController answer.Running (Paced (record p { due = true })) ss1 (paced_so p.first true paced.first, runs_alone 0 answer.Running ss ss1 idle changed refl)
  after_goes answer.Success ss ss1 idle changed =
      resets_first n RateController span.All (keep answer.Success (Paced (record p { first = n.moment; due = false }))) ss1
      (λ ss2 rested. keeps n RateController answer.Success (Paced (record p { first = n.moment; due = false })) ss2 (paced_so n.moment false (omega arith), refl, λ k from. rested.away k refl))
  after_goes answer.Failure ss ss1 idle changed =
      resets_first n RateController span.All (keep answer.Failure (Paced (record p { due = false }))) ss1
      (λ ss2 rested. keeps n RateController answer.Failure (Paced (record p { due = false })) ss2 (paced_so p.first false paced.first, refl, λ k from. rested.away k refl))
  after_goes answer.Skipped ss ss1 idle changed = is_over n RateController answer.Skipped ss1 refl

  -- a child that is not visited is IDLE
  waits : (due : Bool) (ss : List Status) → due ≡ false → (due ≡ false → AllIdle ss) → PacedChild due ss
  waits false ss e idle = idle e
  waits true ss e idle = cc

  pub rate_goes : (ss : List Status) → OthersIdle 0 ss → (p.due ≡ false → AllIdle ss) → Goes n RateController ss (rate_controller p n.moment)
  rate_goes ss others idle =
      cond_both (is_due p n.moment) (visit 0 (λ a. rate_after p n.moment a)) (keep answer.Running (Paced p)) (λ rule. Goes n RateController ss rule)
      (λ _. visits n RateController 0 (λ a. rate_after p n.moment a) ss (λ a ss1 changed. after_goes a ss ss1 others changed))
      (λ early. keeps n RateController answer.Running (Paced p) ss
      (paced, waits p.due ss (or_parts p.due (nat_le 1000000 ((n.moment - p.first) * p.rate)) early).0 idle))
