-- A RateController over one visit.
use Rattle.std.proofs.Common.{◌≡◌, ℕ, ◌-◌, ◌*◌, ◌<◌, true, false, [], ◌∷◌, refl, subst, sym}
use Rattle.std.proofs.lemmas.Bool.{cond-false, cond-true, lt-leb}
use Rattle.spec_run.specs.declared.memory.Memo.TheVariants.{Pace as Paced}
use Rattle.spec_run.specs.declared.memory.Pace.{Pace}
use Rattle.spec_run.specs.declared.moves.Span.TheVariants.{All}
use Rattle.spec_run.specs.declared.status.Answer.{Answer}
use Rattle.spec_run.specs.declared.status.Answer.TheVariants.{Running, Success}
use Rattle.spec_tree.specs.declared.term.Kind.TheVariants.{RateController}
use Rattle.spec_run.specs.Rules.Kinds.{rule}
use Rattle.spec_run.specs.Rules.Rates.{is_due, rate_after}
use Rattle.spec_run.specs.Steps.{Rule, keep, reset, visit}
use Rattle.run_moves.specs.Visits.{Hears}
use Rattle.run_moves.specs.Decorators.Again.{answers_of_child}
use Rattle.run_moves.proofs.Visits.{by_answer}

abbrev visits : Pace → ℕ → Rule
visits p now = visit 0 (λ a. rate_after p now a)

pub due_hears : (now picked : ℕ) (p : Pace) (a : Answer) → is_due p now ≡ true →
    Hears RateController (rule RateController 1 (Paced p) picked now) (answers_of_child (a ∷ [])) (rate_after p now a)
due_hears now picked p a due =
    subst (λ rule. Hears RateController rule (answers_of_child (a ∷ [])) (rate_after p now a)) (sym (cond-true (is_due p now) (visits p now) (keep Running (Paced p)) due))
    (by_answer (λ x. rate_after p now x), refl, refl)

pub early_hears : (now picked : ℕ) (p : Pace) → is_due p now ≡ false →
    Hears RateController (rule RateController 1 (Paced p) picked now) [] (keep Running (Paced p))
early_hears now picked p early = cond-false (is_due p now) (visits p now) (keep Running (Paced p)) early

pub period_hears : (now picked later : ℕ) (p : Pace) → (later - now) * p.rate < 1000000 →
    (rate_after p now Success ≡ reset All (keep Success (Paced (record p { first = now; due = false }))))
    × Hears RateController (rule RateController 1 (Paced (record p { first = now; due = false })) picked later) [] (keep Running (Paced (record p { first = now; due = false })))
period_hears now picked later p below =
    (refl, early_hears later picked (record p { first = now; due = false }) (lt-leb 1000000 ((later - now) * p.rate) below))
