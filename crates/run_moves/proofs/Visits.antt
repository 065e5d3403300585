-- Lists of what is heard in one visit.
use Rattle.std.proofs.Common.{◌≡◌, ℕ, zero, suc, ◌+◌, ◌-◌, ◌<◌, ◌≤◌, Bool, true, false, List, ◌∷◌, length, take, refl, sym, ap, subst, ◌∙◌, arith, ⊎_elim}
use Rattle.std.proofs.lemmas.Bool.{both_ways, cases_lt}
use Rattle.std.proofs.lemmas.List.{length-take-le, take-take}
use Rattle.spec_run.specs.declared.moves.Heard.{Heard}
use Rattle.spec_run.specs.declared.moves.Heard.TheVariants.{Answered}
use Rattle.spec_run.specs.declared.status.Answer.{Answer}
use Rattle.spec_run.specs.declared.status.Answer.TheVariants.{Skipped}
use Rattle.spec_run.specs.Steps.{Rule, over}
use Rattle.run_moves.specs.Visits.{IsVisit}

-- the others of a visit that has two at least, with what stops it behind the first
pub rest_of_visit : {A : Type 0} (stops onward : List A → Bool) (most : ℕ) (a b : A) (more : List A) →
    ((l : List A) → stops (a ∷ l) ≡ onward l) → IsVisit stops (suc most) (a ∷ b ∷ more) → IsVisit onward most (b ∷ more)
rest_of_visit stops onward most a b more same visit = record {
  some = omega arith;
  within = omega (arith, visit.within);
  goes_on = λ k low below. sym (same (take k (b ∷ more))) ∙ visit.goes_on (suc k) (omega arith) (omega (arith, below));
  ends = λ below. sym (same (b ∷ more)) ∙ visit.ends (omega (arith, below));
}

-- what follows an answer, as what follows anything that is heard
abbrev pub by_answer : (Answer → Rule) → Heard → Rule
by_answer go (Answered place a) = go a
by_answer go _ = over Skipped

-- ---- The one list of a visit

module _ {A : Type 0} (stops : List A → Bool) (all : List A) where
  -- none of the prefixes below a length stops the visit
  abbrev NoneBefore : ℕ → Type 0
  NoneBefore p = (k : ℕ) → 1 ≤ k → k < p → stops (take k all) ≡ false

  prefix_is_visit : (p : ℕ) → 1 ≤ p → p ≤ length all → NoneBefore p → (p < length all → stops (take p all) ≡ true) → IsVisit stops (length all) (take p all)
  prefix_is_visit p some within none ends =
      let size : length (take p all) ≡ p = length-take-le p all within in
      record {
        some = omega (arith, some, size);
        within = omega (arith, within, size);
        goes_on = λ k low below. ap stops (take-take k p all (omega (arith, below, size))) ∙ none k low (omega (arith, below, size));
        ends = λ below. ends (omega (arith, below, size));
      }

  none_after : (p : ℕ) → NoneBefore p → stops (take p all) ≡ false → NoneBefore (suc p)
  none_after p none here k low below = ⊎_elim (λ less. none k low less) (λ reached. subst (λ (x : ℕ). stops (take x all) ≡ false) (omega (arith, below, reached)) here) (cases_lt k p)

  visit_from : (left p : ℕ) → p + left ≡ length all → 1 ≤ p → NoneBefore p → (k : ℕ) × (k ≤ length all) × IsVisit stops (length all) (take k all)
  visit_from zero p size some none = (p, omega (arith, size), prefix_is_visit p some (omega (arith, size)) none (λ below. absurd (omega (arith, below, size))))
  visit_from (suc left) p size some none =
      by_test (stops (take p all)) refl (λ e. visit_from left (suc p) (omega (arith, size)) (omega arith) (none_after p none e))
    where
      by_test : (b : Bool) → stops (take p all) ≡ b → (stops (take p all) ≡ false → (k : ℕ) × (k ≤ length all) × IsVisit stops (length all) (take k all)) →
          (k : ℕ) × (k ≤ length all) × IsVisit stops (length all) (take k all)
      by_test true e onward = (p, omega (arith, size), prefix_is_visit p some (omega (arith, size)) none (λ _. e))
      by_test false e onward = onward e

  pub one_visit : 1 ≤ length all → (k : ℕ) × (k ≤ length all) × IsVisit stops (length all) (take k all)
  one_visit some = visit_from (length all - 1) 1 (omega (arith, some)) (omega arith) (λ k low below. absurd (omega (arith, low, below)))

  -- no shorter prefix than that of a visit is one
  none_shorter : (j k : ℕ) → j ≤ length all → k ≤ length all → IsVisit stops (length all) (take j all) → IsVisit stops (length all) (take k all) → k ≤ j
  none_shorter j k low high shorter longer = ⊎_elim
      (λ less. absurd (both_ways (stops (take j all))
      (ap stops (sym (take-take j k all (omega (arith, less)))) ∙ longer.goes_on j (omega (arith, shorter.some, length-take-le j all low)) (omega (arith, less, length-take-le k all high)))
      (shorter.ends (omega (arith, less, high, length-take-le j all low)))))
      (λ reached. reached)
      (cases_lt j k)

  pub no_other_visit : (j k : ℕ) → j ≤ length all → k ≤ length all → IsVisit stops (length all) (take j all) → IsVisit stops (length all) (take k all) → j ≡ k
  no_other_visit j k low high one other = omega (arith, none_shorter j k low high one other, none_shorter k j high low other one)
