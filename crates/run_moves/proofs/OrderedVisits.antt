-- A Sequence or Fallback kind over one visit.
use Rattle.std.proofs.Common.{◌≡◌, ℕ, zero, suc, ◌+◌, Bool, true, false, ◌||◌, List, [], ◌∷◌, sym, ap, subst, ◌∙◌, arith, ⊎_elim}
use Rattle.std.proofs.lemmas.Bool.{both_ways, cases_lt, cond_both}
use Rattle.spec_run.specs.declared.moves.Heard.{Heard}
use Rattle.spec_run.specs.declared.status.Answer.{Answer}
use Rattle.spec_run.specs.declared.status.RoundEnd.{RoundEnd}
use Rattle.spec_run.specs.declared.status.RoundEnd.TheVariants.{AtChild, AfterLast}
use Rattle.spec_tree.specs.declared.term.Kind.{Kind}
use Rattle.base_tables.specs.Moves.{hears, hears_answer}
use Rattle.spec_run.specs.Rules.Answers.{is_seen}
use Rattle.spec_run.specs.Rules.Sequences.{passes, round, round_after}
use Rattle.spec_run.specs.Steps.{Rule}
use Rattle.run_moves.specs.Rows.{last_place}
use Rattle.run_moves.specs.Visits.{Hears, IsVisit, answers_from}
use Rattle.run_moves.proofs.Visits.{by_answer, rest_of_visit}

-- the row of a kind: when its visit stops, what it answers where some child was seen before or none, and what
-- is kept of that answer
pub record Row : Type 0 where
  pub stops : List Answer → Bool
  pub answer : Bool → List Answer → Answer
  pub keeps : ℕ → Answer → Rule

-- the row says what the round says, answer by answer
pub record Tells (row : Row) (goes : Answer) (ends : RoundEnd → Rule) : Type 0 where
  pub none : row.stops [] ≡ false
  pub passed : (a : Answer) → passes goes a ≡ true → (l : List Answer) → row.stops (a ∷ l) ≡ row.stops l
  pub stopped : (a : Answer) → passes goes a ≡ false → row.stops (a ∷ []) ≡ true
  pub at_child : (place : ℕ) (seen : Bool) (a : Answer) → passes goes a ≡ false → ends (AtChild place a) ≡ row.keeps place (row.answer seen (a ∷ []))
  pub at_last : (place : ℕ) (seen : Bool) (a : Answer) → passes goes a ≡ true → ends (AfterLast (seen || is_seen a)) ≡ row.keeps place (row.answer seen (a ∷ []))
  pub onward : (seen : Bool) (a : Answer) → passes goes a ≡ true → (l : List Answer) → row.answer (seen || is_seen a) l ≡ row.answer seen (a ∷ l)

module _ (kind : Kind) (plain : (place : ℕ) (go : Heard → Rule) → hears kind place go ≡ hears_answer place go)
    (row : Row) (goes : Answer) (ends : RoundEnd → Rule) (tells : Tells row goes ends) where
  one_place : (place : ℕ) (seen : Bool) (a : Answer) → row.keeps place (row.answer seen (a ∷ [])) ≡ row.keeps (last_place place (a ∷ [])) (row.answer seen (a ∷ []))
  one_place place seen a = ap (λ (p : ℕ). row.keeps p (row.answer seen (a ∷ []))) (omega arith)

  next_places : (place : ℕ) (a b : Answer) (more : List Answer) → last_place (place + 1) (b ∷ more) ≡ last_place place (a ∷ b ∷ more)
  next_places place a b more = omega arith

  -- behind the answer of the one child of a visit that goes on, none is left
  last_left : (left : ℕ) (a : Answer) → IsVisit row.stops (suc left) (a ∷ []) → passes goes a ≡ true → left ≡ 0
  last_left left a visit passed = ⊎_elim
      (λ more. absurd (both_ways (row.stops (a ∷ [])) (tells.passed a passed [] ∙ tells.none) (visit.ends (omega (arith, more)))))
      (λ none. omega (arith, none))
      (cases_lt 0 left)

  pub round_hears : (answers : List Answer) (left place : ℕ) (seen : Bool) → IsVisit row.stops left answers →
      Hears kind (round goes ends left place seen) (answers_from place answers) (row.keeps (last_place place answers) (row.answer seen answers))
  round_hears [] left place seen visit = absurd (omega (arith, visit.some))
  round_hears (a ∷ more) zero place seen visit = absurd (omega (arith, visit.within))
  round_hears (a ∷ []) (suc left) place seen visit =
      let others : Bool → Rule = λ b. round goes ends left (place + 1) b in
      let go : Answer → Rule = λ x. round_after goes ends place seen others x in
      let given : Rule = row.keeps (last_place place (a ∷ [])) (row.answer seen (a ∷ [])) in (
        by_answer go,
        sym (plain place (by_answer go)),
        cond_both (passes goes a) (others (seen || is_seen a)) (ends (AtChild place a)) (λ rule. rule ≡ given)
            (λ passed. ap (λ (k : ℕ). round goes ends k (place + 1) (seen || is_seen a)) (last_left left a visit passed) ∙ tells.at_last place seen a passed ∙ one_place place seen a)
            (λ ended. tells.at_child place seen a ended ∙ one_place place seen a),
      )
  round_hears (a ∷ b ∷ more) (suc left) place seen visit =
      let others : Bool → Rule = λ x. round goes ends left (place + 1) x in
      let go : Answer → Rule = λ x. round_after goes ends place seen others x in
      let given : Rule = row.keeps (last_place place (a ∷ b ∷ more)) (row.answer seen (a ∷ b ∷ more)) in (
        by_answer go,
        sym (plain place (by_answer go)),
        cond_both (passes goes a) (others (seen || is_seen a)) (ends (AtChild place a)) (λ rule. Hears kind rule (answers_from (place + 1) (b ∷ more)) given)
            (λ passed. subst (λ rule. Hears kind (others (seen || is_seen a)) (answers_from (place + 1) (b ∷ more)) rule)
            (ap (λ (p : ℕ). row.keeps p (row.answer (seen || is_seen a) (b ∷ more))) (next_places place a b more)
            ∙ ap (row.keeps (last_place place (a ∷ b ∷ more))) (tells.onward seen a passed (b ∷ more)))
            (round_hears (b ∷ more) left (place + 1) (seen || is_seen a) (rest_of_visit row.stops row.stops left a b more (tells.passed a passed) visit)))
            (λ ended. absurd (both_ways (row.stops (a ∷ [])) (visit.goes_on 1 (omega arith) (omega arith)) (tells.stopped a ended))),
      )
