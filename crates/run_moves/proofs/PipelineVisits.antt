-- A PipelineSequence over one visit.
use Rattle.std.proofs.Common.{◌≡◌, ℕ, zero, suc, ◌+◌, ◌-◌, Bool, true, false, cond, nat_lt, List, [], ◌∷◌, ◌⊎◌, inl, inr, refl, sym, ap, subst, ◌∙◌, arith, ⊎_elim}
use Rattle.std.proofs.lemmas.Bool.{both_ways, cases_lt, cond-false, cond-true, le-ltb, lt-ltb, or_right}
use Rattle.spec_run.specs.declared.memory.Memo.TheVariants.{Index}
use Rattle.spec_run.specs.declared.status.Answer.{Answer}
use Rattle.spec_run.specs.declared.status.Answer.TheVariants.{Failure, Running, Skipped, Success}
use Rattle.spec_tree.specs.declared.term.Kind.TheVariants.{PipelineSequence}
use Rattle.spec_run.specs.Rules.Kinds.{rule}
use Rattle.spec_run.specs.Rules.Pipelines.{pipeline, pipeline_after, pipeline_end}
use Rattle.spec_run.specs.Steps.{Rule, keep}
use Rattle.run_moves.specs.Navigation.{pipeline_answer, pipeline_stops, runs_from}
use Rattle.run_moves.specs.Rows.{keeps_index, last_place, some_is}
use Rattle.run_moves.specs.Visits.{Hears, IsVisit, answers_from}
use Rattle.run_moves.proofs.Visits.{by_answer, rest_of_visit}

-- the answer by its three tests
abbrev by_tests : Bool → Bool → Bool → Answer
by_tests failed runs some = cond failed Failure (cond runs Running (cond some Success Skipped))

-- ---- The row of one more answer

-- where k places are left to the farthest child, after this answer the visit goes on to the others
record GoesOn (farthest place k : ℕ) (seen : Bool) (a : Answer) : Type 0 where
  left : ℕ
  some : Bool
  further : left ≡ farthest - (place + 1)
  onward : (others : Bool → Rule) → pipeline_after farthest place seen others a ≡ others some
  stops : (l : List Answer) → pipeline_stops k (a ∷ l) ≡ pipeline_stops left l
  answer : (l : List Answer) → pipeline_answer left some l ≡ pipeline_answer k seen (a ∷ l)

-- .. or it stops
record Ends (farthest place k : ℕ) (seen : Bool) (a : Answer) : Type 0 where
  given : (others : Bool → Rule) → pipeline_after farthest place seen others a ≡ keeps_index place (pipeline_answer k seen (a ∷ []))
  stops : pipeline_stops k (a ∷ []) ≡ true

module _ (farthest place : ℕ) (seen : Bool) where
  by_case : (a : Answer) (k : ℕ) → k ≡ farthest - place → GoesOn farthest place k seen a ⊎ Ends farthest place k seen a
  by_case Failure k is = inr (record { given = λ others. refl; stops = refl })
  by_case Success zero is = inl (record {
    left = zero;
    some = true;
    further = omega (arith, is);
    onward = λ others. refl;
    stops = λ l. refl;
    answer = λ l. ap (by_tests (some_is Failure l) (some_is Running l)) (sym (or_right seen true refl));
  })
  by_case Success (suc k) is = inl (record {
    left = k;
    some = true;
    further = omega (arith, is);
    onward = λ others. refl;
    stops = λ l. refl;
    answer = λ l. ap (by_tests (some_is Failure l) (runs_from k l)) (sym (or_right seen true refl));
  })
  by_case Skipped zero is = inl (record {
    left = zero;
    some = seen;
    further = omega (arith, is);
    onward = λ others. refl;
    stops = λ l. refl;
    answer = λ l. refl;
  })
  by_case Skipped (suc k) is = inl (record {
    left = k;
    some = seen;
    further = omega (arith, is);
    onward = λ others. refl;
    stops = λ l. refl;
    answer = λ l. refl;
  })
  by_case Running zero is = inr (record {
    given = λ others. cond-false (nat_lt place farthest) (others true) (keep Running (Index place true)) (le-ltb place farthest (omega (arith, is)));
    stops = refl;
  })
  by_case Running (suc k) is = inl (record {
    left = k;
    some = true;
    further = omega (arith, is);
    onward = λ others. cond-true (nat_lt place farthest) (others true) (keep Running (Index place true)) (lt-ltb place farthest (omega (arith, is)));
    stops = λ l. refl;
    answer = λ l. ap (by_tests (some_is Failure l) (runs_from k l)) (sym (or_right seen true refl));
  })

-- ---- The visit

-- without answers nothing stops, and the end is given
none_stop : (k : ℕ) → pipeline_stops k [] ≡ false
none_stop zero = refl
none_stop (suc k) = refl

end_is : (k place : ℕ) (seen : Bool) → pipeline_end seen ≡ keeps_index place (pipeline_answer k seen [])
end_is zero place true = refl
end_is zero place false = refl
end_is (suc k) place true = refl
end_is (suc k) place false = refl

one_place : (place : ℕ) (a : Answer) → place ≡ last_place place (a ∷ [])
one_place place a = omega arith

next_places : (place : ℕ) (a b : Answer) (more : List Answer) → last_place (place + 1) (b ∷ more) ≡ last_place place (a ∷ b ∷ more)
next_places place a b more = omega arith

module _ (farthest : ℕ) where
  abbrev onward_from : ℕ → ℕ → Bool → Answer → Rule
  onward_from left place seen a = pipeline_after farthest place seen (λ b. pipeline farthest left (place + 1) b) a

  abbrev given_from : ℕ → ℕ → Bool → List Answer → Rule
  given_from place k seen answers = keeps_index (last_place place answers) (pipeline_answer k seen answers)

  -- after the last answer of a visit that goes on no child is left
  none_left : (left place k : ℕ) (seen : Bool) (a : Answer) → GoesOn farthest place k seen a → IsVisit (λ l. pipeline_stops k l) (suc left) (a ∷ []) → left ≡ 0
  none_left left place k seen a goes visited = ⊎_elim
      (λ more. absurd (both_ways (pipeline_stops k (a ∷ [])) (goes.stops [] ∙ none_stop goes.left) (visited.ends (omega (arith, more)))))
      (λ none. omega (arith, none))
      (cases_lt 0 left)

  following : (more : List Answer) (a : Answer) (left place k : ℕ) (seen : Bool) → k ≡ farthest - place → IsVisit (λ l. pipeline_stops k l) (suc left) (a ∷ more) →
      Hears PipelineSequence (onward_from left place seen a) (answers_from (place + 1) more) (given_from place k seen (a ∷ more))
  following [] a left place k seen is visited =
      let others : Bool → Rule = λ b. pipeline farthest left (place + 1) b in ⊎_elim
      (λ (goes : GoesOn farthest place k seen a).
      goes.onward others
      ∙ ap (λ (m : ℕ). pipeline farthest m (place + 1) goes.some) (none_left left place k seen a goes visited)
      ∙ end_is goes.left (last_place place (a ∷ [])) goes.some
      ∙ ap (keeps_index (last_place place (a ∷ []))) (goes.answer []))
      (λ (ends : Ends farthest place k seen a). ends.given others ∙ ap (λ (p : ℕ). keeps_index p (pipeline_answer k seen (a ∷ []))) (one_place place a))
      (by_case farthest place seen a k is)
  following (b ∷ more) a zero place k seen is visited = absurd (omega (arith, visited.within))
  following (b ∷ more) a (suc left) place k seen is visited =
      let others : Bool → Rule = λ x. pipeline farthest (suc left) (place + 1) x in
      let given : Rule = given_from place k seen (a ∷ b ∷ more) in ⊎_elim
      (λ (goes : GoesOn farthest place k seen a).
      subst (λ rule. Hears PipelineSequence rule (answers_from (place + 1) (b ∷ more)) given) (sym (goes.onward others)) (
        by_answer (onward_from left (place + 1) goes.some),
        refl,
        subst (λ rule. Hears PipelineSequence (onward_from left (place + 1) goes.some b) (answers_from (place + 1 + 1) more) rule)
            (ap (λ (p : ℕ). keeps_index p (pipeline_answer goes.left goes.some (b ∷ more))) (next_places place a b more)
            ∙ ap (keeps_index (last_place place (a ∷ b ∷ more))) (goes.answer (b ∷ more)))
            (following more b left (place + 1) goes.left goes.some goes.further
            (rest_of_visit (λ l. pipeline_stops k l) (λ l. pipeline_stops goes.left l) (suc left) a b more goes.stops visited)),
      ))
      (λ (ends : Ends farthest place k seen a). absurd (both_ways (pipeline_stops k (a ∷ [])) (visited.goes_on 1 (omega arith) (omega arith)) ends.stops))
      (by_case farthest place seen a k is)

  pub pipeline_hears : (n now picked : ℕ) (seen : Bool) (answers : List Answer) → IsVisit (λ l. pipeline_stops farthest l) n answers →
      Hears PipelineSequence (rule PipelineSequence n (Index farthest seen) picked now) (answers_from 0 answers) (keeps_index (last_place 0 answers) (pipeline_answer farthest false answers))
  pipeline_hears n now picked seen [] visited = absurd (omega (arith, visited.some))
  pipeline_hears zero now picked seen (a ∷ more) visited = absurd (omega (arith, visited.within))
  pipeline_hears (suc left) now picked seen (a ∷ more) visited =
      (by_answer (onward_from left 0 false), refl, following more a left 0 farthest false (omega arith) visited)
