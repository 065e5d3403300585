-- A Parallel over one visit.
use Rattle.std.proofs.Common.{◌≡◌, ℕ, zero, suc, ◌+◌, ◌≤◌, Bool, true, false, ◌||◌, cond, nat_eq, List, [], ◌∷◌, take, Option, Some, None, refl, sym, ap, subst, ◌∙◌, arith, ⊎_elim}
use Rattle.std.proofs.lemmas.Bool.{cases_lt, or_parts}
use Rattle.std.proofs.lemmas.List.Sums.{sum_by-cons}
use Rattle.std.specs.List.{count_by}
use Rattle.spec_run.specs.declared.memory.Counts.{Counts}
use Rattle.spec_run.specs.declared.memory.Memo.TheVariants.{Counts as Counted}
use Rattle.spec_run.specs.declared.moves.Heard.{Heard}
use Rattle.spec_run.specs.declared.moves.Heard.TheVariants.{Begin, Answered, Passed}
use Rattle.spec_run.specs.declared.status.Answer.{Answer}
use Rattle.spec_run.specs.declared.status.Answer.TheVariants.{Running, Success, Failure, Skipped}
use Rattle.spec_tree.specs.declared.term.Kind.TheVariants.{Parallel}
use Rattle.base_tables.specs.Moves.{hears}
use Rattle.spec_run.specs.Rules.Kinds.{rule}
use Rattle.spec_run.specs.Rules.Parallels.{counted, failure_holds, parallel, parallel_after, parallel_end, success_holds}
use Rattle.spec_run.specs.Steps.{Rule, over}
use Rattle.run_moves.specs.Rows.{answered, failures, has_failed, has_succeeded, keeps_counts, parallel_answer, parallel_stops, skipped, successes, tally}
use Rattle.run_moves.specs.Visits.{Hears, IsVisit, heard_at, heard_from, place_of}
use Rattle.run_moves.proofs.Visits.{rest_of_visit}

-- ---- The counts

-- the counts once one more child was heard of, and once all of a list were
abbrev with_one : Option Answer → Counts → Counts
with_one (Some a) c = counted a c
with_one None c = c

abbrev with_all : Counts → List (Option Answer) → Counts
with_all c [] = c
with_all c (o ∷ more) = with_all (with_one o c) more

-- the same counts with other numbers
abbrev numbers : Counts → ℕ → ℕ → ℕ → Counts
numbers c successes failures skipped = record c { successes = successes; failures = failures; skipped = skipped }

same_numbers : (c : Counts) (s s1 f f1 k k1 : ℕ) → s ≡ s1 → f ≡ f1 → k ≡ k1 → numbers c s f k ≡ numbers c s1 f1 k1
same_numbers c s s1 f f1 k k1 e1 e2 e3 = ap (λ (x : ℕ). numbers c x f k) e1 ∙ ap (λ (x : ℕ). numbers c s1 x k) e2 ∙ ap (λ (x : ℕ). numbers c s1 f1 x) e3

-- counting the children one by one, or each sort of answer in the whole list
-- what one child adds
adds : (a : Answer) (o : Option Answer) (more : List (Option Answer)) (k : ℕ) → k + cond (answered a o) 1 0 + count_by (λ x. answered a x) more ≡ k + count_by (λ x. answered a x) (o ∷ more)
adds a o more k = omega (arith, sum_by-cons (λ x. cond (answered a x) 1 0) o more)

one_is : (o : Option Answer) (c : Counts) →
    with_one o c ≡ numbers c (c.successes + cond (answered Success o) 1 0) (c.failures + cond (answered Failure o) 1 0) (c.skipped + cond (answered Skipped o) 1 0)
one_is None c = same_numbers c c.successes (c.successes + 0) c.failures (c.failures + 0) c.skipped (c.skipped + 0) (omega arith) (omega arith) (omega arith)
one_is (Some Running) c = same_numbers c c.successes (c.successes + 0) c.failures (c.failures + 0) c.skipped (c.skipped + 0) (omega arith) (omega arith) (omega arith)
one_is (Some Success) c = same_numbers c (c.successes + 1) (c.successes + 1) c.failures (c.failures + 0) c.skipped (c.skipped + 0) refl (omega arith) (omega arith)
one_is (Some Failure) c = same_numbers c c.successes (c.successes + 0) (c.failures + 1) (c.failures + 1) c.skipped (c.skipped + 0) (omega arith) refl (omega arith)
one_is (Some Skipped) c = same_numbers c c.successes (c.successes + 0) c.failures (c.failures + 0) (c.skipped + 1) (c.skipped + 1) (omega arith) (omega arith) refl

all_is : (heard : List (Option Answer)) (c : Counts) → with_all c heard ≡ numbers c (successes c heard) (failures c heard) (c.skipped + skipped heard)
all_is [] c = same_numbers c c.successes (successes c []) c.failures (failures c []) c.skipped (c.skipped + skipped []) (omega arith) (omega arith) (omega arith)
all_is (o ∷ more) c =
    all_is more (with_one o c)
    ∙ ap (λ (x : Counts). numbers x (successes x more) (failures x more) (x.skipped + skipped more)) (one_is o c)
    ∙ same_numbers c (c.successes + cond (answered Success o) 1 0 + count_by (λ x. answered Success x) more) (successes c (o ∷ more))
    (c.failures + cond (answered Failure o) 1 0 + count_by (λ x. answered Failure x) more) (failures c (o ∷ more))
    (c.skipped + cond (answered Skipped o) 1 0 + skipped more) (c.skipped + skipped (o ∷ more))
    (adds Success o more c.successes) (adds Failure o more c.failures) (adds Skipped o more c.skipped)

-- ---- The visit

-- a threshold is reached
abbrev holds : ℕ → Counts → Bool
holds n c = success_holds c || failure_holds n c

-- a Parallel that stops does not ask what the others would do
stopped : (n : ℕ) (c : Counts) (x y : Rule) → holds n c ≡ true → parallel_after n c x ≡ parallel_after n c y
stopped n c x y = by_tests (success_holds c) (failure_holds n c)
  where
    by_tests : (won lost : Bool) → (won || lost) ≡ true → cond won (over Success) (cond lost (over Failure) x) ≡ cond won (over Success) (cond lost (over Failure) y)
    by_tests true lost e = refl
    by_tests false true e = refl
    by_tests false false e = cc

-- one that does not goes on to the others
going : (n : ℕ) (c : Counts) (others : Rule) → holds n c ≡ false → parallel_after n c others ≡ others
going n c others none =
    let parts = or_parts (success_holds c) (failure_holds n c) none in
    ap (λ (won : Bool). cond won (over Success) (cond (failure_holds n c) (over Failure) others)) parts.0
    ∙ ap (λ (lost : Bool). cond lost (over Failure) others) parts.1

-- what follows what is heard of the child at a place
abbrev heard_of : ℕ → ℕ → ℕ → Counts → Heard → Rule
heard_of n left place c (Answered p a) = parallel_after n (counted a c) (parallel n left (place + 1) (counted a c))
heard_of n left place c (Passed p) = parallel_after n c (parallel n left (place + 1) c)
heard_of n left place c (Begin picked) = over Skipped

-- it is the same of a child that answers and of one that is passed over
heard_here : (n left place : ℕ) (c : Counts) (o : Option Answer) →
    heard_of n left place c (heard_at place o) ≡ parallel_after n (with_one o c) (parallel n left (place + 1) (with_one o c))
heard_here n left place c None = refl
heard_here n left place c (Some a) = refl

-- the place of the child that is heard of
here : (place : ℕ) (o : Option Answer) → place_of (heard_at place o) ≡ place
here place None = refl
here place (Some a) = refl

module _ (n : ℕ) where
  first_is : (left place : ℕ) (c : Counts) (o : Option Answer) →
      parallel n (suc left) place c ≡ hears Parallel (place_of (heard_at place o)) (heard_of n left place c)
  first_is left place c o = sym (ap (λ (p : ℕ). hears Parallel p (heard_of n left place c)) (here place o))

  pub parallel_hears : (heard : List (Option Answer)) (left place : ℕ) (c : Counts) → IsVisit (λ h. holds n (with_all c h)) left heard →
      Hears Parallel (parallel n left place c) (heard_from place heard) (parallel_after n (with_all c heard) (parallel_end n (with_all c heard)))
  parallel_hears [] left place c visit = absurd (omega (arith, visit.some))
  parallel_hears (o ∷ more) zero place c visit = absurd (omega (arith, visit.within))
  parallel_hears (o ∷ []) (suc left) place c visit =
      let c1 : Counts = with_one o c in
      let others : Rule = parallel n left (place + 1) c1 in (
        heard_of n left place c,
        first_is left place c o,
        heard_here n left place c o ∙ ⊎_elim
            (λ some. stopped n c1 others (parallel_end n c1) (visit.ends (omega (arith, some))))
            (λ none. ap (λ (k : ℕ). parallel_after n c1 (parallel n k (place + 1) c1)) (no_more left none))
            (cases_lt 0 left),
      )
    where
      no_more : (k : ℕ) → k ≤ 0 → k ≡ 0
      no_more k none = omega (arith, none)
  parallel_hears (o ∷ b ∷ more) (suc left) place c visit =
      let c1 : Counts = with_one o c in
      let others : Rule = parallel n left (place + 1) c1 in
      let given : Rule = parallel_after n (with_all c1 (b ∷ more)) (parallel_end n (with_all c1 (b ∷ more))) in (
        heard_of n left place c,
        first_is left place c o,
        subst (λ rule. Hears Parallel rule (heard_from (place + 1) (b ∷ more)) given)
            (sym (heard_here n left place c o ∙ going n c1 others (visit.goes_on 1 (omega arith) (omega arith))))
            (parallel_hears (b ∷ more) left (place + 1) c1
            (rest_of_visit (λ h. holds n (with_all c h)) (λ h. holds n (with_all c1 h)) left o b more (λ l. refl) visit)),
      )

-- ---- The row

-- the answer by three tests, and the rule by the same
by_tests : (won lost none : Bool) (c : Counts) (heard : List (Option Answer)) →
    cond won (over Success) (cond lost (over Failure) (cond none (over Skipped) (keeps_counts c heard Running)))
    ≡ keeps_counts c heard (cond won Success (cond lost Failure (cond none Skipped Running)))
by_tests true lost none c heard = refl
by_tests false true none c heard = refl
by_tests false false true c heard = refl
by_tests false false false c heard = refl

module _ (n : ℕ) (c : Counts) (unskipped : c.skipped ≡ 0) where
  all_tallied : (heard : List (Option Answer)) → with_all c heard ≡ tally c heard (skipped heard)
  all_tallied heard =
      all_is heard c ∙ same_numbers c (successes c heard) (successes c heard) (failures c heard) (failures c heard) (c.skipped + skipped heard) (skipped heard) refl refl (omega (arith, unskipped))

  stops_alike : (heard : List (Option Answer)) → holds n (with_all c heard) ≡ parallel_stops n c heard
  stops_alike heard = ap (holds n) (all_tallied heard)

  as_counted : (heard : List (Option Answer)) → IsVisit (λ h. parallel_stops n c h) n heard → IsVisit (λ h. holds n (with_all c h)) n heard
  as_counted heard visit = record {
    some = visit.some;
    within = visit.within;
    goes_on = λ k low below. stops_alike (take k heard) ∙ visit.goes_on k low below;
    ends = λ below. stops_alike heard ∙ visit.ends below;
  }

  end_row : (heard : List (Option Answer)) → parallel_after n (with_all c heard) (parallel_end n (with_all c heard)) ≡ keeps_counts c heard (parallel_answer n c heard)
  end_row heard =
      ap (λ (x : Counts). parallel_after n x (parallel_end n x)) (all_tallied heard)
      ∙ by_tests (has_succeeded c heard) (has_failed n c heard) (nat_eq (skipped heard) n) c heard

  pub parallel_row : (now picked : ℕ) (heard : List (Option Answer)) → IsVisit (λ h. parallel_stops n c h) n heard →
      Hears Parallel (rule Parallel n (Counted c) picked now) (heard_from 0 heard) (keeps_counts c heard (parallel_answer n c heard))
  parallel_row now picked heard visit =
      subst (λ given. Hears Parallel (parallel n n 0 c) (heard_from 0 heard) given) (end_row heard) (parallel_hears n heard n 0 c (as_counted heard visit))
