-- A RecoveryNode over one visit.
use Rattle.std.proofs.Common.{◌≡◌, ℕ, zero, suc, ◌+◌, ◌*◌, ◌<◌, Bool, true, false, not, cond, List, [], ◌∷◌, refl, sym, ap, subst, ◌∙◌, arith, ⊎_elim}
use Rattle.std.proofs.lemmas.Bool.{both_ways, cases_lt}
use Rattle.std.proofs.lemmas.List.Sums.{sum_by-cons}
use Rattle.std.specs.List.{count_by}
use Rattle.spec_run.specs.declared.memory.Memo.TheVariants.{Recoveries as Recovering}
use Rattle.spec_run.specs.declared.memory.Recoveries.{Recoveries}
use Rattle.spec_run.specs.declared.status.Answer.{Answer}
use Rattle.spec_run.specs.declared.status.Answer.TheVariants.{Failure, Running, Skipped, Success}
use Rattle.spec_tree.specs.declared.term.Kind.TheVariants.{RecoveryNode}
use Rattle.spec_run.specs.Rules.Answers.{same_answer}
use Rattle.spec_run.specs.Rules.Kinds.{rule}
use Rattle.spec_run.specs.Rules.Recoveries.{attempt, attempt_after, one_recovered, recover, recoveries_left, recovery_after, recovery_node}
use Rattle.spec_run.specs.Steps.{Rule, keep}
use Rattle.run_moves.specs.Decorators.Again.{last_answer}
use Rattle.run_moves.specs.Navigation.{answers_in_turn, ends_in_recovery, keeps_recoveries, recovery_answer, recovery_row, recovery_stops, turns_after_resets}
use Rattle.run_moves.specs.Visits.{Hears, IsVisit}
use Rattle.run_moves.proofs.Visits.{by_answer, rest_of_visit}

-- ---- The row of one more answer

abbrev successes : List Answer → ℕ
successes answers = count_by (λ (a : Answer). same_answer a Success) answers

-- an answer other than SUCCESS adds nothing to the recoveries, and SUCCESS adds one
none_more : (k : ℕ) (a : Answer) (more : List Answer) → same_answer a Success ≡ false → k + successes more ≡ k + successes (a ∷ more)
none_more k a more other =
    let added : ◌≡◌ {A = ℕ} (cond (same_answer a Success) 1 0) 0 = ap (λ (b : Bool). cond b 1 0) other in
    omega (arith, added, sum_by-cons (λ x. cond (same_answer x Success) 1 0) a more)

none_alone : (k : ℕ) (a : Answer) → same_answer a Success ≡ false → k ≡ k + successes (a ∷ [])
none_alone k a other =
    let added : ◌≡◌ {A = ℕ} (cond (same_answer a Success) 1 0) 0 = ap (λ (b : Bool). cond b 1 0) other in
    omega (arith, added, sum_by-cons (λ x. cond (same_answer x Success) 1 0) a [])

one_recovery : (k : ℕ) (more : List Answer) → k + 1 + successes more ≡ k + successes (Success ∷ more)
one_recovery k more = omega (arith, sum_by-cons (λ x. cond (same_answer x Success) 1 0) Success more)

-- what is kept is the same where as many recoveries are done
kept_alike : (r r1 : Recoveries) (hand : Bool) (l l1 : List Answer) (a : Answer) → r.limit ≡ r1.limit → r.done + successes l ≡ r1.done + successes l1 →
    keeps_recoveries r hand l a ≡ keeps_recoveries r1 hand l1 a
kept_alike r r1 hand l l1 Running limits same =
    ap (λ (k : ℕ). keep Running (Recovering (record { done = k; limit = r.limit; recovers = hand }))) same
    ∙ ap (λ (k : ℕ). keep Running (Recovering (record { done = r1.done + successes l1; limit = k; recovers = hand }))) limits
kept_alike r r1 hand l l1 Success limits same = refl
kept_alike r r1 hand l l1 Failure limits same = refl
kept_alike r r1 hand l l1 Skipped limits same = refl

-- after FAILURE of the first child the second is at hand
failed_row : (r : Recoveries) (b : Answer) (more : List Answer) → recovery_row r true (b ∷ more) ≡ recovery_row r false (Failure ∷ b ∷ more)
failed_row r b more =
    let hand : Bool = ends_in_recovery true (b ∷ more) in
    kept_alike r r hand (b ∷ more) (Failure ∷ b ∷ more) (recovery_answer hand (last_answer (b ∷ more))) refl (none_more r.done Failure (b ∷ more) refl)

-- after SUCCESS of the second child one recovery more is done, and the first is at hand
recovered_row : (r : Recoveries) (b : Answer) (more : List Answer) → recovery_row (one_recovered r) false (b ∷ more) ≡ recovery_row r true (Success ∷ b ∷ more)
recovered_row r b more =
    let hand : Bool = ends_in_recovery false (b ∷ more) in
    kept_alike (one_recovered r) r hand (b ∷ more) (Success ∷ b ∷ more) (recovery_answer hand (last_answer (b ∷ more))) refl (one_recovery r.done (b ∷ more))

-- ---- The visit

-- after the answer of the child at hand, the second or the first, with so many recoveries left behind it
abbrev after_hand : Bool → ℕ → Recoveries → Answer → Rule
after_hand false left r a = attempt_after r (recover left r) a
after_hand true left r a = recovery_after r (attempt (one_recovered r) (recover left (one_recovered r))) a

-- the visits of children that are left, with that of the child at hand
abbrev most_left : Bool → ℕ → ℕ
most_left false left = suc (2 * left)
most_left true left = suc (suc (2 * left))

-- after the last FAILURE of a visit no recovery is left
no_recovery : (left : ℕ) → IsVisit (λ l. recovery_stops false l) (suc (2 * left)) (Failure ∷ []) → left ≡ 0
no_recovery left visited = ⊎_elim
    (λ more. absurd (both_ways (recovery_stops false (Failure ∷ [])) refl (visited.ends (omega (arith, more)))))
    (λ none. omega (arith, none))
    (cases_lt 0 left)

-- a visit goes on after its first answer alone where more are heard
goes_on : (hand : Bool) (most : ℕ) (a b : Answer) (more : List Answer) → IsVisit (λ l. recovery_stops hand l) most (a ∷ b ∷ more) → recovery_stops hand (a ∷ []) ≡ true → ⊥
goes_on hand most a b more visited stopped = both_ways (recovery_stops hand (a ∷ [])) (visited.goes_on 1 (omega arith) (omega arith)) stopped

following : (more : List Answer) (a : Answer) (hand : Bool) (left : ℕ) (r : Recoveries) → IsVisit (λ l. recovery_stops hand l) (most_left hand left) (a ∷ more) →
    Hears RecoveryNode (after_hand hand left r a) (turns_after_resets (not hand) more) (recovery_row r hand (a ∷ more))
following [] Failure false left r visited = ap (λ (k : ℕ). recover k r) (no_recovery left visited)
following [] Running false left r visited = ap (λ (k : ℕ). keep Running (Recovering (record r { done = k; recovers = false }))) (none_alone r.done Running refl)
following [] Success false left r visited = refl
following [] Skipped false left r visited = refl
following [] Success true left r visited = absurd (both_ways (recovery_stops true (Success ∷ [])) refl (visited.ends (omega arith)))
following [] Running true left r visited = ap (λ (k : ℕ). keep Running (Recovering (record r { done = k; recovers = true }))) (none_alone r.done Running refl)
following [] Failure true left r visited = refl
following [] Skipped true left r visited = refl
following (b ∷ more) Failure false zero r visited = absurd (omega (arith, visited.within))
following (b ∷ more) Failure false (suc left) r visited =
    let three : suc (2 * suc left) ≡ suc (suc (suc (2 * left))) = omega arith in
    let all : IsVisit (λ l. recovery_stops false l) (suc (suc (suc (2 * left)))) (Failure ∷ b ∷ more) = subst (λ (k : ℕ). IsVisit (λ l. recovery_stops false l) k (Failure ∷ b ∷ more)) three visited in (
      by_answer (after_hand true left r),
      refl,
      subst (λ given. Hears RecoveryNode (after_hand true left r b) (turns_after_resets false more) given) (failed_row r b more)
          (following more b true left r (rest_of_visit (λ l. recovery_stops false l) (λ l. recovery_stops true l) (suc (suc (2 * left))) Failure b more (λ l. refl) all)),
    )
following (b ∷ more) Success false left r visited = absurd (goes_on false (suc (2 * left)) Success b more visited refl)
following (b ∷ more) Running false left r visited = absurd (goes_on false (suc (2 * left)) Running b more visited refl)
following (b ∷ more) Skipped false left r visited = absurd (goes_on false (suc (2 * left)) Skipped b more visited refl)
following (b ∷ more) Success true left r visited = (
  by_answer (after_hand false left (one_recovered r)),
  refl,
  subst (λ given. Hears RecoveryNode (after_hand false left (one_recovered r) b) (turns_after_resets true more) given) (recovered_row r b more)
      (following more b false left (one_recovered r) (rest_of_visit (λ l. recovery_stops true l) (λ l. recovery_stops false l) (suc (2 * left)) Success b more (λ l. refl) visited)),
)
following (b ∷ more) Failure true left r visited = absurd (goes_on true (suc (suc (2 * left))) Failure b more visited refl)
following (b ∷ more) Running true left r visited = absurd (goes_on true (suc (suc (2 * left))) Running b more visited refl)
following (b ∷ more) Skipped true left r visited = absurd (goes_on true (suc (suc (2 * left))) Skipped b more visited refl)

-- ---- Either child at hand

pub attempt_hears : (now picked : ℕ) (r : Recoveries) (answers : List Answer) → r.recovers ≡ false → IsVisit (λ l. recovery_stops false l) (2 * recoveries_left r + 1) answers →
    Hears RecoveryNode (rule RecoveryNode 2 (Recovering r) picked now) (answers_in_turn false answers) (recovery_row r false answers)
attempt_hears now picked r [] first visited = absurd (omega (arith, visited.some))
attempt_hears now picked r (a ∷ more) first visited =
    let left : ℕ = recoveries_left r in
    let all : IsVisit (λ l. recovery_stops false l) (suc (2 * left)) (a ∷ more) = subst (λ (k : ℕ). IsVisit (λ l. recovery_stops false l) k (a ∷ more)) (omega arith) visited in
    subst (λ (hand : Bool). Hears RecoveryNode (recovery_node hand r) (answers_in_turn false (a ∷ more)) (recovery_row r false (a ∷ more))) (sym first)
    (by_answer (after_hand false left r), refl, following more a false left r all)

pub recovery_hears : (now picked : ℕ) (r : Recoveries) (answers : List Answer) → r.recovers ≡ true → r.done < r.limit → IsVisit (λ l. recovery_stops true l) (2 * recoveries_left r) answers →
    Hears RecoveryNode (rule RecoveryNode 2 (Recovering r) picked now) (answers_in_turn true answers) (recovery_row r true answers)
recovery_hears now picked r [] second below visited = absurd (omega (arith, visited.some))
recovery_hears now picked r (a ∷ more) second below visited =
    let left : ℕ = recoveries_left (one_recovered r) in
    let both : 2 * recoveries_left r ≡ suc (suc (2 * left)) = omega (arith, below) in
    let all : IsVisit (λ l. recovery_stops true l) (suc (suc (2 * left))) (a ∷ more) = subst (λ (k : ℕ). IsVisit (λ l. recovery_stops true l) k (a ∷ more)) both visited in
    subst (λ (hand : Bool). Hears RecoveryNode (recovery_node hand r) (answers_in_turn true (a ∷ more)) (recovery_row r true (a ∷ more))) (sym second)
    (by_answer (after_hand true left r), refl, following more a true left r all)
