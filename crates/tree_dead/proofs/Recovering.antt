-- RecoveryNode.
use Rattle.std.proofs.Common.{◌≡◌, ℕ, zero, suc, ◌≤◌, List, Bool, true, false, ◌&&◌, not, Option, refl, arith}
use Rattle.std.specs.Prelude.{codes}
use Rattle.std.proofs.lemmas.Bool.{and_from, and_parts}
use Rattle.spec_run.specs.declared.memory.Memo.TheVariants.{Recoveries as Recovered}
use Rattle.spec_run.specs.declared.memory.Recoveries.{Recoveries}
use Rattle.spec_run.specs.declared.moves.Span.TheVariants as span
use Rattle.spec_run.specs.declared.status.Answer.{Answer}
use Rattle.spec_run.specs.declared.status.Answer.TheVariants as answer
use Rattle.spec_tree.specs.declared.term.Kind.TheVariants.{RecoveryNode}
use Rattle.spec_tree.specs.declared.term.Port.{Port}
use Rattle.spec_tree.specs.declared.term.PortValue.{PortValue}
use Rattle.spec_world.specs.declared.world.Row.{Row}
use Rattle.spec_run.specs.Rules.Recoveries.{attempt, attempt_after, attempt_on, one_recovered, recover, recoveries_left, recovery_after, recovery_node}
use Rattle.spec_run.specs.Steps.{Rule, over, visit}
use Rattle.spec_dead.specs.declared.answers.Answers.{Answers}
use Rattle.spec_dead.specs.Answers.{only, only_if}
use Rattle.spec_dead.specs.Reached.{answers_at, given, is_zero, may_recover, recovery_reached}
use Rattle.spec_dead.specs.Rules.{recovery_answers}
use Rattle.tree_dead.proofs.Fits.{IsLength, Recovers}
use Rattle.tree_dead.proofs.Rounds.{Gives}
use Rattle.tree_dead.proofs.Sets.{Has, either_left, either_right, if_so}
use Rattle.tree_dead.proofs.Words.{Children, Goes, answers_here, keep_goes, over_goes, reset_goes, visit_goes}

module _ (is_dead : ℕ → Bool) (rows : List Row) (n : Children is_dead rows) (ports : List Port) where
  abbrev all : List Answers
  all = answers_here is_dead rows n

  abbrev first : Answers
  first = answers_at all 0

  abbrev second : Answers
  second = answers_at all 1

  abbrev limit_given : Option PortValue
  limit_given = given ports (codes "number_of_retries")

  abbrev Fit : Rule → Type 0
  Fit rule = Goes is_dead rows n (Gives RecoveryNode ports all) rule

  abbrev running_second : Answers
  running_second = only_if (may_recover ports first && second.running) (only answer.Running)

  -- what the first child may answer, and RUNNING of the second where that is reached
  first_in : (a : Answer) → Has a first → Has a (recovery_answers ports first second)
  first_in a has = either_left a first running_second has

  second_in : may_recover ports first ≡ true → Has answer.Running second → Has answer.Running (recovery_answers ports first second)
  second_in may has = either_right answer.Running first running_second (if_so answer.Running (may_recover ports first && second.running) (only answer.Running) (and_from (may_recover ports first) second.running may has) refl)

  -- the first child may fail where the second is reached
  may_fail : may_recover ports first ≡ true → Has answer.Failure first
  may_fail may = (and_parts first.failure (not (is_zero limit_given)) may).0

  -- the second child is reached where the first may fail and a recovery is left
  may_now : (left limit : ℕ) → suc left ≤ limit → IsLength limit_given limit → Has answer.Failure first → may_recover ports first ≡ true
  may_now left limit some length has = and_from first.failure (not (is_zero limit_given)) has (by (is_zero limit_given) length)
    where
      by : (b : Bool) → (b ≡ true → limit ≡ 0) → not b ≡ true
      by true none = absurd (omega (arith, some, none refl))
      by false none = refl

  module _ (comes : (place : ℕ) → recovery_reached ports first place ≡ true → n.visits place ≡ true) where
    fails : Has answer.Failure first → Fit (over answer.Failure)
    fails has = over_goes is_dead rows n (Gives RecoveryNode ports all) answer.Failure (first_in answer.Failure has, tt)

    -- after an answer of the first child, with what is done where it is FAILURE
    attempted : (r : Recoveries) (failed : Rule) (a : Answer) → IsLength limit_given r.limit → Has a first → (Has answer.Failure first → Fit failed) → Fit (attempt_after r failed a)
    attempted r failed answer.Failure length has goes = goes has
    attempted r failed answer.Running length has goes =
        keep_goes is_dead rows n (Gives RecoveryNode ports all) answer.Running (Recovered (record r { recovers = false })) (first_in answer.Running has, record { limit = length; recovers = λ e. cc })
    attempted r failed answer.Success length has goes = over_goes is_dead rows n (Gives RecoveryNode ports all) answer.Success (first_in answer.Success has, tt)
    attempted r failed answer.Skipped length has goes = over_goes is_dead rows n (Gives RecoveryNode ports all) answer.Skipped (first_in answer.Skipped has, tt)

    attempt_fits : (r : Recoveries) (failed : Rule) → IsLength limit_given r.limit → (Has answer.Failure first → Fit failed) → Fit (attempt r failed)
    attempt_fits r failed length goes = visit_goes is_dead rows n (Gives RecoveryNode ports all) 0 (λ a. attempt_after r failed a) (comes 0 refl) (λ a has. attempted r failed a length has goes)

    -- after an answer of the second child, with what is done where it has helped
    helped : (r : Recoveries) (again : Rule) (a : Answer) → IsLength limit_given r.limit → may_recover ports first ≡ true → Has a second → Fit again → Fit (recovery_after r again a)
    helped r again answer.Success length may has goes = reset_goes is_dead rows n (Gives RecoveryNode ports all) (span.One 1) again goes
    helped r again answer.Running length may has goes =
        keep_goes is_dead rows n (Gives RecoveryNode ports all) answer.Running (Recovered (record r { recovers = true })) (second_in may has, record { limit = length; recovers = λ e. may })
    helped r again answer.Failure length may has goes = fails (may_fail may)
    helped r again answer.Skipped length may has goes = fails (may_fail may)

    recover_fits : (left : ℕ) (r : Recoveries) → left ≤ r.limit → IsLength limit_given r.limit → Has answer.Failure first → Fit (recover left r)
    recover_fits zero r few length has = fails has
    recover_fits (suc left) r few length has =
        let may : may_recover ports first ≡ true = may_now left r.limit few length has in
        let again : Rule = attempt (one_recovered r) (recover left (one_recovered r)) in
        reset_goes is_dead rows n (Gives RecoveryNode ports all) (span.One 0) (visit 1 (λ a. recovery_after r again a))
        (visit_goes is_dead rows n (Gives RecoveryNode ports all) 1 (λ a. recovery_after r again a) (comes 1 may)
        (λ a is. helped r again a length may is
        (attempt_fits (one_recovered r) (recover left (one_recovered r)) length (λ failed. recover_fits left (one_recovered r) (omega (arith, few)) length failed))))

    attempt_on_fits : (r : Recoveries) → IsLength limit_given r.limit → Fit (attempt_on r)
    attempt_on_fits r length = attempt_fits r (recover (recoveries_left r) r) length (λ failed. recover_fits (recoveries_left r) r (omega arith) length failed)

    node_fits : (recovers : Bool) (r : Recoveries) → r.recovers ≡ recovers → Recovers ports all r → Fit (recovery_node recovers r)
    node_fits false r e is = attempt_on_fits r is.limit
    node_fits true r e is =
        let again : Rule = attempt_on (one_recovered r) in
        visit_goes is_dead rows n (Gives RecoveryNode ports all) 1 (λ a. recovery_after r again a) (comes 1 (is.recovers e))
        (λ a has. helped r again a is.limit (is.recovers e) has (attempt_on_fits (one_recovered r) is.limit))

    pub recovery_fits : (r : Recoveries) → Recovers ports all r → Fit (recovery_node r.recovers r)
    recovery_fits r is = node_fits r.recovers r refl is
