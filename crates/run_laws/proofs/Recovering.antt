-- RecoveryNode keeps the rules.
use Rattle.std.proofs.Common.{◌≡◌, ℕ, zero, suc, ◌+◌, ◌-◌, List, Bool, true, false, if◌then◌else◌, refl, ◌∙◌, arith}
use Rattle.spec_run.specs.declared.memory.Memo.TheVariants.{Recoveries as Recovering}
use Rattle.spec_run.specs.declared.memory.Recoveries.{Recoveries}
use Rattle.spec_run.specs.declared.moves.Span.TheVariants as span
use Rattle.spec_run.specs.declared.status.Answer.{Answer}
use Rattle.spec_run.specs.declared.status.Answer.TheVariants as answer
use Rattle.spec_run.specs.declared.status.Status.{Status}
use Rattle.spec_tree.specs.declared.term.Kind.TheVariants.{RecoveryNode}
use Rattle.spec_run.specs.Rules.Recoveries.{attempt, attempt_after, attempt_on, one_recovered, recover, recoveries_left, recovery_after, recovery_node}
use Rattle.base_tables.specs.Moves.{place_at_hand}
use Rattle.base_tables.specs.Shapes.{IsRecovering}
use Rattle.spec_run.specs.Steps.{Rule, visit}
use Rattle.spec_run.specs.Visit.{status_of}
use Rattle.run_laws.proofs.Acts.{Changed, others}
use Rattle.run_laws.proofs.Choices.{OthersIdle, released, runs_alone}
use Rattle.run_laws.proofs.Nodes.{Goes, Node, is_over, keeps, passes_on, resets_first, visits}

-- where only one child may be other than IDLE, so it is after an answer of this child
pub others_stay : (place : ℕ) (a : Answer) (ss ss1 : List Status) → OthersIdle place ss → Changed place (status_of a) ss ss1 → OthersIdle place ss1
others_stay place a ss ss1 idle changed = λ k other. others changed k other ∙ idle k other

module _ (n : Node) where
  abbrev Is : Recoveries → Type 0
  Is r = IsRecovering r n.ports

  -- the first child is at hand
  at_first : (r : Recoveries) → Is r → Is (record r { recovers = false })
  at_first r is = record { limit = is.limit; within = is.within; goes_on = λ e. cc }

  -- the second one is, and a recovery is left
  at_second : (r : Recoveries) (left : ℕ) → r.done + suc left ≡ r.limit → Is r → Is (record r { recovers = true })
  at_second r left sums is = record { limit = is.limit; within = is.within; goes_on = λ e. omega (arith, sums) }

  -- one more recovery is done
  recovered : (r : Recoveries) (left : ℕ) → r.done + suc left ≡ r.limit → Is r → Is (one_recovered r)
  recovered r left sums is = record { limit = is.limit; within = omega (arith, sums); goes_on = λ e. cc }

  -- after an answer of the first child, with what is done where it is FAILURE
  attempted : (r : Recoveries) (failed : Rule) (a : Answer) (ss ss1 : List Status) → Is r → OthersIdle 0 ss → Changed 0 (status_of a) ss ss1 → Goes n RecoveryNode ss1 failed →
      Goes n RecoveryNode ss1 (attempt_after r failed a)
  attempted r failed answer.Failure ss ss1 is idle changed goes = goes
  attempted r failed answer.Running ss ss1 is idle changed goes =
      passes_on n RecoveryNode (Recovering (record r { recovers = false })) answer.Running ss1 (λ runs. (at_first r is, runs_alone 0 answer.Running ss ss1 idle changed runs))
  attempted r failed answer.Success ss ss1 is idle changed goes = is_over n RecoveryNode answer.Success ss1 refl
  attempted r failed answer.Skipped ss ss1 is idle changed goes = is_over n RecoveryNode answer.Skipped ss1 refl

  attempt_goes : (r : Recoveries) (failed : Rule) (ss : List Status) → Is r → OthersIdle 0 ss → ((ss1 : List Status) → OthersIdle 0 ss1 → Goes n RecoveryNode ss1 failed) → Goes n RecoveryNode ss (attempt r failed)
  attempt_goes r failed ss is idle goes =
      visits n RecoveryNode 0 (λ a. attempt_after r failed a) ss
      (λ a ss1 changed. attempted r failed a ss ss1 is idle changed (goes ss1 (others_stay 0 a ss ss1 idle changed)))

  -- after an answer of the second child, with what is done where it has helped
  helped : (r : Recoveries) (left : ℕ) (again : Rule) (a : Answer) (ss ss1 : List Status) → r.done + suc left ≡ r.limit → Is r → OthersIdle 1 ss → Changed 1 (status_of a) ss ss1 →
      ((ss2 : List Status) → OthersIdle 0 ss2 → Goes n RecoveryNode ss2 again) → Goes n RecoveryNode ss1 (recovery_after r again a)
  helped r left again answer.Success ss ss1 sums is idle changed goes =
      resets_first n RecoveryNode (span.One 1) again ss1
      (λ ss2 rested. goes ss2 (λ k other. released 1 ss1 ss2 (others_stay 1 answer.Success ss ss1 idle changed) rested k (omega arith)))
  helped r left again answer.Running ss ss1 sums is idle changed goes =
      keeps n RecoveryNode answer.Running (Recovering (record r { recovers = true })) ss1 (at_second r left sums is, runs_alone 1 answer.Running ss ss1 idle changed refl)
  helped r left again answer.Failure ss ss1 sums is idle changed goes = is_over n RecoveryNode answer.Failure ss1 refl
  helped r left again answer.Skipped ss ss1 sums is idle changed goes = is_over n RecoveryNode answer.Failure ss1 refl

  recover_goes : (left : ℕ) (r : Recoveries) (ss : List Status) → r.done + left ≡ r.limit → Is r → OthersIdle 0 ss → Goes n RecoveryNode ss (recover left r)
  recover_goes zero r ss sums is idle = is_over n RecoveryNode answer.Failure ss refl
  recover_goes (suc left) r ss sums is idle =
      let again : Rule = attempt (one_recovered r) (recover left (one_recovered r)) in
      resets_first n RecoveryNode (span.One 0) (visit 1 (λ a. recovery_after r again a)) ss
      (λ ss1 rested. let idle1 : OthersIdle 1 ss1 = λ k other. released 0 ss ss1 idle rested k (omega arith) in
      visits n RecoveryNode 1 (λ a. recovery_after r again a) ss1
      (λ a ss2 changed. helped r left again a ss1 ss2 sums is idle1 changed
      (λ ss3 idle3. attempt_goes (one_recovered r) (recover left (one_recovered r)) ss3 (recovered r left sums is) idle3
      (λ ss4 idle4. recover_goes left (one_recovered r) ss4 (omega (arith, sums)) (recovered r left sums is) idle4))))

  attempt_on_goes : (r : Recoveries) (ss : List Status) → Is r → OthersIdle 0 ss → Goes n RecoveryNode ss (attempt_on r)
  attempt_on_goes r ss is idle =
      attempt_goes r (recover (recoveries_left r) r) ss is idle (λ ss1 idle1. recover_goes (recoveries_left r) r ss1 (omega (arith, is.within)) is idle1)

  node_goes : (recovers : Bool) (r : Recoveries) (ss : List Status) → r.recovers ≡ recovers → Is r → OthersIdle (if recovers then 1 else 0) ss → Goes n RecoveryNode ss (recovery_node recovers r)
  node_goes false r ss e is idle = attempt_on_goes r ss is idle
  node_goes true r ss e is idle =
      let left : ℕ = r.limit - (r.done + 1) in
      let sums : r.done + suc left ≡ r.limit = omega (arith, is.goes_on e) in
      visits n RecoveryNode 1 (λ a. recovery_after r (attempt_on (one_recovered r)) a) ss
      (λ a ss1 changed. helped r left (attempt_on (one_recovered r)) a ss ss1 sums is idle changed (λ ss2 idle2. attempt_on_goes (one_recovered r) ss2 (recovered r left sums is) idle2))

  -- a RecoveryNode whose other child is IDLE
  pub recovery_goes : (r : Recoveries) (ss : List Status) → Is r → OthersIdle (place_at_hand r) ss → Goes n RecoveryNode ss (recovery_node r.recovers r)
  recovery_goes r ss is idle = node_goes r.recovers r ss refl is idle
