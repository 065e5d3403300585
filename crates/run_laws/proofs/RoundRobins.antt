-- RoundRobin keeps the rules.
use Rattle.std.proofs.Common.{◌≡◌, ℕ, zero, suc, ◌+◌, ◌-◌, ◌<◌, ◌≤◌, List, length, false, if◌then◌else◌, nat_eq, nat_lt, refl, sym, subst, ◌∙◌, arith, ⊎_elim}
use Rattle.std.proofs.lemmas.Bool.{cases_lt, cond_both, ltb-true}
use Rattle.std.proofs.lemmas.List.{get_or_past}
use Rattle.spec_run.specs.declared.memory.Memo.TheVariants.{Rotation as Rotating}
use Rattle.spec_run.specs.declared.memory.Rotation.{Rotation}
use Rattle.spec_run.specs.declared.moves.Span.TheVariants as span
use Rattle.spec_run.specs.declared.status.Answer.{Answer}
use Rattle.spec_run.specs.declared.status.Answer.TheVariants as answer
use Rattle.spec_run.specs.declared.status.Status.{Status}
use Rattle.spec_run.specs.declared.status.Status.TheVariants as status
use Rattle.spec_tree.specs.declared.term.Kind.TheVariants.{RoundRobin}
use Rattle.spec_run.specs.Rules.RoundRobins.{next_of, passed_by, robin_after, robin_end, robin_on, rotation_at, round_robin, skipped_by}
use Rattle.base_tables.specs.Shapes.{IsRotating, is_running, status_at}
use Rattle.spec_run.specs.Steps.{Rule, keep, visit}
use Rattle.spec_run.specs.Visit.{status_of}
use Rattle.run_laws.proofs.Acts.{Changed, same_number}
use Rattle.run_laws.proofs.Choices.{OthersIdle, released, runs_alone}
use Rattle.run_laws.proofs.Nodes.{Goes, Node, is_over, keeps, resets_first, visits}
use Rattle.run_laws.proofs.Recovering.{others_stay}

-- a child that is other than IDLE is there
is_there : (ss : List Status) (place : ℕ) (st : Status) → status_at ss place ≡ st → (st ≡ status.Idle → ⊥) → place < length ss
is_there ss place st is other = ⊎_elim (λ within. within) (λ past. absurd (other (sym is ∙ get_or_past ss place status.Idle past))) (cases_lt place (length ss))

pub next_there : (n place : ℕ) → place < n → next_of n place < n
next_there n place there = cond_both (nat_lt (place + 1) n) (place + 1) 0 (λ (next : ℕ). next < n) (λ e. ltb-true (place + 1) n e) (λ _. omega (arith, there))

skipped_most : (a : Answer) → skipped_by a ≤ 1
skipped_most answer.Running = omega arith
skipped_most answer.Success = omega arith
skipped_most answer.Failure = omega arith
skipped_most answer.Skipped = omega arith

-- one more child has failed or was skipped, and some are left
passed_rotates : (n : ℕ) (a : Answer) (r : Rotation) → r.passed + 1 < n → IsRotating r n → IsRotating (passed_by n a r) n
passed_rotates n a r left is = record { at = next_there n r.at is.at; passed = left; skipped = omega (arith, is.skipped, skipped_most a) }

module _ (n : Node) (children : ℕ) where
  -- the rotation is one of these children, where there are any
  abbrev Is : Rotation → Type 0
  Is r = 1 ≤ children → IsRotating r children

  ends : (r : Rotation) (ss : List Status) → Goes n RoundRobin ss (robin_end children r)
  ends r ss =
      is_over n RoundRobin (if nat_eq r.skipped children then answer.Skipped else answer.Failure) ss
      (cond_both (nat_eq r.skipped children) answer.Skipped answer.Failure (λ a. is_running (status_of a) ≡ false) (λ _. refl) (λ _. refl))

  -- after an answer of the child at hand, with what is done where it has failed or was skipped
  after_goes : (r : Rotation) (others : Rule) (a : Answer) (ss ss1 : List Status) → children ≡ length ss1 → Is r → OthersIdle r.at ss → Changed r.at (status_of a) ss ss1 → Goes n RoundRobin ss1 others →
      Goes n RoundRobin ss1 (robin_after children r others a)
  after_goes r others answer.Running ss ss1 all is idle changed goes =
      let there : r.at < length ss1 = is_there ss1 r.at status.Running changed.here (λ e. cc) in
      let rotating : IsRotating r (length ss1) = subst (λ (k : ℕ). IsRotating r k) all (is (omega (arith, all, there))) in
      keeps n RoundRobin answer.Running (Rotating r) ss1 (rotating, runs_alone r.at answer.Running ss ss1 idle changed refl)
  after_goes r others answer.Success ss ss1 all is idle changed goes =
      let there : r.at < length ss1 = is_there ss1 r.at status.Success changed.here (λ e. cc) in
      resets_first n RoundRobin span.All (keep answer.Success (Rotating (rotation_at (next_of children r.at)))) ss1
      (λ ss2 rested. keeps n RoundRobin answer.Success (Rotating (rotation_at (next_of children r.at))) ss2
      (omega (arith, next_there children r.at (omega (arith, all, there)), all, rested.as_many), refl, λ k from. rested.away k refl))
  after_goes r others answer.Failure ss ss1 all is idle changed goes = goes
  after_goes r others answer.Skipped ss ss1 all is idle changed goes = goes

  -- the child at hand has failed or was skipped, and so many children are left
  on_goes : (left : ℕ) (r : Rotation) (a : Answer) (ss : List Status) → children ≡ length ss → left ≤ children - (r.passed + 1) → Is r → OthersIdle r.at ss → Goes n RoundRobin ss (robin_on children left r a)
  on_goes zero r a ss all sums is idle = ends (passed_by children a r) ss
  on_goes (suc left) r a ss all sums is idle =
      let next : Rotation = passed_by children a r in
      let is_next : Is next = λ some. passed_rotates children a r (omega (arith, sums)) (is some) in
      resets_first n RoundRobin (span.One r.at) (visit next.at (λ b. robin_after children next (robin_on children left next b) b)) ss
      (λ ss1 rested. let idle1 : OthersIdle next.at ss1 = λ k other. released r.at ss ss1 idle rested k (omega arith) in
      visits n RoundRobin next.at (λ b. robin_after children next (robin_on children left next b) b) ss1
      (λ b ss2 changed. let all2 : children ≡ length ss2 = all ∙ sym rested.as_many ∙ sym (same_number changed) in
      after_goes next (robin_on children left next b) b ss1 ss2 all2 is_next idle1 changed
      (on_goes left next b ss2 all2 (omega (arith, sums)) is_next (others_stay next.at b ss1 ss2 idle1 changed))))

  -- a RoundRobin whose other children are IDLE
  pub robin_goes : (r : Rotation) (ss : List Status) → children ≡ length ss → Is r → OthersIdle r.at ss → Goes n RoundRobin ss (round_robin children r)
  robin_goes r ss all is idle =
      visits n RoundRobin r.at (λ a. robin_after children r (robin_on children (children - (r.passed + 1)) r a) a) ss
      (λ a ss1 changed. let all1 : children ≡ length ss1 = all ∙ sym (same_number changed) in
      after_goes r (robin_on children (children - (r.passed + 1)) r a) a ss ss1 all1 is idle changed
      (on_goes (children - (r.passed + 1)) r a ss1 all1 (omega arith) is (others_stay r.at a ss ss1 idle changed)))
