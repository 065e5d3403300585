-- A Parallel keeps the rules.
use Rattle.std.proofs.Common.{◌≡◌, ℕ, zero, suc, ◌+◌, ◌≤◌, List, length, Bool, false, ◌&&◌, cond, count_by, nat_eq, nat_le, refl, sym, ap, subst, ◌∙◌, arith}
use Rattle.std.proofs.lemmas.Bool.{and_right, cond_both, leb-false, lt-leb, or_from, or_parts}
use Rattle.spec_run.specs.declared.memory.Counts.{Counts}
use Rattle.spec_run.specs.declared.memory.Memo.TheVariants.{Counts as Counted}
use Rattle.spec_run.specs.declared.status.Answer.{Answer}
use Rattle.spec_run.specs.declared.status.Answer.TheVariants as answer
use Rattle.spec_run.specs.declared.status.Status.{Status}
use Rattle.spec_run.specs.declared.status.Status.TheVariants as status
use Rattle.spec_tree.specs.declared.term.Kind.TheVariants.{Parallel}
use Rattle.spec_run.specs.Rules.Parallels.{counted, failure_holds, parallel, parallel_after, parallel_end, success_holds}
use Rattle.base_tables.specs.Shapes.{IsCounted, is_failure, is_success, status_at}
use Rattle.spec_run.specs.Steps.{Rule, is_completed, keep, over}
use Rattle.spec_run.specs.Visit.{status_of}
use Rattle.run_laws.proofs.Acts.{Changed, counts, same_number}
use Rattle.run_laws.proofs.Nodes.{Goes, Node, is_over, keeps, visits, visits_or_passes}

-- both thresholds are in range, and the counts are those of the children
record Tallied (c : Counts) (ss : List Status) : Type 0 where
  need : (1 ≤ c.need) × (c.need ≤ length ss)
  most : (1 ≤ c.most) × (c.most ≤ length ss)
  successes : c.successes ≡ count_by is_success ss
  failures : c.failures ≡ count_by is_failure ss

-- with this many children, no threshold is reached
abbrev GoesOn : ℕ → Counts → Type 0
GoesOn children c = (success_holds c ≡ false) × (failure_holds children c ≡ false)

not_success : (st : Status) → is_completed st ≡ false → is_success st ≡ false
not_success status.Idle e = refl
not_success status.Running e = refl
not_success status.Success e = cc
not_success status.Failure e = refl

not_failure : (st : Status) → is_completed st ≡ false → is_failure st ≡ false
not_failure status.Idle e = refl
not_failure status.Running e = refl
not_failure status.Success e = refl
not_failure status.Failure e = cc

-- if success does not hold with the skipped children, it does not hold without them
unskipped : (c : Counts) → success_holds c ≡ false → success_holds (record c { skipped = 0 }) ≡ false
unskipped c none =
    let short : nat_le c.need c.successes ≡ false = (or_parts (nat_le c.need c.successes) (c.skips && nat_le c.need (c.successes + c.skipped)) none).0 in
    or_from (nat_le c.need c.successes) (c.skips && nat_le c.need (c.successes + 0)) short
    (and_right c.skips (nat_le c.need (c.successes + 0)) (lt-leb c.need (c.successes + 0) (omega (arith, leb-false c.need c.successes short))))

-- a child that had not completed has answered
module _ (place : ℕ) (c : Counts) (ss ss1 : List Status) (tallied : Tallied c ss) (fresh : is_completed (status_at ss place) ≡ false) where
  passing : (p : Status → Bool) (st : Status) → p (status_at ss place) ≡ false → Changed place st ss ss1 → count_by p ss1 ≡ count_by p ss + cond (p st) 1 0
  passing p st none changed =
      let one : Bool → ℕ = λ b. cond b 1 0 in
      let at_first : one (p (status_at ss place)) ≡ 0 = ap one none in
      omega (arith, counts changed p, at_first)

  succeeding : (st : Status) → Changed place st ss ss1 → count_by is_success ss1 ≡ c.successes + cond (is_success st) 1 0
  succeeding st changed = passing is_success st (not_success (status_at ss place) fresh) changed ∙ ap (λ k. k + cond (is_success st) 1 0) (sym tallied.successes)

  failing : (st : Status) → Changed place st ss ss1 → count_by is_failure ss1 ≡ c.failures + cond (is_failure st) 1 0
  failing st changed = passing is_failure st (not_failure (status_at ss place) fresh) changed ∙ ap (λ k. k + cond (is_failure st) 1 0) (sym tallied.failures)

  tallied_with : (a : Answer) → Changed place (status_of a) ss ss1 → Tallied (counted a c) ss1
  tallied_with answer.Running changed = record {
    need = (tallied.need.0, omega (arith, tallied.need.1, same_number changed));
    most = (tallied.most.0, omega (arith, tallied.most.1, same_number changed));
    successes = omega (arith, succeeding status.Running changed);
    failures = omega (arith, failing status.Running changed);
  }
  tallied_with answer.Success changed = record {
    need = (tallied.need.0, omega (arith, tallied.need.1, same_number changed));
    most = (tallied.most.0, omega (arith, tallied.most.1, same_number changed));
    successes = sym (succeeding status.Success changed);
    failures = omega (arith, failing status.Success changed);
  }
  tallied_with answer.Failure changed = record {
    need = (tallied.need.0, omega (arith, tallied.need.1, same_number changed));
    most = (tallied.most.0, omega (arith, tallied.most.1, same_number changed));
    successes = omega (arith, succeeding status.Failure changed);
    failures = sym (failing status.Failure changed);
  }
  tallied_with answer.Skipped changed = record {
    need = (tallied.need.0, omega (arith, tallied.need.1, same_number changed));
    most = (tallied.most.0, omega (arith, tallied.most.1, same_number changed));
    successes = omega (arith, succeeding status.Idle changed);
    failures = omega (arith, failing status.Idle changed);
  }

module _ (n : Node) (children : ℕ) where
  -- after a child the node has ended, or the next children are visited
  after_goes : (c : Counts) (others : Rule) (ss : List Status) → (GoesOn children c → Goes n Parallel ss others) → Goes n Parallel ss (parallel_after children c others)
  after_goes c others ss goes =
      cond_both (success_holds c) (over answer.Success) (cond (failure_holds children c) (over answer.Failure) others) (λ rule. Goes n Parallel ss rule)
      (λ _. is_over n Parallel answer.Success ss refl)
      (λ not_won. cond_both (failure_holds children c) (over answer.Failure) others (λ rule. Goes n Parallel ss rule)
      (λ _. is_over n Parallel answer.Failure ss refl)
      (λ not_lost. goes (not_won, not_lost)))

  end_goes : (c : Counts) (ss : List Status) → children ≡ length ss → Tallied c ss → GoesOn children c → Goes n Parallel ss (parallel_end children c)
  end_goes c ss all tallied goes_on =
      cond_both (nat_eq c.skipped children) (over answer.Skipped) (keep answer.Running (Counted (record c { skipped = 0 }))) (λ rule. Goes n Parallel ss rule)
      (λ _. is_over n Parallel answer.Skipped ss refl)
      (λ _. keeps n Parallel answer.Running (Counted (record c { skipped = 0 })) ss (record {
        need = tallied.need;
        most = tallied.most;
        successes = tallied.successes;
        failures = tallied.failures;
        skipped = refl;
        goes_on = (unskipped c goes_on.0, subst (λ (k : ℕ). failure_holds k c ≡ false) all goes_on.1);
      }))

  round_goes : (left place : ℕ) (c : Counts) (ss : List Status) → children ≡ length ss → Tallied c ss → GoesOn children c → Goes n Parallel ss (parallel children left place c)
  round_goes zero place c ss all tallied goes_on = end_goes c ss all tallied goes_on
  round_goes (suc left) place c ss all tallied goes_on =
      let go : Answer → Rule = λ a. parallel_after children (counted a c) (parallel children left (place + 1) (counted a c)) in
      visits_or_passes n Parallel place (parallel_after children c (parallel children left (place + 1) c)) go ss
      (λ _. after_goes c (parallel children left (place + 1) c) ss (λ goes_on1. round_goes left (place + 1) c ss all tallied goes_on1))
      (λ fresh. visits n Parallel place go ss
      (λ a ss1 changed. after_goes (counted a c) (parallel children left (place + 1) (counted a c)) ss1
      (λ goes_on1. round_goes left (place + 1) (counted a c) ss1 (all ∙ sym (same_number changed)) (tallied_with place c ss ss1 tallied fresh a changed) goes_on1)))

pub parallel_goes : (n : Node) (c : Counts) (ss : List Status) → IsCounted c ss → Goes n Parallel ss (parallel (length ss) (length ss) 0 c)
parallel_goes n c ss is =
    round_goes n (length ss) (length ss) 0 c ss refl (record { need = is.need; most = is.most; successes = is.successes; failures = is.failures }) is.goes_on
