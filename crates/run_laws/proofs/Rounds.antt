-- The Sequence and Fallback kinds keep the rules.
use Rattle.std.proofs.Common.{◌≡◌, ℕ, zero, suc, ◌+◌, ◌<◌, List, length, Bool, true, false, ◌||◌, not, refl, sym, ap, ◌∙◌, arith, ⊎_elim}
use Rattle.std.proofs.lemmas.Bool.{cases_eq, cases_lt, cond_both, eq-eqb, le-leb, lt-leb, ne_eqb}
use Rattle.std.proofs.lemmas.List.{get_or_past}
use Rattle.spec_run.specs.declared.memory.Memo.TheVariants.{Index}
use Rattle.spec_run.specs.declared.moves.Span.TheVariants as span
use Rattle.spec_run.specs.declared.status.Answer.{Answer}
use Rattle.spec_run.specs.declared.status.Answer.TheVariants as answer
use Rattle.spec_run.specs.declared.status.RoundEnd.{RoundEnd}
use Rattle.spec_run.specs.declared.status.RoundEnd.TheVariants.{AtChild, AfterLast}
use Rattle.spec_run.specs.declared.status.Status.{Status}
use Rattle.spec_run.specs.declared.status.Status.TheVariants as status
use Rattle.spec_tree.specs.declared.term.Kind.{Kind}
use Rattle.spec_tree.specs.declared.term.Kind.TheVariants.{SequenceWithMemory}
use Rattle.spec_run.specs.Rules.Answers.{is_seen}
use Rattle.spec_run.specs.Rules.Sequences.{passes, reactive_end, round, round_after, sequence_end, with_memory_end}
use Rattle.base_tables.specs.Shapes.{IdleFrom, NoneRunsBefore, OneRuns, StandsAt, is_running, status_at}
use Rattle.spec_run.specs.Steps.{Rule, keep}
use Rattle.spec_run.specs.Visit.{status_of}
use Rattle.run_laws.proofs.Acts.{Changed, others}
use Rattle.run_laws.proofs.Resting.{Rested}
use Rattle.run_laws.proofs.Nodes.{Fits, Goes, Node, is_over, keeps, resets_first, visits}

-- ---- A round

-- a round goes on after a child only if the child is not RUNNING
pub passed_rests : (goes a : Answer) → is_running (status_of goes) ≡ false → passes goes a ≡ true → is_running (status_of a) ≡ false
passed_rests goes answer.Success rests e = refl
passed_rests goes answer.Failure rests e = refl
passed_rests goes answer.Skipped rests e = refl
passed_rests answer.Running answer.Running rests e = cc
passed_rests answer.Success answer.Running rests e = cc
passed_rests answer.Failure answer.Running rests e = cc
passed_rests answer.Skipped answer.Running rests e = cc

-- where each child begins with statuses of which `Starts` holds, and `ends` comes after the round
module _ (n : Node) (kind : Kind) (goes : Answer) (rests : is_running (status_of goes) ≡ false) (ends : RoundEnd → Rule) (Starts : ℕ → List Status → Type 0)
    (onward : (place : ℕ) (st : Status) (ss ss1 : List Status) → Starts place ss → Changed place st ss ss1 → is_running st ≡ false → Starts (place + 1) ss1)
    (stops : (place : ℕ) (a : Answer) (ss ss1 : List Status) → Starts place ss → Changed place (status_of a) ss ss1 → Goes n kind ss1 (ends (AtChild place a)))
    (lasts : (seen : Bool) (ss : List Status) → Goes n kind ss (ends (AfterLast seen))) where
  pub round_goes : (left place : ℕ) (seen : Bool) (ss : List Status) → Starts place ss → Goes n kind ss (round goes ends left place seen)
  round_goes zero place seen ss starts = lasts seen ss
  round_goes (suc left) place seen ss starts =
      visits n kind place (λ a. round_after goes ends place seen (λ b. round goes ends left (place + 1) b) a) ss
      (λ a ss1 changed. cond_both (passes goes a) (round goes ends left (place + 1) (seen || is_seen a)) (ends (AtChild place a)) (λ rule. Goes n kind ss1 rule)
      (λ passed. round_goes left (place + 1) (seen || is_seen a) ss1 (onward place (status_of a) ss ss1 starts changed (passed_rests goes a rests passed)))
      (λ _. stops place a ss ss1 starts changed))

-- ---- Where a round begins at an index

-- the children before a place have been visited, and those after it are IDLE
pub record StartsAt (place : ℕ) (ss : List Status) : Type 0 where
  pub before : NoneRunsBefore place ss
  pub following : IdleFrom (place + 1) ss

pub below_other : (k place : ℕ) → k < place + 1 → (k ≡ place → ⊥) → k < place
below_other k place below other = ⊎_elim (λ less. less) (λ reached. absurd (other (omega (arith, below, reached)))) (cases_lt k place)

starts_onward : (place : ℕ) (st : Status) (ss ss1 : List Status) → StartsAt place ss → Changed place st ss ss1 → is_running st ≡ false → StartsAt (place + 1) ss1
starts_onward place st ss ss1 starts changed rests = record {
  before = λ k below. ⊎_elim
      (λ same. ap is_running (ap (status_at ss1) same ∙ changed.here) ∙ rests)
      (λ other. ap is_running (others changed k other) ∙ starts.before k (below_other k place below other))
      (cases_eq k place);
  following = λ k from. others changed k (λ same. absurd (omega (arith, same, from))) ∙ starts.following k (omega (arith, from));
}

stands : (place : ℕ) (ss ss1 : List Status) → StartsAt place ss → Changed place status.Running ss ss1 → StandsAt place ss1
stands place ss ss1 starts changed = record {
  runs = changed.here;
  before = λ k below. ap is_running (others changed k (λ same. absurd (omega (arith, same, below)))) ∙ starts.before k below;
  following = λ k from. others changed k (λ same. absurd (omega (arith, same, from))) ∙ starts.following k from;
}

module _ (n : Node) (kind : Kind) (goes : Answer) (rests : is_running (status_of goes) ≡ false)
    (fits : (place : ℕ) (ss : List Status) → StandsAt place ss → Fits n kind (record { answer = answer.Running; memo = Index place true }) ss) where
  sequence_lasts : (seen : Bool) (ss : List Status) → Goes n kind ss (sequence_end goes (AfterLast seen))
  sequence_lasts true ss = is_over n kind goes ss rests
  sequence_lasts false ss = is_over n kind answer.Skipped ss refl

  sequence_stops : (place : ℕ) (a : Answer) (ss ss1 : List Status) → StartsAt place ss → Changed place (status_of a) ss ss1 → Goes n kind ss1 (sequence_end goes (AtChild place a))
  sequence_stops place answer.Running ss ss1 starts changed = keeps n kind answer.Running (Index place true) ss1 (fits place ss1 (stands place ss ss1 starts changed))
  sequence_stops place answer.Success ss ss1 starts changed = is_over n kind answer.Success ss1 refl
  sequence_stops place answer.Failure ss ss1 starts changed = is_over n kind answer.Failure ss1 refl
  sequence_stops place answer.Skipped ss ss1 starts changed = is_over n kind answer.Skipped ss1 refl

  -- Sequence and Fallback
  pub sequence_goes : (left place : ℕ) (seen : Bool) (ss : List Status) → StartsAt place ss → Goes n kind ss (round goes (sequence_end goes) left place seen)
  sequence_goes = round_goes n kind goes rests (sequence_end goes) StartsAt starts_onward sequence_stops sequence_lasts

-- ---- SequenceWithMemory

failed_within : (place : ℕ) (ss : List Status) → status_at ss place ≡ status.Failure → place < length ss
failed_within place ss failed = ⊎_elim (λ within. within) (λ past. absurd (not_idle (sym (get_or_past ss place status.Idle past) ∙ failed))) (cases_lt place (length ss))
  where
    not_idle : status.Idle ≡ status.Failure → ⊥
    not_idle e = cc

failed_fits : (n : Node) (place : ℕ) (ss ss1 ss2 : List Status) → StartsAt place ss → Changed place status.Failure ss ss1 → Rested (span.From place) ss1 ss2 → Fits n SequenceWithMemory (record { answer = answer.Failure; memo = Index place false }) ss2
failed_fits n place ss ss1 ss2 starts changed rested = (
  omega (arith, failed_within place ss1 changed.here, rested.as_many),
  λ k below. ap is_running (rested.stays k (lt-leb place k below) ∙ others changed k (λ same. absurd (omega (arith, same, below)))) ∙ starts.before k below,
  λ k from. rested.away k (le-leb place k from),
)

module _ (n : Node) where
  memory_fits : (place : ℕ) (ss : List Status) → StandsAt place ss → Fits n SequenceWithMemory (record { answer = answer.Running; memo = Index place true }) ss
  memory_fits place ss stands = stands

  memory_stops : (place : ℕ) (a : Answer) (ss ss1 : List Status) → StartsAt place ss → Changed place (status_of a) ss ss1 → Goes n SequenceWithMemory ss1 (with_memory_end (AtChild place a))
  memory_stops place answer.Failure ss ss1 starts changed =
      resets_first n SequenceWithMemory (span.From place) (keep answer.Failure (Index place false)) ss1
      (λ ss2 rested. keeps n SequenceWithMemory answer.Failure (Index place false) ss2 (failed_fits n place ss ss1 ss2 starts changed rested))
  memory_stops place answer.Running ss ss1 starts changed = sequence_stops n SequenceWithMemory answer.Success refl memory_fits place answer.Running ss ss1 starts changed
  memory_stops place answer.Success ss ss1 starts changed = is_over n SequenceWithMemory answer.Success ss1 refl
  memory_stops place answer.Skipped ss ss1 starts changed = is_over n SequenceWithMemory answer.Skipped ss1 refl

  pub memory_goes : (left place : ℕ) (seen : Bool) (ss : List Status) → StartsAt place ss → Goes n SequenceWithMemory ss (round answer.Success with_memory_end left place seen)
  memory_goes = round_goes n SequenceWithMemory answer.Success refl with_memory_end StartsAt starts_onward memory_stops (sequence_lasts n SequenceWithMemory answer.Success refl memory_fits)

-- ---- The reactive kinds

alone : (place : ℕ) (ss ss1 : List Status) → status_at ss place ≡ status.Running → Rested (span.AllBut place) ss ss1 → OneRuns place ss1
alone place ss ss1 runs rested = record {
  runs = rested.stays place (ap not (eq-eqb place place refl)) ∙ runs;
  others = λ k other. rested.away k (ap not (ne_eqb k place other));
}

module _ (n : Node) (kind : Kind) (goes : Answer) (rests : is_running (status_of goes) ≡ false)
    (fits : (place : ℕ) (ss : List Status) → OneRuns place ss → Fits n kind (record { answer = answer.Running; memo = Index place true }) ss) where
  reactive_lasts : (seen : Bool) (ss : List Status) → Goes n kind ss (reactive_end goes (AfterLast seen))
  reactive_lasts true ss = is_over n kind goes ss rests
  reactive_lasts false ss = is_over n kind answer.Skipped ss refl

  reactive_stops : (place : ℕ) (a : Answer) (ss ss1 : List Status) → Unit {0} → Changed place (status_of a) ss ss1 → Goes n kind ss1 (reactive_end goes (AtChild place a))
  reactive_stops place answer.Running ss ss1 starts changed =
      resets_first n kind (span.AllBut place) (keep answer.Running (Index place true)) ss1
      (λ ss2 rested. keeps n kind answer.Running (Index place true) ss2 (fits place ss2 (alone place ss1 ss2 changed.here rested)))
  reactive_stops place answer.Success ss ss1 starts changed = is_over n kind answer.Success ss1 refl
  reactive_stops place answer.Failure ss ss1 starts changed = is_over n kind answer.Failure ss1 refl
  reactive_stops place answer.Skipped ss ss1 starts changed = is_over n kind answer.Skipped ss1 refl

  -- ReactiveSequence and ReactiveFallback, from children of any statuses
  pub reactive_goes : (left place : ℕ) (seen : Bool) (ss : List Status) → Goes n kind ss (round goes (reactive_end goes) left place seen)
  reactive_goes left place seen ss = round_goes n kind goes rests (reactive_end goes) (λ _ _. Unit {0}) (λ _ _ _ _ _ _ _. tt) reactive_stops reactive_lasts left place seen ss tt
