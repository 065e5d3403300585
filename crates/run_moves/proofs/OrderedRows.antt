-- The rows of the Sequence and Fallback kinds say what their rounds say.
use Rattle.std.proofs.Common.{◌≡◌, ℕ, ◌-◌, Bool, true, false, ◌||◌, List, [], ◌∷◌, refl}
use Rattle.spec_run.specs.declared.memory.Memo.{Memo}
use Rattle.spec_run.specs.declared.memory.Memo.TheVariants.{Index}
use Rattle.spec_run.specs.declared.status.Answer.{Answer}
use Rattle.spec_run.specs.declared.status.Answer.TheVariants.{Running, Success, Failure, Skipped}
use Rattle.spec_run.specs.declared.status.RoundEnd.{RoundEnd}
use Rattle.spec_run.specs.declared.status.RoundEnd.TheVariants.{AtChild, AfterLast}
use Rattle.spec_tree.specs.declared.term.Kind.TheVariants.{Fallback, ReactiveFallback, ReactiveSequence, Sequence, SequenceWithMemory}
use Rattle.spec_run.specs.Rules.Answers.{is_seen}
use Rattle.spec_run.specs.Rules.Kinds.{rule}
use Rattle.spec_run.specs.Rules.Sequences.{passes, reactive_end, sequence_end, with_memory_end}
use Rattle.spec_run.specs.Steps.{Rule}
use Rattle.run_moves.specs.Rows.{fallback_answer, fallback_stops, halts_others, keeps_index, last_place, remembers_index, sequence_answer, sequence_stops}
use Rattle.run_moves.specs.Visits.{Hears, IsVisit, answers_from}
use Rattle.run_moves.proofs.OrderedVisits.{Row, Tells, round_hears}

-- ---- What all Sequence kinds share, and all Fallback kinds

sequence_passed : (a : Answer) → passes Success a ≡ true → (l : List Answer) → sequence_stops (a ∷ l) ≡ sequence_stops l
sequence_passed Success e l = refl
sequence_passed Skipped e l = refl
sequence_passed Failure e l = cc
sequence_passed Running e l = cc

sequence_stopped : (a : Answer) → passes Success a ≡ false → sequence_stops (a ∷ []) ≡ true
sequence_stopped Success e = cc
sequence_stopped Skipped e = cc
sequence_stopped Failure e = refl
sequence_stopped Running e = refl

sequence_onward : (seen : Bool) (a : Answer) → passes Success a ≡ true → (l : List Answer) → sequence_answer (seen || is_seen a) l ≡ sequence_answer seen (a ∷ l)
sequence_onward true Success e l = refl
sequence_onward false Success e l = refl
sequence_onward true Skipped e l = refl
sequence_onward false Skipped e l = refl
sequence_onward seen Failure e l = cc
sequence_onward seen Running e l = cc

fallback_passed : (a : Answer) → passes Failure a ≡ true → (l : List Answer) → fallback_stops (a ∷ l) ≡ fallback_stops l
fallback_passed Failure e l = refl
fallback_passed Skipped e l = refl
fallback_passed Success e l = cc
fallback_passed Running e l = cc

fallback_stopped : (a : Answer) → passes Failure a ≡ false → fallback_stops (a ∷ []) ≡ true
fallback_stopped Failure e = cc
fallback_stopped Skipped e = cc
fallback_stopped Success e = refl
fallback_stopped Running e = refl

fallback_onward : (seen : Bool) (a : Answer) → passes Failure a ≡ true → (l : List Answer) → fallback_answer (seen || is_seen a) l ≡ fallback_answer seen (a ∷ l)
fallback_onward true Failure e l = refl
fallback_onward false Failure e l = refl
fallback_onward true Skipped e l = refl
fallback_onward false Skipped e l = refl
fallback_onward seen Success e l = cc
fallback_onward seen Running e l = cc

abbrev sequence_row : (ℕ → Answer → Rule) → Row
sequence_row keeps = record { stops = sequence_stops; answer = sequence_answer; keeps = keeps }

abbrev fallback_row : (ℕ → Answer → Rule) → Row
fallback_row keeps = record { stops = fallback_stops; answer = fallback_answer; keeps = keeps }

-- what follows a round is what is kept of the answer: at a child that ends it, and behind the last one
record Keeps (keeps : ℕ → Answer → Rule) (goes stop : Answer) (ends : RoundEnd → Rule) : Type 0 where
  stopped : (place : ℕ) → ends (AtChild place stop) ≡ keeps place stop
  running : (place : ℕ) → ends (AtChild place Running) ≡ keeps place Running
  seen : (place : ℕ) → ends (AfterLast true) ≡ keeps place goes
  skipped : (place : ℕ) → ends (AfterLast false) ≡ keeps place Skipped

module _ (keeps : ℕ → Answer → Rule) (ends : RoundEnd → Rule) where
  sequence_at_child : Keeps keeps Success Failure ends → (place : ℕ) (seen : Bool) (a : Answer) → passes Success a ≡ false → ends (AtChild place a) ≡ keeps place (sequence_answer seen (a ∷ []))
  sequence_at_child k place seen Failure e = k.stopped place
  sequence_at_child k place seen Running e = k.running place
  sequence_at_child k place seen Success e = cc
  sequence_at_child k place seen Skipped e = cc

  sequence_at_last : Keeps keeps Success Failure ends → (place : ℕ) (seen : Bool) (a : Answer) → passes Success a ≡ true → ends (AfterLast (seen || is_seen a)) ≡ keeps place (sequence_answer seen (a ∷ []))
  sequence_at_last k place true Success e = k.seen place
  sequence_at_last k place false Success e = k.seen place
  sequence_at_last k place true Skipped e = k.seen place
  sequence_at_last k place false Skipped e = k.skipped place
  sequence_at_last k place seen Failure e = cc
  sequence_at_last k place seen Running e = cc

  fallback_at_child : Keeps keeps Failure Success ends → (place : ℕ) (seen : Bool) (a : Answer) → passes Failure a ≡ false → ends (AtChild place a) ≡ keeps place (fallback_answer seen (a ∷ []))
  fallback_at_child k place seen Success e = k.stopped place
  fallback_at_child k place seen Running e = k.running place
  fallback_at_child k place seen Failure e = cc
  fallback_at_child k place seen Skipped e = cc

  fallback_at_last : Keeps keeps Failure Success ends → (place : ℕ) (seen : Bool) (a : Answer) → passes Failure a ≡ true → ends (AfterLast (seen || is_seen a)) ≡ keeps place (fallback_answer seen (a ∷ []))
  fallback_at_last k place true Failure e = k.seen place
  fallback_at_last k place false Failure e = k.seen place
  fallback_at_last k place true Skipped e = k.seen place
  fallback_at_last k place false Skipped e = k.skipped place
  fallback_at_last k place seen Success e = cc
  fallback_at_last k place seen Running e = cc

  sequence_tells : Keeps keeps Success Failure ends → Tells (sequence_row keeps) Success ends
  sequence_tells k = record {
    none = refl;
    passed = sequence_passed;
    stopped = sequence_stopped;
    at_child = sequence_at_child k;
    at_last = sequence_at_last k;
    onward = sequence_onward;
  }

  fallback_tells : Keeps keeps Failure Success ends → Tells (fallback_row keeps) Failure ends
  fallback_tells k = record {
    none = refl;
    passed = fallback_passed;
    stopped = fallback_stopped;
    at_child = fallback_at_child k;
    at_last = fallback_at_last k;
    onward = fallback_onward;
  }

-- ---- Each kind

pub sequence_hears : (n now picked at : ℕ) (seen : Bool) (answers : List Answer) → IsVisit sequence_stops (n - at) answers →
    Hears Sequence (rule Sequence n (Index at seen) picked now) (answers_from at answers) (keeps_index (last_place at answers) (sequence_answer seen answers))
sequence_hears n now picked at seen answers visit =
    let tells = sequence_tells keeps_index (sequence_end Success) (record { stopped = λ _. refl; running = λ _. refl; seen = λ _. refl; skipped = λ _. refl }) in
    round_hears Sequence (λ _ _. refl) (sequence_row keeps_index) Success (sequence_end Success) tells answers (n - at) at seen visit

pub fallback_hears : (n now picked at : ℕ) (seen : Bool) (answers : List Answer) → IsVisit fallback_stops (n - at) answers →
    Hears Fallback (rule Fallback n (Index at seen) picked now) (answers_from at answers) (keeps_index (last_place at answers) (fallback_answer seen answers))
fallback_hears n now picked at seen answers visit =
    let tells = fallback_tells keeps_index (sequence_end Failure) (record { stopped = λ _. refl; running = λ _. refl; seen = λ _. refl; skipped = λ _. refl }) in
    round_hears Fallback (λ _ _. refl) (fallback_row keeps_index) Failure (sequence_end Failure) tells answers (n - at) at seen visit

pub memory_hears : (n now picked at : ℕ) (seen : Bool) (answers : List Answer) → IsVisit sequence_stops (n - at) answers →
    Hears SequenceWithMemory (rule SequenceWithMemory n (Index at seen) picked now) (answers_from at answers) (remembers_index (last_place at answers) (sequence_answer seen answers))
memory_hears n now picked at seen answers visit =
    let tells = sequence_tells remembers_index with_memory_end (record { stopped = λ _. refl; running = λ _. refl; seen = λ _. refl; skipped = λ _. refl }) in
    round_hears SequenceWithMemory (λ _ _. refl) (sequence_row remembers_index) Success with_memory_end tells answers (n - at) at seen visit

pub reactive_sequence_hears : (n now picked : ℕ) (memo : Memo) (answers : List Answer) → IsVisit sequence_stops n answers →
    Hears ReactiveSequence (rule ReactiveSequence n memo picked now) (answers_from 0 answers) (halts_others (last_place 0 answers) (sequence_answer false answers))
reactive_sequence_hears n now picked memo answers visit =
    let tells = sequence_tells halts_others (reactive_end Success) (record { stopped = λ _. refl; running = λ _. refl; seen = λ _. refl; skipped = λ _. refl }) in
    round_hears ReactiveSequence (λ _ _. refl) (sequence_row halts_others) Success (reactive_end Success) tells answers n 0 false visit

pub reactive_fallback_hears : (n now picked : ℕ) (memo : Memo) (answers : List Answer) → IsVisit fallback_stops n answers →
    Hears ReactiveFallback (rule ReactiveFallback n memo picked now) (answers_from 0 answers) (halts_others (last_place 0 answers) (fallback_answer false answers))
reactive_fallback_hears n now picked memo answers visit =
    let tells = fallback_tells halts_others (reactive_end Failure) (record { stopped = λ _. refl; running = λ _. refl; seen = λ _. refl; skipped = λ _. refl }) in
    round_hears ReactiveFallback (λ _ _. refl) (fallback_row halts_others) Failure (reactive_end Failure) tells answers n 0 false visit
