-- Counts, note by note.
use Rattle.std.proofs.Common.{◌≡◌, ℕ, ◌+◌, ◌-◌, ◌^◌, ◌<◌, List, [], ◌∷◌, ◌++◌, ◌∙◌, Bool, true, false, cond, ap, refl, sym, take, length, get_or, append_assoc, arith}
use Rattle.std.specs.Prelude.{min}
use Rattle.std.specs.List.{count_by}
use Rattle.std.proofs.lemmas.List.{take_more}
use Rattle.std.proofs.lemmas.List.Sums.{sum_by-append}
use Rattle.spec_run.specs.declared.note.Note.{Note}
use Rattle.spec_run.specs.declared.note.Note.TheVariants.{Changed, Started, Ran, Halted, Root, Faulted, Quenched}
use Rattle.spec_run.specs.declared.status.Answer.TheVariants.{Running, Success, Failure, Skipped}
use Rattle.base_outside.specs.Counts.{next}
use Rattle.spec_output.specs.declared.counts.Counts.{Counts}
use Rattle.spec_output.specs.Counts.{count_of, counts_in, is_halting, is_running_call, is_start, is_success}
use Rattle.text_trace.specs.Counting.{with_note}

count_by-more : (p : Note → Bool) (xs : List Note) (x : Note) → count_by p (xs ++ x ∷ []) ≡ count_by p xs + cond (p x) 1 0
count_by-more p xs x = sum_by-append (λ (y : Note). cond (p y) 1 0) xs (x ∷ []) ∙ omega arith

next_min : (n : ℕ) → min (n + 1) (2 ^ 64 - 1) ≡ min (min n (2 ^ 64 - 1) + 1) (2 ^ 64 - 1)
next_min n = omega arith

-- one more note that is so
counted_more : (p : Note → Bool) (xs : List Note) (x : Note) → p x ≡ true → count_of p (xs ++ x ∷ []) ≡ next (count_of p xs)
counted_more p xs x is = ap (λ (n : ℕ). min n (2 ^ 64 - 1)) (count_by-more p xs x ∙ ap (λ (b : Bool). count_by p xs + cond b 1 0) is) ∙ next_min (count_by p xs)

-- .. and one that is not
counted_same : (p : Note → Bool) (xs : List Note) (x : Note) → p x ≡ false → count_of p (xs ++ x ∷ []) ≡ count_of p xs
counted_same p xs x not = ap (λ (n : ℕ). min n (2 ^ 64 - 1)) (count_by-more p xs x ∙ ap (λ (b : Bool). count_by p xs + cond b 1 0) not ∙ omega arith)

made_of : {a b c d e f g h : ℕ} → a ≡ e → b ≡ f → c ≡ g → d ≡ h → (let x : Counts = record { starts = a; runnings = b; haltings = c; successes = d } in x) ≡ (record { starts = e; runnings = f; haltings = g; successes = h })
made_of p q r s = cc

-- the counts of some notes and one more
pub counts_in-more : (xs : List Note) (x : Note) → counts_in (xs ++ x ∷ []) ≡ with_note x (counts_in xs)
counts_in-more xs (Started uid answer) = made_of (counted_more is_start xs _ refl) (counted_same is_running_call xs _ refl) (counted_same is_halting xs _ refl) (counted_same is_success xs _ refl)
counts_in-more xs (Ran uid answer) = made_of (counted_same is_start xs _ refl) (counted_more is_running_call xs _ refl) (counted_same is_halting xs _ refl) (counted_same is_success xs _ refl)
counts_in-more xs (Halted uid) = made_of (counted_same is_start xs _ refl) (counted_same is_running_call xs _ refl) (counted_more is_halting xs _ refl) (counted_same is_success xs _ refl)
counts_in-more xs (Root runner Success) = made_of (counted_same is_start xs _ refl) (counted_same is_running_call xs _ refl) (counted_same is_halting xs _ refl) (counted_more is_success xs _ refl)
counts_in-more xs (Root runner Running) = made_of (counted_same is_start xs _ refl) (counted_same is_running_call xs _ refl) (counted_same is_halting xs _ refl) (counted_same is_success xs _ refl)
counts_in-more xs (Root runner Failure) = made_of (counted_same is_start xs _ refl) (counted_same is_running_call xs _ refl) (counted_same is_halting xs _ refl) (counted_same is_success xs _ refl)
counts_in-more xs (Root runner Skipped) = made_of (counted_same is_start xs _ refl) (counted_same is_running_call xs _ refl) (counted_same is_halting xs _ refl) (counted_same is_success xs _ refl)
counts_in-more xs (Changed uid old new) = made_of (counted_same is_start xs _ refl) (counted_same is_running_call xs _ refl) (counted_same is_halting xs _ refl) (counted_same is_success xs _ refl)
counts_in-more xs (Faulted runner uid cause) = made_of (counted_same is_start xs _ refl) (counted_same is_running_call xs _ refl) (counted_same is_halting xs _ refl) (counted_same is_success xs _ refl)
counts_in-more xs (Quenched runner uid) = made_of (counted_same is_start xs _ refl) (counted_same is_running_call xs _ refl) (counted_same is_halting xs _ refl) (counted_same is_success xs _ refl)

-- the note that comes next
pub next_note : (now new : Counts) (earlier notes : List Note) (i : ℕ) (x : Note) → i < length notes → now ≡ counts_in (earlier ++ take i notes) → new ≡ with_note (get_or notes i x) now → new ≡ counts_in (earlier ++ take (i + 1) notes)
next_note now new earlier notes i x low is more =
    more ∙ ap (with_note (get_or notes i x)) is ∙ sym (counts_in-more (earlier ++ take i notes) (get_or notes i x))
    ∙ ap counts_in (append_assoc earlier (take i notes) (get_or notes i x ∷ []) ∙ ap (λ (ys : List Note). earlier ++ ys) (sym (take_more notes i x low)))
