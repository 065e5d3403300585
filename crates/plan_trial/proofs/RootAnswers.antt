-- Where notes tell the root's answer once at most, the note that tells it says whether the root failed.
use Rattle.std.proofs.Common.{◌≡◌, ℕ, Bool, true, false, ◌||◌, List, [], ◌∷◌, ◌++◌, cond, count_by, refl, ap, ◌∙◌, arith}
use Rattle.std.specs.List.{list_any}
use Rattle.std.proofs.lemmas.List.Folds.{list_any-append}
use Rattle.std.proofs.lemmas.List.Sums.{sum_by-append, sum_by-cons}
use Rattle.spec_run.specs.declared.note.Note.{Note}
use Rattle.spec_run.specs.declared.note.Note.TheVariants as note
use Rattle.spec_run.specs.declared.status.Answer.{Answer}
use Rattle.spec_run.specs.declared.status.Answer.TheVariants as answer
use Rattle.plan_trial.specs.Roots.{TellRootOnce, is_root}
use Rattle.spec_plan.specs.Modelled.{is_failed_root}

abbrev one_root : Note → ℕ
one_root n = cond (is_root n) 1 0

other_not_failed : (n : Note) → is_root n ≡ false → is_failed_root n ≡ false
other_not_failed (note.Root runner a) is = cc is
other_not_failed _ is = refl

none_failed : (notes : List Note) → count_by is_root notes ≡ 0 → list_any is_failed_root notes ≡ false
none_failed [] none = refl
none_failed (n ∷ notes) none = by_first (is_root n) refl (λ rest. none_failed notes rest) where
  by_first : (b : Bool) → is_root n ≡ b → (count_by is_root notes ≡ 0 → list_any is_failed_root notes ≡ false) → list_any is_failed_root (n ∷ notes) ≡ false
  by_first true is later = absurd (omega (arith, none, sum_by-cons one_root n notes, ap {B = ℕ} (λ b. cond b 1 0) is))
  by_first false is later = ap (λ b. b || list_any is_failed_root notes) (other_not_failed n is) ∙ later (omega (arith, none, sum_by-cons one_root n notes))

or_false : (b : Bool) → (b || false) ≡ b
or_false true = refl
or_false false = refl

-- the note that tells the root's answer decides
pub root_decides : (before : List Note) (n : Note) → TellRootOnce (before ++ n ∷ []) → is_root n ≡ true → list_any is_failed_root (before ++ n ∷ []) ≡ is_failed_root n
root_decides before n once is =
    let none : count_by is_root before ≡ 0 = omega (arith, once, sum_by-append one_root before (n ∷ []), ap {B = ℕ} (λ b. cond b 1 0) is) in
    list_any-append is_failed_root before (n ∷ []) ∙ ap (λ b. b || list_any is_failed_root (n ∷ [])) (none_failed before none) ∙ or_false (is_failed_root n)

-- an answer other than FAILURE is no failure
pub not_failed : (runner : ℕ) (a : Answer) → (a ≡ answer.Failure → ⊥) → is_failed_root (note.Root runner a) ≡ false
not_failed runner answer.Failure other = absurd (other refl)
not_failed runner _ other = refl
