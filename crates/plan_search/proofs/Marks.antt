-- Levels and marks, one more at a time.
use Rattle.std.proofs.Common.{◌≡◌, ℕ, zero, suc, ◌+◌, ◌<◌, ◌≤◌, ◌==◌, ◌||◌, Bool, true, false, List, [], ◌∷◌, ◌++◌, length, take, get_or, refl, ap, sym, ◌∙◌, set, subst, arith, append-nil, inl, inr}
use Rattle.std.specs.List.{flat_map, list_any, range_with_len}
use Rattle.std.proofs.lemmas.Bool.{cases_eq}
use Rattle.std.proofs.lemmas.Grind.{flat_map-append}
use Rattle.std.proofs.lemmas.List.{get_or-set_same, get_or-set_other, take_more}
use Rattle.std.proofs.lemmas.List.Folds.{list_any-append}
use Rattle.plan_tree.proofs.Counted.{test_other, test_same}
use Rattle.spec_run.specs.declared.note.Note.{Note}
use Rattle.spec_plan.specs.declared.places.Place.{Place}
use Rattle.spec_plan.specs.Failing.{has_failed, is_failure_of}
use Rattle.plan_search.specs.Marked.{is_marked}

range_last : (a n : ℕ) → range_with_len a (suc n) ≡ range_with_len a n ++ (a + n) ∷ []
range_last a zero = let e : a ≡ a + 0 = omega arith in ap (λ (k : ℕ). k ∷ []) e
range_last a (suc n) =
    let e : a + 1 + n ≡ a + suc n = omega arith in
    ap (λ (l : List ℕ). a ∷ l) (range_last (a + 1) n ∙ ap (λ (k : ℕ). range_with_len (a + 1) n ++ k ∷ []) e)

-- one level more
pub level_more : (f : ℕ → List Place) (n : ℕ) (old new : List Place) → new ≡ old ++ f n → old ≡ flat_map f (range_with_len 0 n) → new ≡ flat_map f (range_with_len 0 (n + 1))
level_more f n old new is before =
    let more : suc n ≡ n + 1 = omega arith in
    let own : n ≡ 0 + n = omega arith in
    is ∙ ap (λ (l : List Place). l ++ f n) before
    ∙ ap (λ (l : List Place). flat_map f (range_with_len 0 n) ++ l) (sym (append-nil (f n)))
    ∙ sym (flat_map-append f (range_with_len 0 n) (n ∷ []))
    ∙ ap (λ (k : ℕ). flat_map f (range_with_len 0 n ++ k ∷ [])) own
    ∙ ap (flat_map f) (sym (range_last 0 n))
    ∙ ap (λ (k : ℕ). flat_map f (range_with_len 0 k)) more

-- ---- Marks

or_false : (b : Bool) → (b || false) ≡ b
or_false true = refl
or_false false = refl

or_true : (b : Bool) → (b || true) ≡ true
or_true true = refl
or_true false = refl

-- one note more
pub failed_on : (notes : List Note) (i : ℕ) (d : Note) (uid : ℕ) → i < length notes → (old new : Bool) → new ≡ (old || is_failure_of uid (get_or notes i d)) → old ≡ has_failed (take i notes) uid → new ≡ has_failed (take (i + 1) notes) uid
failed_on notes i d uid within old new is before =
    is ∙ ap (λ (b : Bool). b || is_failure_of uid (get_or notes i d)) before
    ∙ ap (λ (b : Bool). list_any (is_failure_of uid) (take i notes) || b) (sym (or_false (is_failure_of uid (get_or notes i d))))
    ∙ sym (list_any-append (is_failure_of uid) (take i notes) (get_or notes i d ∷ []))
    ∙ ap (list_any (is_failure_of uid)) (sym (take_more notes i d within))

-- a mark at one number
pub marked_one : (marks : List Bool) (own uid : ℕ) (failure : Bool) → uid < length marks → failure ≡ (own == uid) → is_marked (set marks own true) uid ≡ (is_marked marks uid || failure)
marked_one marks own uid failure within is = elim (cases_eq uid own) [
  | inl same ↦
      let hit : failure ≡ true = is ∙ test_same own uid (sym same) in
      subst (λ (k : ℕ). get_or (set marks own true) k false ≡ true) (sym same) (get_or-set_same marks own true false (subst (λ (k : ℕ). k < length marks) same within))
      ∙ sym (ap (λ (b : Bool). is_marked marks uid || b) hit ∙ or_true (is_marked marks uid))
  | inr other ↦
      let miss : failure ≡ false = is ∙ test_other own uid (λ e. absurd (other (sym e))) in
      get_or-set_other marks own uid true false other ∙ sym (ap (λ (b : Bool). is_marked marks uid || b) miss ∙ or_false (is_marked marks uid))
]

-- a number past the marks
pub marked_past : (marks : List Bool) (own uid : ℕ) (failure : Bool) → uid < length marks → length marks ≤ own → failure ≡ (own == uid) → is_marked marks uid ≡ (is_marked marks uid || failure)
marked_past marks own uid failure within past is =
    let miss : failure ≡ false = is ∙ test_other own uid (λ e. absurd (omega (arith, within, past, e))) in
    sym (ap (λ (b : Bool). is_marked marks uid || b) miss ∙ or_false (is_marked marks uid))

-- no failure
pub marked_none : (marks : List Bool) (uid : ℕ) (failure : Bool) → failure ≡ false → is_marked marks uid ≡ (is_marked marks uid || failure)
marked_none marks uid failure none = sym (ap (λ (b : Bool). is_marked marks uid || b) none ∙ or_false (is_marked marks uid))
