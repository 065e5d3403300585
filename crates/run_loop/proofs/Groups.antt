-- What telling a group of facts leaves, of the facts that changed and of what was told.
use Rattle.std.proofs.Common.{◌≡◌, ℕ, ℤ, zero, suc, ◌+◌, ◌-◌, ◌<◌, ◌≤◌, List, [], ◌∷◌, ◌++◌, Bool, true, false, OnOk, Result, length, take, drop, get_or, set, refl, sym, ap, ◌∙◌, arith}
use Rattle.std.specs.Prelude.{if◌then◌else◌}
use Rattle.std.specs.Ordering.{int_eq}
use Rattle.std.proofs.Math.Seq.{drop_at, take-add, take_at}
use Rattle.std.proofs.lemmas.Bool.Decides.{Decides-int_eq}
use Rattle.std.proofs.lemmas.List.{append-nil, append_assoc, drop-drop, drop_all, length-drop, length-take-le, take-append-drop, take_all, take_rest}
use Rattle.base_texts.specs.declared.stop.NoMemory.{NoMemory}
use Rattle.spec_run.specs.Run.{changed_from}
use Rattle.run_loop.specs.Telling.{with_fact}
use Rattle.run_loop.proofs.Results.{ok_gives}

-- ---- The facts that changed

pub none_changed : (first : ℕ) (facts : List ℤ) → changed_from first facts facts ≡ []
none_changed first [] = refl
none_changed first (f ∷ facts) =
    ap (λ alike. if alike then changed_from (first + 1) facts facts else (first, f) ∷ changed_from (first + 1) facts facts) ((Decides-int_eq f f).1 refl)
    ∙ none_changed (first + 1) facts

-- one fact alone has a value anew
pub one_changed : (first : ℕ) (olds : List ℤ) (k : ℕ) (value d : ℤ) → k < length olds → changed_from first olds (set olds k value) ≡ with_fact (first + k) (get_or olds k d) value []
one_changed first [] k value d low = absurd (omega (arith, low))
one_changed first (o ∷ olds) zero value d low =
    let same : first ≡ first + 0 = omega arith in
    ap (λ changes. if int_eq o value then changes else (first, value) ∷ changes) (none_changed (first + 1) olds)
    ∙ ap (λ fact. with_fact fact o value []) same
one_changed first (o ∷ olds) (suc k) value d low =
    let same : first + 1 + k ≡ first + suc k = omega arith in
    ap (λ alike. if alike then changed_from (first + 1) olds (set olds k value) else (first, o) ∷ changed_from (first + 1) olds (set olds k value)) ((Decides-int_eq o o).1 refl)
    ∙ one_changed (first + 1) olds k value d (omega (arith, low))
    ∙ ap (λ fact. with_fact fact (get_or olds k d) value []) same

-- what is added for one fact is all that changed
pub one_told : (result : Result (Unit {0}) NoMemory) (fact : ℕ) (olds : List ℤ) (old value d : ℤ) (before after : List (ℕ × ℤ)) → fact < length olds → old ≡ get_or olds fact d →
    OnOk result ((rest : List (ℕ × ℤ)) → after ++ rest ≡ before ++ with_fact fact old value rest) → OnOk result (after ≡ before ++ changed_from 0 olds (set olds fact value))
one_told result fact olds old value d before after low is =
    let same : fact ≡ 0 + fact = omega arith in
    ok_gives result (λ (told : (rest : List (ℕ × ℤ)) → after ++ rest ≡ before ++ with_fact fact old value rest).
    sym (append-nil after) ∙ told [] ∙ (λ i. before ++ with_fact (same i) (is i) value []) ∙ ap (λ changes. before ++ changes) (sym (one_changed 0 olds fact value d low)))

added : (b : Bool) (e : ℕ × ℤ) (xs ys zs : List (ℕ × ℤ)) → xs ≡ ys ++ zs → (if b then xs else e ∷ xs) ≡ (if b then ys else e ∷ ys) ++ zs
added true e xs ys zs same = same
added false e xs ys zs same = ap (λ changes. e ∷ changes) same

of_no_facts : (first : ℕ) (olds : List ℤ) → changed_from first olds [] ≡ []
of_no_facts first [] = refl
of_no_facts first (o ∷ olds) = refl

changed_parts : (first n : ℕ) (olds news : List ℤ) →
    changed_from first olds news ≡ changed_from first (take n olds) (take n news) ++ changed_from (first + n) (drop n olds) (drop n news)
changed_parts first zero olds news = let same : first ≡ first + 0 = omega arith in ap (λ k. changed_from k olds news) same
changed_parts first (suc n) [] news = refl
changed_parts first (suc n) (o ∷ olds) [] = sym (of_no_facts (first + suc n) (drop n olds))
changed_parts first (suc n) (o ∷ olds) (m ∷ news) =
    let same : first + 1 + n ≡ first + suc n = omega arith in
    added (int_eq o m) (first, m) _ _ _
    (changed_parts (first + 1) n olds news
    ∙ ap (λ k. changed_from (first + 1) (take n olds) (take n news) ++ changed_from k (drop n olds) (drop n news)) same)

-- ---- A group, where the facts before it are told

module _ (olds news now : List ℤ) (k : ℕ) (within : k ≤ length news) (so_far : now ≡ take k news ++ drop k olds) where
  told_before : take k now ≡ take k news
  told_before = ap (take k) so_far ∙ take_at (take k news) (drop k olds) k (length-take-le k news within)

  told_rest : drop k now ≡ drop k olds
  told_rest = ap (drop k) so_far ∙ drop_at (take k news) (drop k olds) k (length-take-le k news within)

  module _ (n end : ℕ) (is_end : end ≡ k + n) where
    -- what differs after the group
    pub group_changes : (before after whole : List (ℕ × ℤ)) → before ++ changed_from k (drop k olds) (drop k news) ≡ whole →
        after ≡ before ++ changed_from k (take n (drop k now)) (take n (drop k news)) → after ++ changed_from end (drop end olds) (drop end news) ≡ whole
    group_changes before after whole all more =
        ap (λ j. after ++ changed_from j (drop j olds) (drop j news)) is_end
        ∙ (λ i. (more ∙ ap (λ xs. before ++ changed_from k (take n xs) (take n (drop k news))) told_rest) i
        ++ changed_from (k + n) (sym (drop-drop n k olds) i) (sym (drop-drop n k news) i))
        ∙ append_assoc before _ _
        ∙ ap (λ xs. before ++ xs) (sym (changed_parts k n (drop k olds) (drop k news)))
        ∙ all

    pub group_told : (new : List ℤ) → new ≡ take n (drop k news) → take k now ++ (new ++ drop n (drop k now)) ≡ take end news ++ drop end olds
    group_told new told =
        (λ i. told_before i ++ (told i ++ drop n (told_rest i)))
        ∙ sym (append_assoc (take k news) _ _)
        ∙ (λ i. sym (take-add k n news) i ++ drop-drop n k olds i)
        ∙ ap (λ j. take j news ++ drop j olds) (sym is_end)

  -- the facts after the last group
  module _ (n : ℕ) (is_rest : n ≡ length now - k) where
    rest_is : take n (drop k now) ≡ drop k olds
    rest_is = take_all n (drop k now) (omega (arith, is_rest, length-drop k now)) ∙ told_rest

    pub rest_changes : (before after whole : List (ℕ × ℤ)) → before ++ changed_from k (drop k olds) (drop k news) ≡ whole →
        after ≡ before ++ changed_from k (take n (drop k now)) (take (length news - k) (drop k news)) → after ≡ whole
    rest_changes before after whole all more = more ∙ (λ i. before ++ changed_from k (rest_is i) (take_rest news k i)) ∙ all

    pub rest_told : (new : List ℤ) → new ≡ take (length news - k) (drop k news) → take k now ++ (new ++ drop n (drop k now)) ≡ news
    rest_told new told =
        (λ i. told_before i ++ ((told ∙ take_rest news k) i ++ drop_all n (drop k now) (omega (arith, is_rest, length-drop k now)) i))
        ∙ ap (λ xs. take k news ++ xs) (append-nil (drop k news))
        ∙ take-append-drop k news
