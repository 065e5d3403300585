-- What differs between two lists, entry by entry, where a prefix of one is made equal to that of the other.
use Rattle.std.proofs.Common.{◌≡◌, ℕ, ℤ, zero, suc, ◌+◌, ◌<◌, List, [], ◌∷◌, ◌++◌, length, take, drop, get_or, set, refl, sym, ap, ◌∙◌, add-one, arith}
use Rattle.std.proofs.lemmas.List.{drop_more}
use Rattle.std.proofs.Math.Nat.{add_assoc}
use Rattle.spec_run.specs.Run.{changed_from}
use Rattle.run_loop.specs.Telling.{with_fact}

module _ {A : Type 0} where
  joined_at_end : (news : List A) (k : ℕ) (d : A) → k < length news → get_or (take k news ++ []) k d ≡ d
  joined_at_end [] k d within = absurd (omega (arith, within))
  joined_at_end (n ∷ news) zero d within = refl
  joined_at_end (n ∷ news) (suc k) d within = joined_at_end news k d (omega (arith, within))

  -- a prefix of one list, followed by the other entries of another
  pub joined_at : (news olds : List A) (k : ℕ) (d : A) → k < length news → get_or (take k news ++ drop k olds) k d ≡ get_or olds k d
  joined_at [] olds k d within = absurd (omega (arith, within))
  joined_at (n ∷ news) olds zero d within = refl
  joined_at (n ∷ news) [] (suc k) d within = joined_at_end news k d (omega (arith, within))
  joined_at (n ∷ news) (o ∷ olds) (suc k) d within = joined_at news olds k d (omega (arith, within))

  pub joined_set : (news olds : List A) (k : ℕ) (d : A) → k < length news → length olds ≡ length news →
      set (take k news ++ drop k olds) k (get_or news k d) ≡ take (suc k) news ++ drop (suc k) olds
  joined_set [] olds k d within same = absurd (omega (arith, within))
  joined_set (n ∷ news) [] k d within same = absurd (omega (arith, same))
  joined_set (n ∷ news) (o ∷ olds) zero d within same = refl
  joined_set (n ∷ news) (o ∷ olds) (suc k) d within same = ap (λ xs. n ∷ xs) (joined_set news olds k d (omega (arith, within)) (omega (arith, same)))

-- what differs, from a place on, and what one entry adds to it
module _ {A C : Type 0} (differ : ℕ → List A → List A → List C) (adds : ℕ → A → A → List C → List C)
    (first : (k : ℕ) (o : A) (os : List A) (n : A) (ns : List A) → differ k (o ∷ os) (n ∷ ns) ≡ adds k o n (differ (k + 1) os ns))
    (olds news : List A) (k : ℕ) (within : k < length news) (same : length olds ≡ length news)
    (before after whole : List C) (now : List A) (o d n e : A) (is_old : o ≡ get_or now k d) (is_new : n ≡ get_or news k e) (so_far : now ≡ take k news ++ drop k olds) where
  old_is : get_or olds k d ≡ o
  old_is = sym (is_old ∙ ap (λ xs. get_or xs k d) so_far ∙ joined_at news olds k d within)

  -- what differs from the next place on
  pub differ_next : before ++ differ k (drop k olds) (drop k news) ≡ whole → ((rest : List C) → after ++ rest ≡ before ++ adds k o n rest) →
      after ++ differ (k + 1) (drop (k + 1) olds) (drop (k + 1) news) ≡ whole
  differ_next all added =
      let olds_are : drop k olds ≡ o ∷ drop (k + 1) olds = drop_more olds k d (omega (arith, within, same)) ∙ ap (λ x. x ∷ drop (k + 1) olds) old_is in
      let news_are : drop k news ≡ n ∷ drop (k + 1) news = drop_more news k e within ∙ ap (λ x. x ∷ drop (k + 1) news) (sym is_new) in
      added (differ (k + 1) (drop (k + 1) olds) (drop (k + 1) news))
      ∙ ap (λ xs. before ++ xs) (sym (first k o (drop (k + 1) olds) n (drop (k + 1) news)) ∙ (λ i. differ k (sym olds_are i) (sym news_are i)))
      ∙ all

  -- one more entry is made equal
  pub alike_next : (new : A) → new ≡ n → set now k new ≡ take (k + 1) news ++ drop (k + 1) olds
  alike_next new told =
      (λ i. set (so_far i) k ((told ∙ is_new) i)) ∙ joined_set news olds k e within same ∙ ap (λ m. take m news ++ drop m olds) (sym (add-one k))

-- ---- The facts that changed

pub changes_next : (first k : ℕ) (o : ℤ) (os : List ℤ) (n : ℤ) (ns : List ℤ) →
    changed_from (first + k) (o ∷ os) (n ∷ ns) ≡ with_fact (first + k) o n (changed_from (first + (k + 1)) os ns)
changes_next first k o os n ns = ap (λ m. with_fact (first + k) o n (changed_from m os ns)) (add_assoc first k 1)
