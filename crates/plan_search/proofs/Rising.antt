-- Conditions whose levels never fall are in breadth-first order.
use Rattle.std.proofs.Common.{◌≡◌, ◌≢◌, ℕ, zero, suc, ◌+◌, ◌<◌, ◌≤◌, Bool, cond, List, [], ◌∷◌, ◌++◌, refl, ap, subst, ◌∙◌, inl, inr, arith}
use Rattle.std.specs.List.{flat_map, range_with_len}
use Rattle.std.proofs.lemmas.Bool.{cases_eq}
use Rattle.plan_tree.proofs.Counted.{test_other, test_same}
use Rattle.spec_plan.specs.declared.places.Place.{Place}
use Rattle.spec_plan.specs.Failing.{at_level, breadth_first, levels}

-- no level is below this one, nor below one before it
abbrev pub Rising : ℕ → List Place → Type 0
Rising level [] = Unit {0}
Rising level (c ∷ places) = (level ≤ c.level) × Rising c.level places

module _ (c : Place) (places : List Place) (level : ℕ) where
  kept : c.level ≡ level → at_level (c ∷ places) level ≡ c ∷ at_level places level
  kept is = ap (λ (b : Bool). cond b (c ∷ at_level places level) (at_level places level)) (test_same c.level level is)

  left_out : c.level ≢ level → at_level (c ∷ places) level ≡ at_level places level
  left_out other = ap (λ (b : Bool). cond b (c ∷ at_level places level) (at_level places level)) (test_other c.level level other)

none_below : (level low : ℕ) (places : List Place) → level < low → Rising low places → at_level places level ≡ []
none_below level low [] below rising = refl
none_below level low (c ∷ places) below rising =
    left_out c places level (λ e. absurd (omega (arith, e, below, rising.0))) ∙ none_below level c.level places (omega (arith, below, rising.0)) rising.1

past : (c : Place) (places : List Place) (level n : ℕ) → c.level < level → flat_map (at_level (c ∷ places)) (range_with_len level n) ≡ flat_map (at_level places) (range_with_len level n)
past c places level zero below = refl
past c places level (suc n) below =
    ap (λ (l : List Place). l ++ flat_map (at_level (c ∷ places)) (range_with_len (level + 1) n)) (left_out c places level (λ e. absurd (omega (arith, e, below))))
    ∙ ap (λ (l : List Place). at_level places level ++ l) (past c places (level + 1) n (omega (arith, below)))

nothing : (level n : ℕ) → flat_map (at_level []) (range_with_len level n) ≡ []
nothing level zero = refl
nothing level (suc n) = nothing (level + 1) n

ordered : (level n : ℕ) (places : List Place) → Rising level places → levels places ≤ level + n → flat_map (at_level places) (range_with_len level n) ≡ places
ordered level n [] rising few = nothing level n
ordered level zero (c ∷ places) rising few = absurd (omega (arith, few, rising.0))
ordered level (suc n) (c ∷ places) rising few = elim (cases_eq c.level level) [
  | inl same ↦
      ap (λ (l : List Place). l ++ flat_map (at_level (c ∷ places)) (range_with_len (level + 1) n)) (kept c places level same)
      ∙ ap (λ (l : List Place). c ∷ (at_level places level ++ l)) (past c places (level + 1) n (omega (arith, same)))
      ∙ ap (λ (l : List Place). c ∷ l) (ordered level (suc n) places (subst (λ (k : ℕ). Rising k places) same rising.1) (omega (arith, few)))
  | inr other ↦
      ap (λ (l : List Place). l ++ flat_map (at_level (c ∷ places)) (range_with_len (level + 1) n)) (left_out c places level other ∙ none_below level c.level places (omega (arith, other, rising.0)) rising.1)
      ∙ ordered (level + 1) n (c ∷ places) (omega (arith, other, rising.0), rising.1) (omega (arith, few))
]

pub rising_ordered : (places : List Place) → Rising 0 places → breadth_first places ≡ places
rising_ordered places rising = ordered 0 (levels places) places rising (omega arith)
