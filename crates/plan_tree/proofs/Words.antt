-- Texts by their words.
use Rattle.std.proofs.Common.{◌≡◌, ℕ, zero, suc, ◌+◌, ◌-◌, ◌<◌, ◌≤◌, min, List, [], ◌∷◌, length, take, drop, get_or, sym, ap, ◌∙◌, arith, ⊎_elim}
use Rattle.std.proofs.lemmas.Grind.{same_number_lists}
use Rattle.std.proofs.lemmas.List.{get_or-drop, get_or-take, length-drop, length-take}
use Rattle.std.proofs.lemmas.Bool.{cases_lt}

few_small : (n : ℕ) (text : List ℕ) → ((i : ℕ) → get_or text i 0 < 256) → (i : ℕ) → get_or (take n text) i 0 < 256
few_small zero text small i = omega arith
few_small (suc n) [] small i = omega arith
few_small (suc n) (b ∷ text) small zero = small 0
few_small (suc n) (b ∷ text) small (suc i) = few_small n text (λ j. small (suc j)) i

module _ (text : List ℕ) (at : ℕ) where
  abbrev word : List ℕ
  word = take 8 (drop at text)

  pub word_long : at + 8 ≤ length text → length word ≡ 8
  word_long enough = omega (arith, length-take 8 (drop at text), length-drop at text, enough)

  pub word_small : ((i : ℕ) → get_or text i 0 < 256) → (i : ℕ) → get_or word i 0 < 256
  word_small small = few_small 8 (drop at text) (λ i. omega (arith, get_or-drop at text i 0, small (at + i)))

  byte_of : (k : ℕ) → at ≤ k → k < at + 8 → get_or word (k - at) 0 ≡ get_or text k 0
  byte_of k from to =
      let back : at + (k - at) ≡ k = omega (arith, from) in
      get_or-take 8 (drop at text) (k - at) 0 (omega (arith, from, to)) ∙ get_or-drop at text (k - at) 0 ∙ ap (λ (i : ℕ). get_or text i 0) back

module _ (one other : List ℕ) where
  same_byte : (at k : ℕ) → at ≤ k → k < at + 8 → take 8 (drop at one) ≡ take 8 (drop at other) → get_or one k 0 ≡ get_or other k 0
  same_byte at k from to same = sym (byte_of one at k from to) ∙ ap (λ (l : List ℕ). get_or l (k - at) 0) same ∙ byte_of other at k from to

  -- three words hold all bytes of a text that has 8 to 24: the first, the last, and the second or what there is of it
  pub three_words : (middle last : ℕ) → length one ≡ length other → last + 8 ≡ length one → last ≤ 16 → middle ≡ min 8 last →
      take 8 one ≡ take 8 other → take 8 (drop middle one) ≡ take 8 (drop middle other) → take 8 (drop last one) ≡ take 8 (drop last other) → one ≡ other
  three_words middle last long ends few is first second third = same_number_lists one other long (λ k within.
      ⊎_elim
      (λ early. same_byte 0 k (omega arith) (omega (arith, early)) first)
      (λ late. ⊎_elim
      (λ inner. same_byte middle k (omega (arith, late, is)) inner second)
      (λ outer. same_byte last k (omega (arith, outer, late, is, few)) (omega (arith, within, ends)) third)
      (cases_lt k (middle + 8)))
      (cases_lt k 8))
