-- The first line of whole lines is whole, and so is what follows it.
use Rattle.std.proofs.Common.{◌≡◌, ℕ, suc, ◌+◌, ◌==◌, inl, inr, Bool, true, false, not, cond, List, [], ◌∷◌, ◌++◌, length, min, take, drop, refl, sym, ap, subst, arith}
use Rattle.std.specs.List.{position_or_len}
use Rattle.spec_outside.specs.Writes.{AreLines}
use Rattle.base_outside.proofs.Writings.{lines-after, lines-equal, lines-feed}
use Rattle.world_ground.specs.Writing.{AreLinesOrNone}

-- how many bytes stand before the first line feed
abbrev until : List ℕ → ℕ
until text = position_or_len (λ b. b == 10) text

-- how many bytes the first line has
abbrev first_len : List ℕ → ℕ
first_len text = min (until text + 1) (length text)

-- a text that is cut here falls into a line, and whole lines or nothing
abbrev IsCut : List ℕ → ℕ → Type 0
IsCut text n = AreLines (take n text) × AreLinesOrNone (drop n text)

later_len : (n l : ℕ) → min (1 + n + 1) (suc l) ≡ suc (min (n + 1) l)
later_len n l = omega arith

feed_len : (l : ℕ) → min (0 + 1) (suc l) ≡ 1
feed_len l = omega arith

cut_line : (front : List ℕ) → IsCut (front ++ 10 ∷ []) (first_len (front ++ 10 ∷ []))
cut_line [] = (lines-feed, inl refl)
cut_line (x ∷ front) = by_test (cut_line front) (x == 10) refl where
  rest : List ℕ
  rest = front ++ 10 ∷ []

  by_test : IsCut rest (first_len rest) → (b : Bool) → (x == 10) ≡ b → IsCut (x ∷ rest) (min (cond (not b) (1 + until rest) 0 + 1) (suc (length rest)))
  by_test later true here =
      let feed : x ≡ 10 = grind (arith, here) in
      subst (IsCut (x ∷ rest)) (sym (feed_len (length rest)))
      (record { front = []; ends = ap (λ (n : ℕ). (let line : List ℕ = n ∷ [] in line)) feed }, inr (record { front = front; ends = refl }))
  by_test later false here =
      subst (IsCut (x ∷ rest)) (sym (later_len (until rest) (length rest)))
      (lines-after (x ∷ []) (take (first_len rest) rest) later.0, later.1)

first_whole : (text : List ℕ) → AreLines text → IsCut text (first_len text)
first_whole text lines = subst (λ (t : List ℕ). IsCut t (first_len t)) (sym lines.ends) (cut_line lines.front)

-- the first line of what is left of a text, and what follows it
pub next_whole : (text : List ℕ) (n : ℕ) (line after : List ℕ) → (length text == 0) ≡ false → n ≡ first_len text → line ≡ take n text → after ≡ drop n text →
    AreLinesOrNone text → AreLines line × AreLinesOrNone after
next_whole text n line after more is front back (inl none) = absurd (grind (arith, more, none))
next_whole text n line after more is front back (inr lines) =
    let cut = subst (IsCut text) (sym is) (first_whole text lines) in
    (lines-equal line (take n text) front cut.0, subst AreLinesOrNone (sym back) cut.1)
