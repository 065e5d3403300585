-- A list that is filled from its beginning on.
use Rattle.std.proofs.Common.{◌≡◌, ℕ, suc, ◌+◌, ◌-◌, ◌<◌, List, [], ◌∷◌, ◌++◌, length, map, take, set, get_or, replicate, sym, ap, ◌∙◌, append_assoc, length-take, arith}
use Rattle.std.proofs.lemmas.List.{length-map, map_more}
use Rattle.std.proofs.Math.Seq.{set-append_seam}

module _ {X Y : Type 0} (f : X → Y) (xs : List X) (i n : ℕ) (x : X) (a : Y) where
  -- the next place is filled
  pub filled_more : i < length xs → i < n → x ≡ get_or xs i x →
      set (map f (take i xs) ++ replicate (n - i) a) i (f x) ≡ map f (take (i + 1) xs) ++ replicate (n - (i + 1)) a
  filled_more within room is =
      let before = map f (take i xs) in
      let rest = replicate (n - (i + 1)) a in
      let one_less : n - i ≡ suc (n - (i + 1)) = omega arith in
      let many : length before ≡ i = length-map (take i xs) f ∙ omega (arith, length-take i xs) in
      ap (λ k. set (before ++ replicate k a) i (f x)) one_less
      ∙ ap (λ j. set (before ++ a ∷ rest) j (f x)) (sym many)
      ∙ set-append_seam before a rest (f x)
      ∙ sym (append_assoc before (f x ∷ []) rest)
      ∙ ap (λ (y : X). (before ++ f y ∷ []) ++ rest) is
      ∙ ap (λ (ys : List Y). ys ++ rest) (sym (map_more f xs i x within))
