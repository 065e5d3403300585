-- The empty rest of a file.
use Rattle.std.proofs.Common.{◌≡◌, ℕ, ◌+◌, ◌-◌, ◌≤◌, ◌==◌, true, false, List, [], ◌∷◌, ◌++◌, map, length, get_or, take, refl, sym, ◌∙◌, ap, arith}
use Rattle.std.proofs.lemmas.List.{take_more, map-append}
use Rattle.std.proofs.Math.Seq.{take-length}
use Rattle.spec_world_file.specs.WorldFile.{without_empty_rest}

cons_rest : (t u : List ℕ) (us : List (List ℕ)) → without_empty_rest (t ∷ u ∷ us) ≡ t ∷ without_empty_rest (u ∷ us)
cons_rest [] u us = refl
cons_rest (c ∷ cs) u us = refl

rest_empty : (ts : List (List ℕ)) → without_empty_rest (ts ++ [] ∷ []) ≡ ts
rest_empty [] = refl
rest_empty (u ∷ []) = cons_rest u [] [] ∙ ap (λ z. u ∷ z) (rest_empty [])
rest_empty (u ∷ v ∷ vs) = cons_rest u v (vs ++ [] ∷ []) ∙ ap (λ z. u ∷ z) (rest_empty (v ∷ vs))

rest_full : (ts : List (List ℕ)) (c : ℕ) (cs : List ℕ) → without_empty_rest (ts ++ (c ∷ cs) ∷ []) ≡ ts ++ (c ∷ cs) ∷ []
rest_full [] c cs = refl
rest_full (u ∷ []) c cs = cons_rest u (c ∷ cs) [] ∙ ap (λ z. u ∷ z) (rest_full [] c cs)
rest_full (u ∷ v ∷ vs) c cs = cons_rest u v (vs ++ (c ∷ cs) ∷ []) ∙ ap (λ z. u ∷ z) (rest_full (v ∷ vs) c cs)

by_empty : (t : List ℕ) (ts all : List (List ℕ)) → all ≡ ts ++ t ∷ [] → (length t == 0) ≡ true → ts ≡ without_empty_rest all
by_empty [] ts all e z = sym (ap without_empty_rest e ∙ rest_empty ts)
by_empty (c ∷ cs) ts all e z = absurd (grind arith)

by_full : (t : List ℕ) (ts all : List (List ℕ)) → all ≡ ts ++ t ∷ [] → (length t == 0) ≡ false → all ≡ without_empty_rest all
by_full [] ts all e z = absurd (cc)
by_full (c ∷ cs) ts all e z = e ∙ sym (rest_full ts c cs) ∙ sym (ap without_empty_rest e)

split_last : {X : Type 0} (f : X → List ℕ) (d : X) (xs : List X) → 1 ≤ length xs → map f xs ≡ map f (take (length xs - 1) xs) ++ f (get_or xs (length xs - 1) d) ∷ []
split_last f d xs l =
    let within : length xs - 1 + 1 ≡ length xs = omega arith in
    let e : take (length xs) xs ≡ take (length xs - 1) xs ++ get_or xs (length xs - 1) d ∷ [] = ap (λ n. take n xs) (sym within) ∙ take_more xs (length xs - 1) d (omega arith) in
    ap (map f) (sym (take-length xs) ∙ e) ∙ map-append f (take (length xs - 1) xs) (get_or xs (length xs - 1) d ∷ [])

-- the last part is left out where it is empty
pub without_empty_rest_drops : {X : Type 0} (f : X → List ℕ) (d : X) (xs : List X) → 1 ≤ length xs → (length (f (get_or xs (length xs - 1) d)) == 0) ≡ true → map f (take (length xs - 1) xs) ≡ without_empty_rest (map f xs)
without_empty_rest_drops f d xs l e = by_empty _ _ _ (split_last f d xs l) e

-- and otherwise all stay
pub without_empty_rest_keeps : {X : Type 0} (f : X → List ℕ) (d : X) (xs : List X) → 1 ≤ length xs → (length (f (get_or xs (length xs - 1) d)) == 0) ≡ false → map f xs ≡ without_empty_rest (map f xs)
without_empty_rest_keeps f d xs l e = by_full _ _ _ (split_last f d xs l) e
