-- No line of a file is longer than the file.
use Rattle.std.proofs.Common.{◌≡◌, ℕ, suc, ◌==◌, ◌≤◌, Bool, true, false, cond, List, [], ◌∷◌, map, length, refl, arith}
use Rattle.std.specs.Prelude.{nat_le}
use Rattle.std.specs.List.{list_all, onto_first, slice_split}
use Rattle.std.proofs.lemmas.Bool.Decides.{nat_tests}
use Rattle.spec_script.proofs.Bools.{both}
use Rattle.spec_world_file.specs.WorldFile.{lines_in, without_empty_rest}
use Rattle.world_ground.specs.Sound.{is_short}
use Rattle.world_ground.proofs.Marked.{both_true}

abbrev AllShort : ℕ → List (List ℕ) → Type 0
AllShort n [] = Unit {0}
AllShort n (part ∷ parts) = (length part ≤ n) × AllShort n parts

weaker : (n : ℕ) (parts : List (List ℕ)) → AllShort n parts → AllShort (suc n) parts
weaker n [] h = tt
weaker n (part ∷ parts) h = let first = h.0 in (omega arith, weaker n parts h.1)

onto : (n x : ℕ) (parts : List (List ℕ)) → AllShort n parts → AllShort (suc n) (onto_first x parts)
onto n x [] h = (omega arith, tt)
onto n x (part ∷ parts) h = let first = h.0 in (omega arith, weaker n parts h.1)

either : (n : ℕ) (b : Bool) (t e : List (List ℕ)) → AllShort n t → AllShort n e → AllShort n (cond b t e)
either n true t e p q = p
either n false t e p q = q

split_short : (p : ℕ → Bool) (bytes : List ℕ) → AllShort (length bytes) (slice_split p bytes)
split_short p [] = (omega arith, tt)
split_short p (b ∷ bytes) =
    let h = split_short p bytes in
    either (suc (length bytes)) (p b) ([] ∷ slice_split p bytes) (onto_first b (slice_split p bytes)) (omega arith, weaker (length bytes) (slice_split p bytes) h) (onto (length bytes) b (slice_split p bytes) h)

rest_short : (n : ℕ) (parts : List (List ℕ)) → AllShort n parts → AllShort n (without_empty_rest parts)
rest_short n [] h = tt
rest_short n ([] ∷ []) h = tt
rest_short n ([] ∷ u ∷ us) h = (h.0, rest_short n (u ∷ us) h.1)
rest_short n ((c ∷ cs) ∷ []) h = (h.0, tt)
rest_short n ((c ∷ cs) ∷ u ∷ us) h = (h.0, rest_short n (u ∷ us) h.1)

le_is : (n m : ℕ) → n ≤ m → m ≤ 1048576 → nat_le n 1048576 ≡ true
le_is n m h k = grind (arith, nat_tests)

short_is : (n : ℕ) (parts : List (List ℕ)) → n ≤ 1048576 → AllShort n parts → list_all is_short parts ≡ true
short_is n [] le h = refl
short_is n (part ∷ parts) le h = both_true (is_short part) (list_all is_short parts) (le_is (length part) n h.0 le) (short_is n parts le h.1)

-- each line of a file that is not too long is short
pub short_lines : (bytes : List ℕ) → length bytes ≤ 1048576 → list_all is_short (lines_in bytes) ≡ true
short_lines bytes le = short_is (length bytes) (lines_in bytes) le (rest_short (length bytes) (slice_split (λ b. b == 10) bytes) (split_short (λ b. b == 10) bytes))

-- lines after the first are short where all are
pub later_short : {X : Type 0} (f : X → List ℕ) (x : X) (xs : List X) → list_all is_short (map f (x ∷ xs)) ≡ true → list_all is_short (map f xs) ≡ true
later_short f x xs h = (both (is_short (f x)) (list_all is_short (map f xs)) h).1
