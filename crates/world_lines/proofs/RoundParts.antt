-- Parts of rounds, one after another.
use Rattle.std.proofs.Common.{◌≡◌, ◌∙◌, ℕ, zero, suc, ◌+◌, ◌≤◌, List, [], ◌∷◌, ◌++◌, length, drop, map, Option, Some, None, refl, sym, ap, arith, append_assoc}
use Rattle.std.specs.Prelude.{IfSome, option_and_then, option_map, slice_get}
use Rattle.std.proofs.lemmas.List.{length-map}
use Rattle.std.proofs.lemmas.Option.{slice_get_within}
use Rattle.spec_world_file.specs.WorldFile.{Part, part_in, parts_in}
use Rattle.world_lines.specs.Written.{PartFound}

-- before the first part
pub parts_first : (o : Option (List Part)) → o ≡ option_map (λ more. [] ++ more) o
parts_first None = refl
parts_first (Some parts) = refl

-- a part goes from the rest to those before it
pub parts_after : (seen : List Part) (part : Part) (o : Option (List Part)) →
    option_map (λ more. seen ++ more) (option_map (λ more. part ∷ more) o) ≡ option_map (λ more. (seen ++ part ∷ []) ++ more) o
parts_after seen part None = refl
parts_after seen part (Some parts) = ap (λ (all : List Part). Some all) (sym (append_assoc seen (part ∷ []) parts))

-- a part is found at the front of two words
pair_found : (verb runner : List ℕ) (words : List (List ℕ)) (found : Option Part) → found ≡ part_in verb runner →
    parts_in (verb ∷ runner ∷ words) ≡ option_and_then (λ part. option_map (λ parts. part ∷ parts) (parts_in words)) found
pair_found verb runner words found is = ap (option_and_then (λ part. option_map (λ parts. part ∷ parts) (parts_in words))) (sym is)

-- the words from a place on, where there are two, or one
two_words : (words : List (List ℕ)) (place : ℕ) (verb runner : List ℕ) → slice_get words place ≡ Some verb → slice_get words (suc place) ≡ Some runner →
    drop place words ≡ verb ∷ runner ∷ drop (suc (suc place)) words
two_words [] place verb runner h k = absurd (cc)
two_words (a ∷ []) zero verb runner h k = absurd (cc)
two_words (a ∷ b ∷ words) zero verb runner h k = cc
two_words (a ∷ words) (suc n) verb runner h k = two_words words n verb runner h k

one_word : (words : List (List ℕ)) (place : ℕ) (verb : List ℕ) → slice_get words place ≡ Some verb → slice_get words (suc place) ≡ None → drop place words ≡ verb ∷ []
one_word [] place verb h k = absurd (cc)
one_word (a ∷ []) zero verb h k = cc
one_word (a ∷ b ∷ words) zero verb h k = absurd (cc)
one_word (a ∷ words) (suc n) verb h k = one_word words n verb h k

pub part_found : (words : List (List ℕ)) (place : ℕ) (verb runner : List ℕ) (found : Option Part) → Some verb ≡ slice_get words place → Some runner ≡ slice_get words (place + 1) →
    found ≡ part_in verb runner → PartFound words place found
part_found words place verb runner found h k is =
    let next : suc place ≡ place + 1 = omega arith in
    let after : suc (suc place) ≡ place + 2 = omega arith in
    ap parts_in (two_words words place verb runner (sym h) (ap (slice_get words) next ∙ sym k) ∙ ap (λ (n : ℕ). verb ∷ runner ∷ drop n words) after)
    ∙ pair_found verb runner (drop (place + 2) words) found is

pub half_found : (words : List (List ℕ)) (place : ℕ) (verb : List ℕ) → Some verb ≡ slice_get words place → None ≡ slice_get words (place + 1) → PartFound words place None
half_found words place verb h k =
    let next : suc place ≡ place + 1 = omega arith in
    ap parts_in (one_word words place verb (sym h) (ap (slice_get words) next ∙ sym k))

-- two words from a place on are within the words
pub words_within : {X Y : Type 0} (f : X → List ℕ) (words : List X) (place : ℕ) (runner : List ℕ) (o : Option Y) → Some runner ≡ slice_get (map f words) (place + 1) →
    IfSome o (λ part. place + 2 ≤ length words)
words_within f words place runner None h = tt
words_within f words place runner (Some part) h =
    omega (arith, length-map words f, slice_get_within (map f words) (place + 1) runner (sym h))
