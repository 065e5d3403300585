-- What a row's expressions see at each place.
use Rattle.std.proofs.Common.{◌≡◌, ℕ, ◌+◌, ◌-◌, ◌<◌, ◌≤◌, ℤ, pos, List, ◌++◌, length, map, get_or, ap, ◌∙◌, arith, length-append}
use Rattle.std.proofs.lemmas.List.{append-nil, length-map, get_or_append_left, get_or-append_right, get_or-map}
use Rattle.spec_script.specs.declared.cells.Seen.{Seen}
use Rattle.spec_script.specs.declared.cells.Seen.TheVariants as seen
use Rattle.spec_run.specs.Leaf.{sights, fact_at}

-- all eight inputs are given
all_given : (inputs : List Seen) (facts : List ℤ) → length inputs ≡ 8 → sights inputs facts ≡ inputs ++ map (λ n. seen.Int n) facts
all_given inputs facts eight = rw eight (ap (λ xs. xs ++ map (λ n. seen.Int n) facts) (append-nil inputs))

-- an input
pub input_seen : (inputs : List Seen) (facts : List ℤ) (k : ℕ) (d : Seen) → length inputs ≡ 8 → k < 8 → get_or (sights inputs facts) k d ≡ get_or inputs k d
input_seen inputs facts k d eight low =
    rw (all_given inputs facts eight) (get_or_append_left inputs (map (λ n. seen.Int n) facts) d k (omega arith))

-- a fact, in a place after the inputs
pub fact_seen : (inputs : List Seen) (facts : List ℤ) (k : ℕ) (d : Seen) → length inputs ≡ 8 → 8 ≤ k → k < 8 + length facts → get_or (sights inputs facts) k d ≡ seen.Int (fact_at facts (k - 8))
fact_seen inputs facts k d eight following within =
    rw (all_given inputs facts eight)
    (get_or-append_right inputs (map (λ n. seen.Int n) facts) 8 k d eight following
    ∙ get_or-map (λ n. seen.Int n) facts (k - 8) (pos 0) d (omega arith))

-- how many places are seen
pub length-sights : (inputs : List Seen) (facts : List ℤ) → length inputs ≡ 8 → length (sights inputs facts) ≡ 8 + length facts
length-sights inputs facts eight = rw (all_given inputs facts eight) (omega (arith, length-append inputs (map (λ n. seen.Int n) facts), length-map facts (λ n. seen.Int n)))
