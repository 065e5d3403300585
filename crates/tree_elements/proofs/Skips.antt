-- What may be skipped at once in an instruction or a comment.
use Rattle.std.proofs.Common.{◌≡◌, ℕ, ◌+◌, ◌<◌, Bool, true, false, not, ◌==◌, ◌||◌, List, [], ◌∷◌, length, drop, Some, None, cond, refl, ap, sym, ◌∙◌, arith, slice_index, if◌then◌else◌}
use Rattle.std.proofs.lemmas.Bool.Decides.{nat_tests}
use Rattle.std.proofs.lemmas.Grind.{common_steps}
use Rattle.std.specs.List.{prefix_len}
use Rattle.spec_tree_file.specs.References.{begins_with}
use Rattle.tree_elements.specs.Reading.{following_first}

-- a byte that is neither 0 nor this one
abbrev pub passes : ℕ → ℕ → Bool
passes first c = not (c == first || c == 0)

-- a word does not begin with another byte than its first
begins_elsewhere : (first : ℕ) (tail : List ℕ) (c : ℕ) (cs : List ℕ) → (c == first) ≡ false → begins_with (first ∷ tail) (c ∷ cs) ≡ false
begins_elsewhere first tail c cs h = grind (arith, nat_tests)

neither_byte : (a b : Bool) → (a || b) ≡ false → (a ≡ false) × (b ≡ false)
neither_byte true b h = absurd (cc)
neither_byte false b h = (refl, h)

one_skipped : (word : List ℕ) (c : ℕ) (cs : List ℕ) → begins_with word (c ∷ cs) ≡ false → (c == 0) ≡ false → following_first word (c ∷ cs) ≡ following_first word cs
one_skipped word c cs b z =
    ap (λ (t : Bool). if t then Some (drop (length word) (c ∷ cs)) else (if c == 0 then None else following_first word cs)) b
    ∙ ap (λ (t : Bool). if t then None else following_first word cs) z

drop_one_more : (n : ℕ) (x : ℕ) (xs : List ℕ) → drop (1 + n) (x ∷ xs) ≡ drop n xs
drop_one_more n x xs = grind (arith, common_steps)

skipped_if : (first : ℕ) (tail : List ℕ) (c : ℕ) (cs : List ℕ) (b : Bool) → (c == first || c == 0) ≡ b
    → following_first (first ∷ tail) (drop (prefix_len (passes first) cs) cs) ≡ following_first (first ∷ tail) cs
    → following_first (first ∷ tail) (drop (cond (not b) (1 + prefix_len (passes first) cs) 0) (c ∷ cs)) ≡ following_first (first ∷ tail) (c ∷ cs)
skipped_if first tail c cs true e ih = refl
skipped_if first tail c cs false e ih =
    let here = neither_byte (c == first) (c == 0) e in
    ap (following_first (first ∷ tail)) (drop_one_more (prefix_len (passes first) cs) c cs) ∙ ih
    ∙ sym (one_skipped (first ∷ tail) c cs (begins_elsewhere first tail c cs here.0) here.1)

skipped_all : (first : ℕ) (tail bytes : List ℕ) → following_first (first ∷ tail) (drop (prefix_len (passes first) bytes) bytes) ≡ following_first (first ∷ tail) bytes
skipped_all first tail [] = refl
skipped_all first tail (c ∷ cs) = skipped_if first tail c cs (c == first || c == 0) refl (skipped_all first tail cs)

-- bytes that are neither 0 nor the first of the word
pub skipped_same : (word bytes : List ℕ) → 0 < length word → following_first word (drop (prefix_len (passes (slice_index word 0)) bytes) bytes) ≡ following_first word bytes
skipped_same [] bytes some = absurd (omega arith)
skipped_same (first ∷ tail) bytes some = skipped_all first tail bytes
