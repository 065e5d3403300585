-- The bytes before the first one that a search looks for.
use Rattle.std.proofs.Common.{◌≡◌, ℕ, ◌+◌, ◌≤◌, Bool, true, false, not, List, ◌++◌, length, take, drop, slice_index, Option, Some, None, refl, ap, sym, ◌∙◌, arith}
use Rattle.std.proofs.lemmas.List.{take-append-drop}
use Rattle.std.proofs.lemmas.Bool.Decides.{nat_tests}
use Rattle.std.proofs.lemmas.List.Folds.{prefix_len-append}
use Rattle.std.proofs.lemmas.List.Sums.{prefix_len_is}
use Rattle.std.specs.List.{prefix_len}
use Rattle.std.specs.Option.{unwrap_or}
use Rattle.memchr.specs.Find.{IsFirstByte}

not_true : (b : Bool) → (b ≡ true → ⊥) → b ≡ false
not_true true h = absurd (h refl)
not_true false h = refl

-- so many bytes do not pass the test of a search, and none is left where it finds nothing
pub before_found : (test p : ℕ → Bool) (bytes : List ℕ) (found : Option ℕ) → ((c : ℕ) → p c ≡ not (test c)) → IsFirstByte test bytes found
    → unwrap_or found (length bytes) ≡ prefix_len p bytes
before_found test p bytes None is h =
    sym (prefix_len_is p bytes (length bytes) 0 (omega arith) (λ k within. is (slice_index bytes k) ∙ ap not (not_true (test (slice_index bytes k)) (h k (omega arith) within))) (λ within. absurd (omega (arith, within))))
before_found test p bytes (Some n) is h =
    sym (prefix_len_is p bytes n 0 (omega (arith, h.0.high)) (λ k below. is (slice_index bytes k) ∙ ap not (not_true (test (slice_index bytes k)) (h.0.before k (omega arith) below))) (λ _. is (slice_index bytes n) ∙ ap not h.1))

both_pass : (p : ℕ → Bool) (xs ys : List ℕ) → length xs ≤ prefix_len p xs → prefix_len p xs ≤ length xs → prefix_len p xs + prefix_len p ys ≡ prefix_len p (xs ++ ys)
both_pass p xs ys all within =
    let e = prefix_len-append p xs ys in
    grind (arith, nat_tests)

-- where all of the first bytes pass, it goes on with the others
pub passed_on : (p : ℕ → Bool) (n : ℕ) (bytes few more : List ℕ) (near far : ℕ) → few ≡ take n bytes → more ≡ drop n bytes → near ≡ prefix_len p few → length few ≤ near → near ≤ length few
    → far ≡ prefix_len p more → near + far ≡ prefix_len p bytes
passed_on p n bytes few more near far front back is_near all within is_far =
    let whole : few ++ more ≡ bytes = ap (λ (xs : List ℕ). xs ++ more) front ∙ ap (λ (ys : List ℕ). take n bytes ++ ys) back ∙ take-append-drop n bytes in
    omega (arith, is_near, is_far, both_pass p few more (omega (arith, all, is_near)) (omega (arith, within, is_near)), ap (prefix_len p) whole)
