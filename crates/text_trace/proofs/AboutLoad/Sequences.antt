-- Texts of numbers in order, one after another, and how long they are.
use Rattle.std.proofs.Common.{◌≡◌, ℕ, zero, suc, ◌+◌, ◌*◌, ◌<◌, ◌≤◌, List, [], ◌∷◌, ◌++◌, Result, Ok, Err, OnOk, ◌∙◌, ap, length, sym, arith, append_assoc, append-nil}
use Rattle.std.specs.List.{flat_map, range_with_len}
use Rattle.std.proofs.Math.Nat.{mul-suc}
use Rattle.std.proofs.lemmas.List.{length-append}
use Rattle.std.proofs.lemmas.List.Concat.{flat_map-cons}
use Rattle.std.proofs.lemmas.Grind.{flat_map-append}
use Rattle.base_texts.specs.declared.stop.NoMemory.{NoMemory}
use Rattle.spec_output.specs.LoadTexts.{texts}

range_more : (first n : ℕ) → range_with_len first (suc n) ≡ range_with_len first n ++ (first + n) ∷ []
range_more first zero =
    let same : first ≡ first + zero = omega arith in
    ap (λ (x : ℕ). x ∷ []) same
range_more first (suc n) =
    let same : first + 1 + n ≡ first + suc n = omega arith in
    ap (λ (xs : List ℕ). first ∷ xs) (range_more (first + 1) n ∙ ap (λ (x : ℕ). range_with_len (first + 1) n ++ x ∷ []) same)

texts_more : (text : ℕ → List ℕ) (first n : ℕ) → texts text first (suc n) ≡ texts text first n ++ text (first + n)
texts_more text first n =
    ap (flat_map text) (range_more first n) ∙ flat_map-append text (range_with_len first n) ((first + n) ∷ [])
    ∙ ap (λ (ys : List ℕ). texts text first n ++ ys) (flat_map-cons text (first + n) [] ∙ append-nil (text (first + n)))

-- the text of the next number
pub next_text : (text : ℕ → List ℕ) (first n m : ℕ) (before now new : List ℕ) → first + n ≡ m → now ≡ before ++ texts text first n → new ≡ now ++ text m → new ≡ before ++ texts text first (n + 1)
next_text text first n m before now new is so_far more =
    let one : suc n ≡ n + 1 = omega arith in
    more ∙ ap (λ (xs : List ℕ). xs ++ text m) so_far ∙ append_assoc before (texts text first n) (text m)
    ∙ ap (λ (x : ℕ). before ++ (texts text first n ++ text x)) (sym is) ∙ ap (λ (xs : List ℕ). before ++ xs) (sym (texts_more text first n))
    ∙ ap (λ (x : ℕ). before ++ texts text first x) one

-- texts that are no longer than this
pub texts_are_short : (text : ℕ → List ℕ) (most first n : ℕ) → ((m : ℕ) → m < first + n → length (text m) ≤ most) → length (texts text first n) ≤ most * n
texts_are_short text most first zero short = omega arith
texts_are_short text most first (suc n) short =
    let front : length (texts text first n) ≤ most * n = texts_are_short text most first n (λ m low. short m (omega (arith, low))) in
    let last : length (text (first + n)) ≤ most = short (first + n) (omega arith) in
    let all : length (texts text first (suc n)) ≡ length (texts text first n) + length (text (first + n)) = ap length (texts_more text first n) ∙ length-append (texts text first n) (text (first + n)) in
    let product : most * suc n ≡ most * n + most = mul-suc most n in
    omega (arith, front, last, all, product)

-- ---- Texts that are put one after another

pub put_three : (a b c d x y z : List ℕ) → b ≡ a ++ x → c ≡ b ++ y → d ≡ c ++ z → d ≡ a ++ (x ++ (y ++ z))
put_three a b c d x y z p q r = r ∙ ap (λ (w : List ℕ). w ++ z) (q ∙ ap (λ (w : List ℕ). w ++ y) p) ∙ append_assoc (a ++ x) y z ∙ append_assoc a x (y ++ z)

pub last_of_three : (a b c d x y z : List ℕ) (result : Result (Unit {0}) NoMemory) → b ≡ a ++ x → c ≡ b ++ y → OnOk result (d ≡ c ++ z) → OnOk result (d ≡ a ++ (x ++ (y ++ z)))
last_of_three a b c d x y z (Ok done) p q r = put_three a b c d x y z p q r
last_of_three a b c d x y z (Err stopped) p q r = tt
