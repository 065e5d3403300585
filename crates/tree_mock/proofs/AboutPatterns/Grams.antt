-- What stands in the texts that a pattern matches: each three bytes of it that have no star.
use Rattle.std.proofs.Common.{◌≡◌, ◌≢◌, ◌+◌, ◌<◌, ◌≤◌, ℕ, List, [], ◌∷◌, ◌++◌, Bool, true, false, not, ◌&&◌, nat_eq, length, length-append, drop, take, get_or, slice_set, refl, ap, sym, ◌∙◌, append_assoc, arith}
use Rattle.std.proofs.Math.Seq.{drop-append_seam}
use Rattle.std.proofs.lemmas.Bool.Decides.{nat_tests}
use Rattle.std.proofs.lemmas.Grind.{get_or-set_at}
use Rattle.std.proofs.lemmas.List.{drop_more, get_or-drop, get_or-set_other, take-append-drop}
use Rattle.std.specs.Prelude.{if◌then◌else◌, Option}
use Rattle.spec_tree_file.specs.Patterns.{begins, is_star, matches, some_end}
use Rattle.tree_mock.specs.Grams.{IsGram, Lacks, Stands, place, place_at}
use Rattle.tree_mock.specs.Patterns.{is_plain}
use Rattle.tree_mock.proofs.AboutPatterns.Ends.{some_end-found}
use Rattle.tree_mock.proofs.AboutPatterns.Pieces.{false_from, passed_first}
use Rattle.tree_mock.proofs.AboutPatterns.Stars.{begun}

-- ---- What stands in a text

-- the piece stands in the text
abbrev Held : List ℕ → List ℕ → Type 0
Held piece text = (before : List ℕ) × (rest : List ℕ) × (text ≡ before ++ (piece ++ rest))

held_by : (byte : ℕ) (pattern piece text : List ℕ) (b : Bool) → is_star byte ≡ b → ((rest : List ℕ) → matches pattern rest ≡ true → Held piece rest)
    → (if b then some_end (matches pattern) text else begins byte (matches pattern) text) ≡ true → Held piece text
held_by byte pattern piece text true star inner h =
    let found = some_end-found (matches pattern) text h in
    let below = inner found.0 found.2 in
    (found.1.0 ++ below.0, below.1, found.1.1 ∙ ap (λ (t : List ℕ). found.1.0 ++ t) below.2 ∙ sym (append_assoc found.1.0 below.0 (piece ++ below.1)))
held_by byte pattern piece text false star inner h =
    let found = begun byte (matches pattern) text h in
    let below = inner found.0 found.2 in
    (byte ∷ below.0, below.1, found.1 ∙ ap (λ (t : List ℕ). byte ∷ t) below.2)

held : (beginning piece more text : List ℕ) → is_plain piece ≡ true → matches (beginning ++ (piece ++ more)) text ≡ true → Held piece text
held [] piece more text p h = let found = passed_first piece more text p h in ([], found.0, found.1)
held (byte ∷ beginning) piece more text p h =
    held_by byte (beginning ++ (piece ++ more)) piece text (is_star byte) refl (λ rest m. held beginning piece more rest p m) h

-- ---- Three bytes

unstarred_by : (byte : ℕ) (b : Bool) → is_star byte ≡ b → byte ≢ 42 → not b ≡ true
unstarred_by byte true star other = absurd (other (grind (arith, nat_tests)))
unstarred_by byte false star other = refl

all_true : (a b c : Bool) → a ≡ true → b ≡ true → c ≡ true → (a && (b && (c && true))) ≡ true
all_true true true true p q r = refl
all_true true true false p q r = absurd (cc)
all_true true false c p q r = absurd (cc)
all_true false b c p q r = absurd (cc)

plain_three : (x y z : ℕ) → x ≢ 42 → y ≢ 42 → z ≢ 42 → is_plain (x ∷ y ∷ z ∷ []) ≡ true
plain_three x y z p q r =
    all_true (not (is_star x)) (not (is_star y)) (not (is_star z)) (unstarred_by x (is_star x) refl p) (unstarred_by y (is_star y) refl q) (unstarred_by z (is_star z) refl r)

three_at : (text : List ℕ) (at : ℕ) → at + 3 ≤ length text → drop at text ≡ get_or text at 0 ∷ get_or text (at + 1) 0 ∷ get_or text (at + 2) 0 ∷ drop (at + 3) text
three_at text at within =
    let two : (at + 1) + 1 ≡ at + 2 = omega arith in
    let three : (at + 2) + 1 ≡ at + 3 = omega arith in
    drop_more text at 0 (omega (arith, within))
    ∙ ap (λ (t : List ℕ). get_or text at 0 ∷ t) (drop_more text (at + 1) 0 (omega (arith, within))
    ∙ ap (λ (t : List ℕ). get_or text (at + 1) 0 ∷ t) (ap (λ (n : ℕ). drop n text) two ∙ drop_more text (at + 2) 0 (omega (arith, within))
    ∙ ap (λ (n : ℕ). get_or text (at + 2) 0 ∷ drop n text) three))

from_seam : (text before : List ℕ) (x y z : ℕ) (rest : List ℕ) → text ≡ before ++ (x ∷ y ∷ z ∷ rest) → place x y z ≡ place_at text (length before)
from_seam text before x y z rest is =
    let at = length before in
    let here : drop at text ≡ x ∷ y ∷ z ∷ rest = ap (drop at) is ∙ drop-append_seam before (x ∷ y ∷ z ∷ rest) in
    let none : at + 0 ≡ at = omega arith in
    let first : x ≡ get_or text at 0 = sym (ap (λ (t : List ℕ). get_or t 0 0) here) ∙ get_or-drop at text 0 0 ∙ ap (λ (n : ℕ). get_or text n 0) none in
    let second : y ≡ get_or text (at + 1) 0 = sym (ap (λ (t : List ℕ). get_or t 1 0) here) ∙ get_or-drop at text 1 0 in
    let third : z ≡ get_or text (at + 2) 0 = sym (ap (λ (t : List ℕ). get_or t 2 0) here) ∙ get_or-drop at text 2 0 in
    ap (λ (n : ℕ). place n y z) first ∙ ap (λ (n : ℕ). place (get_or text at 0) n z) second ∙ ap (λ (n : ℕ). place (get_or text at 0) (get_or text (at + 1) 0) n) third

stands_by : (text : List ℕ) (p x y z : ℕ) → p ≡ place x y z → Held (x ∷ y ∷ z ∷ []) text → (at : ℕ) × (at + 3 ≤ length text) × (p ≡ place_at text at)
stands_by text p x y z is found =
    let same : length text ≡ length (found.0 ++ (x ∷ y ∷ z ∷ found.1)) = ap (λ (t : List ℕ). length t) found.2 in
    (length found.0, omega (arith, same, length-append found.0 (x ∷ y ∷ z ∷ found.1)), is ∙ from_seam text found.0 x y z found.1 found.2)

-- a text that a pattern matches has three bytes of that place too
stands_too : (pattern text : List ℕ) (p : ℕ) → Stands pattern p → matches pattern text ≡ true → (at : ℕ) × (at + 3 ≤ length text) × (p ≡ place_at text at)
stands_too pattern text p s h =
    let x = get_or pattern s.at 0 in
    let y = get_or pattern (s.at + 1) 0 in
    let z = get_or pattern (s.at + 2) 0 in
    let piece = x ∷ y ∷ z ∷ [] in
    let more = drop (s.at + 3) pattern in
    let whole : take s.at pattern ++ (piece ++ more) ≡ pattern =
    ap (λ (t : List ℕ). take s.at pattern ++ t) (sym (three_at pattern s.at s.within)) ∙ take-append-drop s.at pattern in
    stands_by text p x y z s.is
    (held (take s.at pattern) piece more text (plain_three x y z s.first s.second s.third) (ap (λ (q : List ℕ). matches q text) whole ∙ h))

-- a pattern matches no path that lacks them
pub lacking : (pattern path : List ℕ) (gram : Option ℕ) → IsGram pattern gram → Lacks path gram → matches pattern path ≡ false
lacking pattern path gram is lacks =
    false_from (matches pattern path)
    (λ m. let found = stands_too pattern path lacks.0 (is lacks.0 lacks.1) m in
    lacks.2 found.0 found.1 found.2)

-- ---- The places that are seen

still_by : (seen : List Bool) (p q : ℕ) (b : Bool) → nat_eq q p ≡ b → p < length seen → (q ≢ p → get_or seen q false ≡ true) → get_or (slice_set seen p true) q false ≡ true
still_by seen p q true same within before =
    let here : q ≡ p = grind (arith, nat_tests) in
    get_or-set_at seen p q true false here within
still_by seen p q false other within before =
    let there : q ≢ p = λ (e : q ≡ p). grind (arith, nat_tests) in
    get_or-set_other seen p q true false there ∙ before there

at_most : (k n : ℕ) → k < n + 1 → (k ≡ n → ⊥) → k < n
at_most k n less other = omega (arith, less, other)

-- the places with one more
pub seen_more : (text : List ℕ) (seen : List Bool) (at p : ℕ) → p < length seen → ((k : ℕ) → k < at → get_or seen (place_at text k) false ≡ true) → p ≡ place_at text at
    → (k : ℕ) → k < at + 1 → get_or (slice_set seen p true) (place_at text k) false ≡ true
seen_more text seen at p within before is k less =
    still_by seen p (place_at text k) (nat_eq (place_at text k) p) refl within
    (λ other. before k (at_most k at less (λ same. other (ap (place_at text) same ∙ sym is))))
