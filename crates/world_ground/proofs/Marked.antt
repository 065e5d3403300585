-- Marks of a text, where a variable follows each of them.
use Rattle.std.proofs.Common.{◌≡◌, ℕ, ◌+◌, ◌<◌, ◌^◌, Bool, true, false, not, ◌&&◌, ◌||◌, ◌==◌, if◌then◌else◌, List, [], ◌∷◌, ◌++◌, map, length, refl, ◌∙◌, ap, arith}
use Rattle.std.specs.Prelude.{nat_le, decimal}
use Rattle.std.specs.List.{list_all}
use Rattle.std.proofs.lemmas.Bool.Decides.{nat_tests}
use Rattle.std.proofs.lemmas.Fmt.{decimal-digits_of}
use Rattle.std.specs.Int.Digits.{digits_of}
use Rattle.spec_script.proofs.Bools.{both}
use Rattle.spec_script.specs.Identifiers.{is_identifier, is_identifier_continue, is_identifier_start}
use Rattle.spec_world.specs.Worlds.{is_name}
use Rattle.spec_world_file.specs.Blocks.{after_marks, begins_with, filled, is_mark, is_variable, standing}

-- whether a byte is no mark
abbrev pub is_plain : ℕ → Bool
is_plain b = not (is_mark b)

pub ways : (b : Bool) {P : Type 0} → (b ≡ true → P) → (b ≡ false → P) → P
ways true t f = t refl
ways false t f = f refl

pub if_true : {A : Type 0} (b : Bool) (t e : A) → b ≡ true → (if b then t else e) ≡ t
if_true true t e h = refl
if_true false t e h = absurd (cc)

pub if_false : {A : Type 0} (b : Bool) (t e : A) → b ≡ false → (if b then t else e) ≡ e
if_false true t e h = absurd (cc)
if_false false t e h = refl

pub both_true : (a b : Bool) → a ≡ true → b ≡ true → (a && b) ≡ true
both_true true b p q = q
both_true false b p q = absurd (cc)

pub left_false : (a b : Bool) → a ≡ false → (a && b) ≡ false
left_false true b h = absurd (cc)
left_false false b h = refl

pub right_false : (a b : Bool) → b ≡ false → (a && b) ≡ false
right_false true b h = h
right_false false b h = refl

not_true : (a : Bool) → not a ≡ true → a ≡ false
not_true true h = absurd (cc)
not_true false h = refl

not_false : (a : Bool) → a ≡ false → not a ≡ true
not_false true h = absurd (cc)
not_false false h = refl

implied : (a b : Bool) → (not a || b) ≡ true → a ≡ true → b ≡ true
implied true b h p = h
implied false b h p = absurd (cc)

implies : (a b : Bool) → b ≡ true → (not a || b) ≡ true
implies true b h = h
implies false b h = refl

implies_not : (a b : Bool) → a ≡ false → (not a || b) ≡ true
implies_not true b h = absurd (cc)
implies_not false b h = refl

-- a variable is no mark
pub plain_variable : (b : ℕ) → is_variable b ≡ true → is_mark b ≡ false
plain_variable b h = grind (arith, nat_tests)

plain_continue : (b : ℕ) → is_identifier_continue b ≡ true → is_plain b ≡ true
plain_continue b h = not_false (is_mark b) (grind (arith, nat_tests))

plain_all : (bs : List ℕ) → list_all is_identifier_continue bs ≡ true → list_all is_plain bs ≡ true
plain_all [] h = refl
plain_all (b ∷ bs) h =
    let hs = both (is_identifier_continue b) (list_all is_identifier_continue bs) h in
    both_true (is_plain b) (list_all is_plain bs) (plain_continue b hs.0) (plain_all bs hs.1)

plain_identifier : (word : List ℕ) → is_identifier word ≡ true → list_all is_plain word ≡ true
plain_identifier [] h = refl
plain_identifier (b ∷ bs) h = plain_all (b ∷ bs) (both (is_identifier_start b) (list_all is_identifier_continue (b ∷ bs)) h).1

plain_name : (word : List ℕ) → is_name word ≡ true → list_all is_plain word ≡ true
plain_name word h = plain_identifier word (both (is_identifier word) (nat_le (length word) 64) h).0

plain_digit : (d : ℕ) → is_plain (48 + d) ≡ true
plain_digit d = not_false (is_mark (48 + d)) (grind (arith, nat_tests))

plain_digits : (ds : List ℕ) → list_all is_plain (map (λ d. 48 + d) ds) ≡ true
plain_digits [] = refl
plain_digits (d ∷ ds) = both_true (is_plain (48 + d)) (list_all is_plain (map (λ d. 48 + d) ds)) (plain_digit d) (plain_digits ds)

plain_decimal : (n : ℕ) → 0 < n → n < 2 ^ 64 → list_all is_plain (decimal n) ≡ true
plain_decimal n pos small = ap (list_all is_plain) (decimal-digits_of n pos small) ∙ plain_digits (digits_of 10 n)

pub plain_standing : (mark : ℕ) (value : List ℕ) (place : ℕ) → is_name value ≡ true → 0 < place → place < 2 ^ 64 → list_all is_plain (standing mark value place) ≡ true
plain_standing mark value place h pos small =
    ways (mark == 36)
    (λ t. ap (list_all is_plain) (if_true (mark == 36) value (decimal place) t) ∙ plain_name value h)
    (λ f. ap (list_all is_plain) (if_false (mark == 36) value (decimal place) f) ∙ plain_decimal place pos small)

-- ---- Where a variable follows each mark

-- what follows a mark is a variable, and after it a variable follows each mark again
pub after_pair : (b c : ℕ) (text : List ℕ) → is_mark b ≡ true → after_marks is_variable (b ∷ c ∷ text) ≡ true → (is_variable c ≡ true) × (after_marks is_variable text ≡ true)
after_pair b c text m h =
    let hs = both (not (is_mark b) || is_variable c) (after_marks is_variable (c ∷ text)) h in
    (implied (is_mark b) (is_variable c) hs.0 m, (both (not (is_mark c) || begins_with is_variable text) (after_marks is_variable text) hs.1).1)

pub after_one : (b : ℕ) (text : List ℕ) → after_marks is_variable (b ∷ text) ≡ true → after_marks is_variable text ≡ true
after_one b text h = (both (not (is_mark b) || begins_with is_variable text) (after_marks is_variable text) h).1

plain_first : (b : ℕ) (text : List ℕ) → is_mark b ≡ false → after_marks is_variable text ≡ true → after_marks is_variable (b ∷ text) ≡ true
plain_first b text m h = both_true (not (is_mark b) || begins_with is_variable text) (after_marks is_variable text) (implies_not (is_mark b) (begins_with is_variable text) m) h

plain_front : (front text : List ℕ) → list_all is_plain front ≡ true → after_marks is_variable text ≡ true → after_marks is_variable (front ++ text) ≡ true
plain_front [] text p h = h
plain_front (b ∷ front) text p h =
    let ps = both (is_plain b) (list_all is_plain front) p in
    plain_first b (front ++ text) (not_true (is_mark b) ps.0) (plain_front front text ps.1 h)

pair_first : (b c : ℕ) (text : List ℕ) → is_variable c ≡ true → after_marks is_variable text ≡ true → after_marks is_variable (b ∷ c ∷ text) ≡ true
pair_first b c text v h =
    both_true (not (is_mark b) || is_variable c) (after_marks is_variable (c ∷ text)) (implies (is_mark b) (is_variable c) v) (plain_first c text (plain_variable c v) h)

-- a byte that is no mark stays
pub filled_plain : (x : ℕ) (value : List ℕ) (place b : ℕ) (text : List ℕ) → is_mark b ≡ false → filled x value place (b ∷ text) ≡ b ∷ filled x value place text
filled_plain x value place b [] m = refl
filled_plain x value place b (c ∷ text) m = if_false (is_mark b && c == x) _ _ (left_false (is_mark b) (c == x) m)

-- the variable after a mark, where it is this one
pub filled_here : (x : ℕ) (value : List ℕ) (place b c : ℕ) (text : List ℕ) → is_mark b ≡ true → (c == x) ≡ true → filled x value place (b ∷ c ∷ text) ≡ standing b value place ++ filled x value place text
filled_here x value place b c text m e = if_true (is_mark b && c == x) _ _ (both_true (is_mark b) (c == x) m e)

-- and where it is another one
pub filled_other : (x : ℕ) (value : List ℕ) (place b c : ℕ) (text : List ℕ) → is_variable c ≡ true → (c == x) ≡ false → filled x value place (b ∷ c ∷ text) ≡ b ∷ c ∷ filled x value place text
filled_other x value place b c text v e =
    if_false (is_mark b && c == x) _ _ (right_false (is_mark b) (c == x) e) ∙ ap (λ t. b ∷ t) (filled_plain x value place c text (plain_variable c v))

module _ (x : ℕ) (value : List ℕ) (place : ℕ) (plain : (mark : ℕ) → list_all is_plain (standing mark value place) ≡ true) where
  -- where it has a value, a variable still follows each mark
  pub after_filled : (text : List ℕ) → after_marks is_variable text ≡ true → after_marks is_variable (filled x value place text) ≡ true
  after_filled [] h = h
  after_filled (b ∷ []) h = h
  after_filled (b ∷ c ∷ text) h =
      ways (is_mark b)
      (λ m. let hs = after_pair b c text m h in
      ways (c == x)
      (λ e. ap (after_marks is_variable) (filled_here x value place b c text m e) ∙ plain_front (standing b value place) (filled x value place text) (plain b) (after_filled text hs.1))
      (λ e. ap (after_marks is_variable) (filled_other x value place b c text hs.0 e) ∙ pair_first b c (filled x value place text) hs.0 (after_filled text hs.1)))
      (λ m. ap (after_marks is_variable) (filled_plain x value place b (c ∷ text) m) ∙ plain_first b (filled x value place (c ∷ text)) m (after_filled (c ∷ text) (after_one b (c ∷ text) h)))
