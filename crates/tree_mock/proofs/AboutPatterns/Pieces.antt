-- What stands between the stars of a pattern, and where it stands in a text.
use Rattle.std.proofs.Common.{◌≡◌, ◌+◌, ◌-◌, ◌<◌, ◌≤◌, ℕ, suc, zero, List, [], ◌∷◌, ◌++◌, Bool, true, false, not, cond, ◌&&◌, ◌==◌, nat_eq, length, length-append, length-drop, length-take-le, take, drop, refl, ap, sym, ◌∙◌, subst, append_assoc, arith}
use Rattle.std.proofs.Math.Seq.{take-append_seam, drop-append_seam, drop-drop}
use Rattle.std.proofs.lemmas.Bool.Decides.{nat_tests}
use Rattle.std.proofs.lemmas.Grind.{common_steps}
use Rattle.std.proofs.lemmas.List.{take-append-drop}
use Rattle.std.proofs.lemmas.List.Sums.{prefix_len-le-length}
use Rattle.std.proofs.lemmas.Slice.Eq.{bytes_eq-Decides}
use Rattle.std.specs.Prelude.{if◌then◌else◌}
use Rattle.std.specs.List.{ends_with}
use Rattle.std.specs.Str.{bytes_eq}
use Rattle.memchr.specs.Find.{Nowhere, OccursAt}
use Rattle.memchr.proofs.lemmas.MatchLemmas.{OccursAt-from_part, OccursAt-split}
use Rattle.spec_tree_file.specs.Patterns.{begins, is_empty, is_star, matches, some_end}
use Rattle.tree_mock.specs.Patterns.{before_star, is_plain}
use Rattle.tree_mock.proofs.AboutPatterns.Ends.{End-within, some_end-after, some_end-found}
use Rattle.tree_mock.proofs.AboutPatterns.Stars.{begun, itself}

pub ruleset prefixes = prefix_len-le-length

-- ---- Up to the first star

take_one_more : (n : ℕ) (x : ℕ) (xs : List ℕ) → take (1 + n) (x ∷ xs) ≡ x ∷ take n xs
take_one_more n x xs = grind (arith, common_steps)

drop_one_more : (n : ℕ) (x : ℕ) (xs : List ℕ) → drop (1 + n) (x ∷ xs) ≡ drop n xs
drop_one_more n x xs = grind (arith, common_steps)

plain_if : (x : ℕ) (xs : List ℕ) (b : Bool) → not (is_star x) ≡ b → is_plain (take (before_star xs) xs) ≡ true → is_plain (take (cond b (1 + before_star xs) 0) (x ∷ xs)) ≡ true
plain_if x xs true e ih = rw take_one_more (rw (e, ih) refl)
plain_if x xs false e ih = refl

-- they are plain
pub plain_before : (xs : List ℕ) → is_plain (take (before_star xs) xs) ≡ true
plain_before [] = refl
plain_before (x ∷ xs) = plain_if x xs (not (is_star x)) refl (plain_before xs)

is_star-byte : (byte : ℕ) → not (is_star byte) ≡ false → byte ≡ 42
is_star-byte byte h = grind (arith, nat_tests)

star_if : (x : ℕ) (xs : List ℕ) (b : Bool) → not (is_star x) ≡ b → (before_star xs < length xs → drop (before_star xs) xs ≡ 42 ∷ drop (1 + before_star xs) xs)
    → cond b (1 + before_star xs) 0 < length (x ∷ xs) → drop (cond b (1 + before_star xs) 0) (x ∷ xs) ≡ 42 ∷ drop (1 + cond b (1 + before_star xs) 0) (x ∷ xs)
star_if x xs true e ih less = rw (drop_one_more, drop_one_more) (ih (omega (arith, less)))
star_if x xs false e ih less = rw drop_one_more (ap (λ (c : ℕ). c ∷ xs) (is_star-byte x e))

-- and the star comes after them
pub star_after : (xs : List ℕ) → before_star xs < length xs → drop (before_star xs) xs ≡ 42 ∷ drop (1 + before_star xs) xs
star_after [] less = absurd (omega (arith, less))
star_after (x ∷ xs) less = star_if x xs (not (is_star x)) refl (star_after xs) less

unstarred_if : (x : ℕ) (xs : List ℕ) (b : Bool) → not (is_star x) ≡ b → before_star (drop (before_star xs) xs) ≡ 0 → before_star (drop (cond b (1 + before_star xs) 0) (x ∷ xs)) ≡ 0
unstarred_if x xs true e ih = rw drop_one_more ih
unstarred_if x xs false e ih = ap (λ (b : Bool). cond b (1 + before_star xs) 0) e

-- so no byte comes before the first star of what is left
pub unstarred : (xs : List ℕ) → before_star (drop (before_star xs) xs) ≡ 0
unstarred [] = refl
unstarred (x ∷ xs) = unstarred_if x xs (not (is_star x)) refl (unstarred xs)

-- ---- Plain bytes stand for themselves

first_half : (a b : Bool) → (a && b) ≡ true → a ≡ true
first_half true b h = refl
first_half false b h = absurd (cc)

second_half : (a b : Bool) → (a && b) ≡ true → b ≡ true
second_half true b h = h
second_half false b h = absurd (cc)

not_true : (b : Bool) → not b ≡ true → b ≡ false
not_true true h = absurd (cc)
not_true false h = refl

-- a text that matches begins with the bytes before the first star
pub passed_first : (passed pattern text : List ℕ) → is_plain passed ≡ true → matches (passed ++ pattern) text ≡ true → (rest : List ℕ) × (text ≡ passed ++ rest) × (matches pattern rest ≡ true)
passed_first [] pattern text p h = (text, refl, h)
passed_first (byte ∷ passed) pattern text p h =
    let star : is_star byte ≡ false = not_true (is_star byte) (first_half (not (is_star byte)) (is_plain passed) p) in
    let m = matches (passed ++ pattern) in
    let here = begun byte m text (sym (ap (λ (b : Bool). if b then some_end m text else begins byte m text) star) ∙ h) in
    let below = passed_first passed pattern here.0 (second_half (not (is_star byte)) (is_plain passed) p) here.2 in
    (below.0, here.1 ∙ ap (λ (t : List ℕ). byte ∷ t) below.1, below.2)

-- and one that begins so matches where the rest does
passed_on : (passed pattern rest : List ℕ) → is_plain passed ≡ true → matches pattern rest ≡ true → matches (passed ++ pattern) (passed ++ rest) ≡ true
passed_on [] pattern rest p h = h
passed_on (byte ∷ passed) pattern rest p h =
    let star : is_star byte ≡ false = not_true (is_star byte) (first_half (not (is_star byte)) (is_plain passed) p) in
    let m = matches (passed ++ pattern) in
    let text = byte ∷ (passed ++ rest) in
    ap (λ (b : Bool). if b then some_end m text else begins byte m text) star
    ∙ itself byte m (passed ++ rest) (passed_on passed pattern rest (second_half (not (is_star byte)) (is_plain passed) p) h)

same_bool : (a b : Bool) → (a ≡ true → b ≡ true) → (b ≡ true → a ≡ true) → a ≡ b
same_bool true b there back = sym (there refl)
same_bool false true there back = back refl
same_bool false false there back = refl

pub false_from : (a : Bool) → (a ≡ true → ⊥) → a ≡ false
false_from true h = absurd (h refl)
false_from false h = refl

cancel : (front x y : List ℕ) → front ++ x ≡ front ++ y → x ≡ y
cancel [] x y h = h
cancel (c ∷ front) x y h = cancel front x y (cc)

-- the first piece is the front of the text
pub front_same : (piece pattern text : List ℕ) → is_plain piece ≡ true → bytes_eq (take (length piece) text) piece ≡ true
    → matches (piece ++ pattern) text ≡ matches pattern (drop (length piece) text)
front_same piece pattern text p h =
    let rest = drop (length piece) text in
    let parts : piece ++ rest ≡ text = ap (λ (t : List ℕ). t ++ rest) (sym ((bytes_eq-Decides (take (length piece) text) piece).0 h)) ∙ take-append-drop (length piece) text in
    same_bool (matches (piece ++ pattern) text) (matches pattern rest)
    (λ m. let found = passed_first piece pattern text p m in
    ap (matches pattern) (cancel piece rest found.0 (parts ∙ found.1)) ∙ found.2)
    (λ m. subst (λ (t : List ℕ). matches (piece ++ pattern) t ≡ true) parts (passed_on piece pattern rest p m))

pub front_none : (piece pattern text : List ℕ) → is_plain piece ≡ true → bytes_eq (take (length piece) text) piece ≡ false → matches (piece ++ pattern) text ≡ false
front_none piece pattern text p h =
    false_from (matches (piece ++ pattern) text)
    (λ m. let found = passed_first piece pattern text p m in
    let front : take (length piece) text ≡ piece = ap (take (length piece)) found.1 ∙ take-append_seam piece found.0 in
    let both : true ≡ false = sym ((bytes_eq-Decides (take (length piece) text) piece).1 front) ∙ h in
    cc)

-- ---- A piece after a star

pub append_nothing : (xs : List ℕ) → xs ++ [] ≡ xs
append_nothing [] = refl
append_nothing (x ∷ xs) = ap (λ (t : List ℕ). x ∷ t) (append_nothing xs)

pub nothing_left : (text : List ℕ) → is_empty text ≡ true → text ≡ []
nothing_left [] h = refl
nothing_left (byte ∷ text) h = absurd (cc)

pub ends_so : (piece before : List ℕ) → drop (length (before ++ piece) - length piece) (before ++ piece) ≡ piece
ends_so piece before =
    let start : length (before ++ piece) - length piece ≡ length before = omega (arith, length-append before piece) in
    ap (λ (n : ℕ). drop n (before ++ piece)) start ∙ drop-append_seam before piece

-- the last piece is the end of the text
pub last_same : (piece text : List ℕ) → is_plain piece ≡ true → some_end (matches piece) text ≡ ends_with nat_eq text piece
last_same piece text p =
    let start = length text - length piece in
    same_bool (some_end (matches piece) text) (ends_with nat_eq text piece)
    (λ h. let found = some_end-found (matches piece) text h in
    let here = passed_first piece [] found.0 p (ap (λ (q : List ℕ). matches q found.0) (append_nothing piece) ∙ found.2) in
    let whole : found.0 ≡ piece = here.1 ∙ ap (λ (t : List ℕ). piece ++ t) (nothing_left here.0 here.2) ∙ append_nothing piece in
    let text_is : text ≡ found.1.0 ++ piece = found.1.1 ∙ ap (λ (t : List ℕ). found.1.0 ++ t) whole in
    let last : drop start text ≡ piece = ap (λ (t : List ℕ). drop (length t - length piece) t) text_is ∙ ends_so piece found.1.0 in
    (bytes_eq-Decides piece (drop start text)).1 (sym last))
    (λ h. let same : piece ≡ drop start text = (bytes_eq-Decides piece (drop start text)).0 h in
    let itself_matches : matches piece piece ≡ true =
    ap (λ (q : List ℕ). matches q q) (sym (append_nothing piece)) ∙ passed_on piece [] [] p refl in
    subst (λ (t : List ℕ). some_end (matches piece) t ≡ true)
    (ap (λ (t : List ℕ). take start text ++ t) same ∙ take-append-drop start text)
    (some_end-after (matches piece) (take start text) piece itself_matches))

-- a piece and a star after it stand somewhere in a text that matches
record Stands (piece pattern text : List ℕ) : Type 0 where
  before : List ℕ
  rest : List ℕ
  is : text ≡ before ++ (piece ++ rest)
  goes_on : some_end (matches pattern) rest ≡ true

stands : (piece pattern text : List ℕ) → is_plain piece ≡ true → some_end (matches (piece ++ 42 ∷ pattern)) text ≡ true → Stands piece pattern text
stands piece pattern text p h =
    let found = some_end-found (matches (piece ++ 42 ∷ pattern)) text h in
    let here = passed_first piece (42 ∷ pattern) found.0 p found.2 in
    record { before = found.1.0; rest = here.0; is = found.1.1 ∙ ap (λ (t : List ℕ). found.1.0 ++ t) here.1; goes_on = here.2 }

occurs : (piece before rest text : List ℕ) → text ≡ before ++ (piece ++ rest) → OccursAt text piece (length before)
occurs piece before rest text is =
    OccursAt-from_part text piece (length before)
    (omega (arith, ap (λ (t : List ℕ). length t) is, length-append before (piece ++ rest), length-append piece rest))
    (ap (λ (t : List ℕ). take (length piece) (drop (length before) t)) is
    ∙ ap (take (length piece)) (drop-append_seam before (piece ++ rest)) ∙ take-append_seam piece rest)

-- where the piece occurs nowhere, nothing matches
pub none_same : (piece pattern text : List ℕ) → is_plain piece ≡ true → Nowhere (OccursAt text piece) 0 (length text + 1) → some_end (matches (piece ++ 42 ∷ pattern)) text ≡ false
none_same piece pattern text p nowhere =
    false_from (some_end (matches (piece ++ 42 ∷ pattern)) text)
    (λ h. let s = stands piece pattern text p h in
    nowhere (length s.before) (omega arith) (omega (arith, ap (λ (t : List ℕ). length t) s.is, length-append s.before (piece ++ s.rest)))
    (occurs piece s.before s.rest text s.is))

at_least : (a b : ℕ) → (b < a → ⊥) → a ≤ b
at_least zero b h = omega arith
at_least (suc a) zero h = absurd (h (omega arith))
at_least (suc a) (suc b) h = let below : a ≤ b = at_least a b (λ less. h (omega (arith, less))) in omega (arith, below)

longer : (test : List ℕ → Bool) (before rest : List ℕ) → some_end test rest ≡ true → some_end test (before ++ rest) ≡ true
longer test before rest h =
    let found = some_end-found test rest h in
    subst (λ (t : List ℕ). some_end test t ≡ true)
    (append_assoc before found.1.0 found.0 ∙ ap (λ (t : List ℕ). before ++ t) (sym found.1.1))
    (some_end-after test (before ++ found.1.0) found.0 found.2)

-- where it first occurs, what follows decides: the star after it stands for what a later place would leave
pub found_same : (piece pattern text : List ℕ) (place : ℕ) → is_plain piece ≡ true → OccursAt text piece place → Nowhere (OccursAt text piece) 0 place
    → some_end (matches (piece ++ 42 ∷ pattern)) text ≡ some_end (matches pattern) (drop (place + length piece) text)
found_same piece pattern text place p here nowhere =
    let rest = drop (place + length piece) text in
    let front = take place text in
    let parts : front ++ (piece ++ rest) ≡ text =
    ap (λ (t : List ℕ). front ++ t) (sym (OccursAt-split text piece place here)) ∙ take-append-drop place text in
    same_bool (some_end (matches (piece ++ 42 ∷ pattern)) text) (some_end (matches pattern) rest)
    (λ h. let s = stands piece pattern text p h in
    let late : place ≤ length s.before = at_least place (length s.before) (λ less. nowhere (length s.before) (omega arith) less (occurs piece s.before s.rest text s.is)) in
    let short : length front ≤ place = omega (arith, length-take-le place text (omega (arith, here.fits))) in
    let end = End-within (s.before ++ piece) (front ++ piece) s.rest rest
    (append_assoc s.before piece s.rest ∙ sym s.is ∙ sym parts ∙ sym (append_assoc front piece rest))
    (omega (arith, late, short, length-append s.before piece, length-append front piece)) in
    subst (λ (t : List ℕ). some_end (matches pattern) t ≡ true) (sym end.1) (longer (matches pattern) end.0 s.rest s.goes_on))
    (λ h. subst (λ (t : List ℕ). some_end (matches (piece ++ 42 ∷ pattern)) t ≡ true) parts
    (some_end-after (matches (piece ++ 42 ∷ pattern)) front (piece ++ rest) (passed_on piece (42 ∷ pattern) rest p h)))

-- ---- What is left of a pattern, cut at its first star

-- what comes before the star, and what comes after it
record Cut (left piece more : List ℕ) (count : ℕ) : Type 0 where
  counted : count ≡ before_star left
  piece_is : piece ≡ take count left
  more_is : more ≡ drop count left

plain_piece : (left piece more : List ℕ) (count : ℕ) → Cut left piece more count → is_plain piece ≡ true
plain_piece left piece more count cut =
    ap is_plain (cut.piece_is ∙ ap (λ (n : ℕ). take n left) cut.counted) ∙ plain_before left

whole : (left piece more : List ℕ) (count : ℕ) → Cut left piece more count → piece ++ more ≡ left
whole left piece more count cut =
    ap (λ (t : List ℕ). t ++ more) cut.piece_is ∙ ap (λ (t : List ℕ). take count left ++ t) cut.more_is ∙ take-append-drop count left

same_tail : (a b : ℕ) (x y : List ℕ) → a ∷ x ≡ b ∷ y → x ≡ y
same_tail a b x y h = cc

-- the star comes between them
starred : (left piece more next : List ℕ) (star count : ℕ) → Cut left piece more count → more ≡ star ∷ next → piece ++ 42 ∷ next ≡ left
starred left piece more next star count cut is =
    let here : drop count left ≡ star ∷ next = sym cut.more_is ∙ is in
    let inside : before_star left < length left =
    omega (arith, cut.counted, length-drop count left, ap (λ (t : List ℕ). length t) here) in
    let at : drop count left ≡ 42 ∷ drop (1 + before_star left) left = ap (λ (n : ℕ). drop n left) cut.counted ∙ star_after left inside in
    let next_is : next ≡ drop (1 + before_star left) left = same_tail star 42 next (drop (1 + before_star left) left) (sym here ∙ at) in
    ap (λ (t : List ℕ). piece ++ 42 ∷ t) next_is ∙ ap (λ (t : List ℕ). piece ++ t) (sym at ∙ sym cut.more_is) ∙ whole left piece more count cut

no_bytes : (xs : List ℕ) → length xs ≡ 0 → xs ≡ []
no_bytes [] h = refl
no_bytes (x ∷ xs) h = absurd (omega (arith, h))

pub last_left : (left rest piece more : List ℕ) (count : ℕ) → count ≡ before_star left → piece ≡ take count left → more ≡ drop count left → length more ≡ 0
    → ends_with nat_eq rest piece ≡ some_end (matches left) rest
last_left left rest piece more count counted piece_is more_is end =
    let cut : Cut left piece more count = record { counted = counted; piece_is = piece_is; more_is = more_is } in
    let is : piece ≡ left = sym (append_nothing piece) ∙ ap (λ (t : List ℕ). piece ++ t) (sym (no_bytes more end)) ∙ whole left piece more count cut in
    sym (last_same piece rest (plain_piece left piece more count cut)) ∙ ap (λ (p : List ℕ). some_end (matches p) rest) is

pub none_left : (left rest piece more next : List ℕ) (star count : ℕ) → count ≡ before_star left → piece ≡ take count left → more ≡ drop count left → more ≡ star ∷ next
    → Nowhere (OccursAt rest piece) 0 (length rest + 1) → false ≡ some_end (matches left) rest
none_left left rest piece more next star count counted piece_is more_is is nowhere =
    let cut : Cut left piece more count = record { counted = counted; piece_is = piece_is; more_is = more_is } in
    sym (none_same piece next rest (plain_piece left piece more count cut) nowhere)
    ∙ ap (λ (p : List ℕ). some_end (matches p) rest) (starred left piece more next star count cut is)

pub found_left : (left rest piece more next found following : List ℕ) (star count place : ℕ) → count ≡ before_star left → piece ≡ take count left → more ≡ drop count left
    → more ≡ star ∷ next → Nowhere (OccursAt rest piece) 0 place → OccursAt rest piece place → found ≡ drop place rest → following ≡ drop (length piece) found
    → some_end (matches next) following ≡ some_end (matches left) rest
found_left left rest piece more next found following star count place counted piece_is more_is is before here found_is following_is =
    let cut : Cut left piece more count = record { counted = counted; piece_is = piece_is; more_is = more_is } in
    let passed : following ≡ drop (place + length piece) rest =
    following_is ∙ ap (drop (length piece)) found_is ∙ drop-drop (length piece) place rest in
    ap (λ (t : List ℕ). some_end (matches next) t) passed
    ∙ sym (found_same piece next rest place (plain_piece left piece more count cut) here before)
    ∙ ap (λ (p : List ℕ). some_end (matches p) rest) (starred left piece more next star count cut is)

-- the piece before the first star is the front of the text, or nothing matches
pub front_left : (left text piece more : List ℕ) (count : ℕ) → count ≡ before_star left → piece ≡ take count left → more ≡ drop count left
    → bytes_eq (take (length piece) text) piece ≡ false → false ≡ matches left text
front_left left text piece more count counted piece_is more_is differs =
    let cut : Cut left piece more count = record { counted = counted; piece_is = piece_is; more_is = more_is } in
    sym (front_none piece more text (plain_piece left piece more count cut) differs)
    ∙ ap (λ (p : List ℕ). matches p text) (whole left piece more count cut)

-- where it is, the rest decides
pub passed_left : (left text piece more rest : List ℕ) (count : ℕ) → count ≡ before_star left → piece ≡ take count left → more ≡ drop count left
    → bytes_eq (take (length piece) text) piece ≡ true → rest ≡ drop (length piece) text → matches more rest ≡ matches left text
passed_left left text piece more rest count counted piece_is more_is same rest_is =
    let cut : Cut left piece more count = record { counted = counted; piece_is = piece_is; more_is = more_is } in
    ap (matches more) rest_is
    ∙ sym (front_same piece more text (plain_piece left piece more count cut) same)
    ∙ ap (λ (p : List ℕ). matches p text) (whole left piece more count cut)

pub star_left : (pattern next text : List ℕ) (star : ℕ) → before_star pattern ≡ 0 → pattern ≡ star ∷ next → some_end (matches next) text ≡ matches pattern text
star_left pattern next text star none is =
    let some : before_star pattern < length pattern = omega (arith, none, ap (λ (t : List ℕ). length t) is) in
    let begun : pattern ≡ 42 ∷ drop 1 pattern = sym (ap (λ (n : ℕ). drop n pattern) none) ∙ star_after pattern some ∙ ap (λ (n : ℕ). 42 ∷ drop (1 + n) pattern) none in
    let rest : next ≡ drop 1 pattern = same_tail star 42 next (drop 1 pattern) (sym is ∙ begun) in
    ap (λ (t : List ℕ). some_end (matches t) text) rest ∙ sym (ap (λ (p : List ℕ). matches p text) begun)

eq_from_test : (a b : ℕ) → (a == b) ≡ true → a ≡ b
eq_from_test a b h = grind (arith, nat_tests)

empty_same : (xs : List ℕ) → (length xs == 0) ≡ is_empty xs
empty_same [] = refl
empty_same (x ∷ xs) =
    false_from (length (x ∷ xs) == 0)
    (λ e. let none : length (x ∷ xs) ≡ 0 = eq_from_test (length (x ∷ xs)) 0 e in absurd (omega (arith, none)))

pub nothing_more : (more rest : List ℕ) → length more ≡ 0 → (length rest == 0) ≡ matches more rest
nothing_more more rest none = empty_same rest ∙ sym (ap (λ (p : List ℕ). matches p rest) (no_bytes more none))
