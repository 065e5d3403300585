-- Digits, and what a value says part by part.
use Rattle.std.proofs.Common.{◌≡◌, ℕ, zero, suc, ◌+◌, ◌*◌, ◌<◌, ◌≤◌, Bool, true, false, ◌&&◌, ◌||◌, nat_lt, nat_le, List, [], ◌∷◌, ◌++◌, length, get_or, take, drop, Option, Some, None, refl, ap, sym, ◌∙◌, subst, append_assoc, append-nil, arith, if◌then◌else◌}
use Rattle.std.specs.Prelude.{codes}
use Rattle.std.proofs.lemmas.Bool.Decides.{nat_tests}
use Rattle.std.proofs.lemmas.List.{take-append-drop, length-append, length-drop, get_or-drop}
use Rattle.std.proofs.lemmas.Grind.{common_steps}
use Rattle.std.proofs.lemmas.Str.{encode_ascii, IsUtf8-encode, IsUtf8-drop, IsCharBoundary-after_ascii}
use Rattle.std.specs.Char.{encode_utf8, is_digit, digit_value, IsScalar}
use Rattle.std.specs.List.{prefix_len, list_all}
use Rattle.std.specs.Str.{IsUtf8}
use Rattle.std.specs.Str.Parse.{digits_value, digits_value_after}
use Rattle.spec_script.proofs.Bools.{both}
use Rattle.spec_tree_file.specs.References.{begins_with, is_character, numeric, reference_of, is_plain_byte, decoded_from, decoded}
use Rattle.spec_tree_file.specs.Marks.{is_not_zero}
use Rattle.tree_elements.specs.Reading.{begins}
use Rattle.tree_elements.proofs.Asides.{begins_is}
use Rattle.tree_elements.proofs.Prefixes.{taken, left, some_inj, if_some}
use Rattle.tree_elements.proofs.Cuts.{cut_front, cut_rest, plain_stops}

le-times : (n base : ℕ) → 1 ≤ base → n ≤ n * base
le-times n base h = grind arith

-- further digits make no number smaller
pub le-digits_value : (base n : ℕ) (ds : List ℕ) → 1 ≤ base → n ≤ digits_value_after base n ds
le-digits_value base n [] h = omega arith
le-digits_value base n (d ∷ ds) h = omega (arith, le-digits_value base (n * base + digit_value d) ds h, le-times n base h)

-- a number too large is no character's
pub large : (n : ℕ) → 0x10FFFF < n → is_character n ≡ false
large n h = grind (arith, nat_tests)

-- what is part of a reference is skipped
pub decoded_past : (n : ℕ) (cs : List ℕ) → decoded_from n cs ≡ decoded (drop n cs)
decoded_past zero cs = refl
decoded_past (suc n) [] = refl
decoded_past (suc n) (c ∷ cs) = decoded_past n cs

-- what is no `&` says itself
pub decoded_plain : (plain more : List ℕ) → list_all is_plain_byte plain ≡ true → decoded (plain ++ more) ≡ plain ++ decoded more
decoded_plain [] more h = refl
decoded_plain (c ∷ cs) more h =
    let t = both (is_plain_byte c) (list_all is_plain_byte cs) h in
    rw t.0 (ap (λ (z : List ℕ). c ∷ z) (decoded_plain cs more t.1))

-- a value without an `&` says itself
pub all_plain : (value : List ℕ) → list_all is_plain_byte value ≡ true → decoded value ≡ value
all_plain value h = ap decoded (sym (append-nil value)) ∙ decoded_plain value [] h ∙ append-nil value

abbrev pub after_ampersand : List ℕ → ℕ → Option (ℕ × ℕ) → List ℕ
after_ampersand cs c o = elim o [ Some r ↦ encode_utf8 r.0 ++ decoded_from r.1 cs | None ↦ c ∷ decoded_from 0 cs ]

pub decoded_marked : (c : ℕ) (cs : List ℕ) (o : Option (ℕ × ℕ)) → is_plain_byte c ≡ false → reference_of cs ≡ o → decoded (c ∷ cs) ≡ after_ampersand cs c o
decoded_marked c cs o marked is =
    ap (λ (b : Bool). if b then c ∷ decoded_from 0 cs else after_ampersand cs c (reference_of cs)) marked ∙ ap (after_ampersand cs c) is

-- a value that is cut before its first `&`
pub record PlainCut (rest plain marked : List ℕ) : Type 0 where
  pub split : rest ≡ plain ++ marked
  pub all : list_all is_plain_byte plain ≡ true
  pub edge : begins is_plain_byte marked ≡ false
  pub front_utf8 : IsUtf8 rest → IsUtf8 plain
  pub rest_utf8 : IsUtf8 rest → IsUtf8 marked

-- each value is cut so
pub cut_here : (rest : List ℕ) → PlainCut rest (take (prefix_len is_plain_byte rest) rest) (drop (prefix_len is_plain_byte rest) rest)
cut_here rest =
    record {
      split = sym (take-append-drop (prefix_len is_plain_byte rest) rest);
      all = taken is_plain_byte rest;
      edge = left is_plain_byte rest;
      front_utf8 = cut_front is_plain_byte rest plain_stops;
      rest_utf8 = cut_rest is_plain_byte rest plain_stops;
    }

pub plain_cut : (rest plain marked : List ℕ) (n : ℕ) → plain ≡ take n rest → marked ≡ drop n rest → n ≡ prefix_len is_plain_byte rest → PlainCut rest plain marked
plain_cut rest plain marked n front back len =
    let at_front : plain ≡ take (prefix_len is_plain_byte rest) rest = front ∙ ap (λ (m : ℕ). take m rest) len in
    let at_back : marked ≡ drop (prefix_len is_plain_byte rest) rest = back ∙ ap (λ (m : ℕ). drop m rest) len in
    subst (λ (x : List ℕ). PlainCut rest x marked) (sym at_front)
    (subst (λ (x : List ℕ). PlainCut rest (take (prefix_len is_plain_byte rest) rest) x) (sym at_back) (cut_here rest))

marked_byte : (a : ℕ) → is_plain_byte a ≡ false → a ≡ 38
marked_byte a h = grind (arith, nat_tests)

-- what does not begin plain begins with an `&`
pub ampersand : (a : ℕ) (following marked : List ℕ) → begins is_plain_byte marked ≡ false → marked ≡ a ∷ following → a ≡ 38
ampersand a following marked edge is = marked_byte a (sym (ap (begins is_plain_byte) is) ∙ edge)

pub ampersand_ascii : (a : ℕ) (following marked : List ℕ) → begins is_plain_byte marked ≡ false → marked ≡ a ∷ following → a < 128
ampersand_ascii a following marked edge is = let e = ampersand a following marked edge is in omega arith

pub ampersand_utf8 : IsUtf8 (38 ∷ [])
ampersand_utf8 = subst IsUtf8 (encode_ascii 38 (omega arith)) (IsUtf8-encode 38 refl)

pub empty_from : (xs : List ℕ) → length xs ≡ 0 → xs ≡ []
empty_from [] h = refl
empty_from (x ∷ xs) h = absurd (omega arith)

-- a value whose last part is plain
pub last_part : (said rest plain marked value : List ℕ) → PlainCut rest plain marked → length marked ≡ 0 → said ++ decoded rest ≡ value → said ++ plain ≡ value
last_part said rest plain marked value cut none is =
    let whole : decoded rest ≡ plain =
    ap decoded (cut.split ∙ ap (λ (z : List ℕ). plain ++ z) (empty_from marked none)) ∙ decoded_plain plain [] cut.all ∙ append-nil plain in
    ap (λ (z : List ℕ). said ++ z) (sym whole) ∙ is

part_said : (said rest plain marked value : List ℕ) (c : ℕ) (following : List ℕ) (o : Option (ℕ × ℕ)) → PlainCut rest plain marked → marked ≡ c ∷ following → reference_of following ≡ o →
    said ++ decoded rest ≡ value → (said ++ plain) ++ after_ampersand following c o ≡ value
part_said said rest plain marked value c following o cut is reference so_far =
    let marks : is_plain_byte c ≡ false = sym (ap (begins is_plain_byte) is) ∙ cut.edge in
    append_assoc said plain (after_ampersand following c o)
    ∙ ap (λ (z : List ℕ). said ++ (plain ++ z)) (sym (decoded_marked c following o marks reference))
    ∙ ap (λ (z : List ℕ). said ++ z) (sym (decoded_plain plain (c ∷ following) cut.all) ∙ ap decoded (ap (λ (z : List ℕ). plain ++ z) (sym is) ∙ sym cut.split)) ∙ so_far

-- a part that a reference follows
pub reference_said : (said rest plain marked value : List ℕ) (c : ℕ) (following : List ℕ) (r : ℕ × ℕ) → PlainCut rest plain marked → marked ≡ c ∷ following → reference_of following ≡ Some r →
    said ++ decoded rest ≡ value → ((said ++ plain) ++ encode_utf8 r.0) ++ decoded (drop r.1 following) ≡ value
reference_said said rest plain marked value c following r cut is reference so_far =
    append_assoc (said ++ plain) (encode_utf8 r.0) (decoded (drop r.1 following))
    ∙ ap (λ (z : List ℕ). (said ++ plain) ++ (encode_utf8 r.0 ++ z)) (sym (decoded_past r.1 following))
    ∙ part_said said rest plain marked value c following (Some r) cut is reference so_far

-- a part that an `&` follows which begins no reference
pub ampersand_said : (said rest plain marked value : List ℕ) (c : ℕ) (following : List ℕ) → PlainCut rest plain marked → marked ≡ c ∷ following → reference_of following ≡ None →
    said ++ decoded rest ≡ value → ((said ++ plain) ++ c ∷ []) ++ decoded following ≡ value
ampersand_said said rest plain marked value c following cut is reference so_far =
    append_assoc (said ++ plain) (c ∷ []) (decoded following) ∙ part_said said rest plain marked value c following None cut is reference so_far

-- a reference ends with a `;`, and names a scalar value other than 0
pub record ReferenceEnds (cs : List ℕ) (r : ℕ × ℕ) : Type 0 where
  pub at : ℕ
  pub len : r.1 ≡ at + 1
  pub within : at < length cs
  pub is : get_or cs at 0 ≡ 59
  pub scalar : IsScalar r.0
  pub some : is_not_zero r.0 ≡ true

seam : (front rest : List ℕ) → (length front < length (front ++ (59 ∷ rest))) × (get_or (front ++ (59 ∷ rest)) (length front) 0 ≡ 59)
seam front rest = (omega (arith, length-append front (59 ∷ rest)), grind (arith, common_steps))

word_ends : (front cs : List ℕ) (c : ℕ) → IsScalar c → is_not_zero c ≡ true → begins_with (front ++ 59 ∷ []) cs ≡ true → ReferenceEnds cs (c, length front + 1)
word_ends front cs c ok some h =
    let rest = drop (length (front ++ 59 ∷ [])) cs in
    let is : cs ≡ front ++ (59 ∷ rest) = begins_is (front ++ 59 ∷ []) cs h ∙ append_assoc front (59 ∷ []) rest in
    let s = seam front rest in
    record {
      at = length front;
      len = refl;
      within = subst (λ (z : List ℕ). length front < length z) (sym is) s.0;
      is = ap (λ (z : List ℕ). get_or z (length front) 0) is ∙ s.1;
      scalar = ok;
      some = some;
    }

named : (front : List ℕ) (c : ℕ) (cs : List ℕ) (o : Option (ℕ × ℕ)) (r : ℕ × ℕ) → IsScalar c → is_not_zero c ≡ true → (b : Bool) → begins_with (front ++ 59 ∷ []) cs ≡ b →
    (if b then Some (c, length front + 1) else o) ≡ Some r → (o ≡ Some r → ReferenceEnds cs r) → ReferenceEnds cs r
named front c cs o r ok some true e h more = subst (ReferenceEnds cs) (some_inj (c, length front + 1) r h) (word_ends front cs c ok some e)
named front c cs o r ok some false e h more = more h

character_scalar : (n : ℕ) → is_character n ≡ true → IsScalar n
character_scalar n h = grind (arith, nat_tests)

character_some : (n : ℕ) → is_character n ≡ true → is_not_zero n ≡ true
character_some n h = (both (is_not_zero n) (nat_lt n 0xD800 || nat_le 0xE000 n && nat_le n 0x10FFFF) h).0

first_is : (cs : List ℕ) → begins_with (59 ∷ []) cs ≡ true → (0 < length cs) × (get_or cs 0 0 ≡ 59)
first_is cs h =
    let is = begins_is (59 ∷ []) cs h in
    (subst (λ (z : List ℕ). 0 < length z) (sym is) (omega arith), ap (λ (z : List ℕ). get_or z 0 0) is)

numeric_ends : (base before : ℕ) (cs : List ℕ) (r : ℕ × ℕ) → numeric base before (drop before cs) ≡ Some r → ReferenceEnds cs r
numeric_ends base before cs r h =
    let ds = drop before cs in
    let n = prefix_len (λ (c : ℕ). is_digit c base) ds in
    let c = digits_value base (take n ds) in
    let t = if_some (begins_with (59 ∷ []) (drop n ds) && is_character c) (Some (c, before + n + 1)) r h in
    let u = both (begins_with (59 ∷ []) (drop n ds)) (is_character c) t.0 in
    let first = first_is (drop n ds) u.0 in
    let within : before + n < length cs = omega (arith, first.0, length-drop n ds, length-drop before cs) in
    let same : get_or cs (before + n) 0 ≡ get_or (drop n ds) 0 0 = ap (λ (m : ℕ). get_or cs m 0) (let e : before + n ≡ before + (n + 0) = omega arith in e) ∙ sym (get_or-drop before cs (n + 0) 0) ∙ sym (get_or-drop n ds 0 0) in
    subst (ReferenceEnds cs) (some_inj (c, before + n + 1) r t.1)
    (record { at = before + n; len = refl; within = within; is = same ∙ first.1; scalar = character_scalar c u.1; some = character_some c u.1 })

if_numeric : (base before : ℕ) (cs : List ℕ) (o : Option (ℕ × ℕ)) (r : ℕ × ℕ) (b : Bool) → (if b then numeric base before (drop before cs) else o) ≡ Some r → (o ≡ Some r → ReferenceEnds cs r) → ReferenceEnds cs r
if_numeric base before cs o r true h more = numeric_ends base before cs r h
if_numeric base before cs o r false h more = more h

pub reference_ends : (cs : List ℕ) (r : ℕ × ℕ) → reference_of cs ≡ Some r → ReferenceEnds cs r
reference_ends cs r h =
    named (codes "lt") 60 cs _ r refl refl (begins_with (codes "lt;") cs) refl h (λ h.
    named (codes "gt") 62 cs _ r refl refl (begins_with (codes "gt;") cs) refl h (λ h.
    named (codes "amp") 38 cs _ r refl refl (begins_with (codes "amp;") cs) refl h (λ h.
    named (codes "quot") 34 cs _ r refl refl (begins_with (codes "quot;") cs) refl h (λ h.
    named (codes "apos") 39 cs _ r refl refl (begins_with (codes "apos;") cs) refl h (λ h.
    if_numeric 16 2 cs _ r (begins_with (codes "#x") cs) h (λ h.
    if_numeric 10 1 cs None r (begins_with (codes "#") cs) h (λ h. absurd (cc))))))))

-- a value goes on after a reference
pub after_reference : (cs : List ℕ) (r : ℕ × ℕ) → reference_of cs ≡ Some r → (r.1 ≤ length cs) × (IsUtf8 cs → IsUtf8 (drop r.1 cs)) × IsUtf8 (encode_utf8 r.0)
after_reference cs r h =
    let e = reference_ends cs r h in
    let small : get_or cs e.at 0 < 128 = let i = e.is in omega arith in (
      let w = e.within in let l = e.len in omega arith,
      λ u. subst (λ (n : ℕ). IsUtf8 (drop n cs)) (sym e.len) (IsUtf8-drop cs (e.at + 1) u (IsCharBoundary-after_ascii cs e.at u e.within small)),
      IsUtf8-encode r.0 e.scalar,
    )
