-- An element that some bytes spell can be written.
use Rattle.std.proofs.Common.{◌≡◌, ℕ, zero, suc, ◌+◌, ◌<◌, ◌≤◌, Bool, true, false, not, ◌==◌, ◌||◌, nat_lt, if◌then◌else◌, List, [], ◌∷◌, ◌++◌, map, length, get_or, take, drop, Option, Some, None, refl, ap, sym, ◌∙◌, subst, append_assoc, arith, append-nil, length-drop}
use Rattle.std.proofs.lemmas.Bool.Decides.{nat_tests}
use Rattle.std.proofs.lemmas.List.Folds.{list_all-append}
use Rattle.std.proofs.lemmas.Str.{encode_ascii, inside_one, is_utf8-from_IsUtf8, IsUtf8-append, IsUtf8-nil}
use Rattle.std.specs.Char.{encode_utf8, is_ascii}
use Rattle.std.specs.Cmp.Derive.{both_true}
use Rattle.std.specs.List.{flat_map, list_all, prefix_len, AllByRecursion}
use Rattle.std.specs.Str.{IsUtf8}
use Rattle.spec_script.proofs.Bools.{both}
use Rattle.spec_script.specs.Identifiers.{is_white}
use Rattle.spec_script.specs.Texts.{name_stands, value_stands}
use Rattle.spec_tree_file.specs.declared.element.Element.{Element, Element-F, roll-Element, fold-roll-Element, ind-Element}
use Rattle.spec_tree_file.specs.Elements.{Tag, Begin, Ending, is_models, tags_of, Piece, pieces_written, IsPiece, tags_of_mark, inside_before, HaveTags, order_mark_len, Spells}
use Rattle.spec_tree_file.specs.Marks.{is_not_zero, is_quote, is_value_byte, Attribute, attribute_written, Opening, opening_written, Mark, Start, Empty, End, Instruction, Comment, mark_written, pairs_of, no_name_twice, is_single, IsAttribute, IsOpening, IsMark}
use Rattle.tree_elements.specs.Reading.{begins}
use Rattle.spec_tree_file.specs.References.{begins_with, is_plain_byte, reference_of, decoded_from, decoded}
use Rattle.tree_elements.specs.Written.{can_stand, can_be_written, writes_step}
use Rattle.tree_elements.proofs.Asides.{begins_is}
use Rattle.tree_elements.proofs.Cuts.{cut_all, cut_before, cut_first, cut_order_mark, cut_within, quote_ascii, white_ascii}
use Rattle.tree_elements.proofs.Marks.{attribute_spread, from_name}
use Rattle.tree_elements.proofs.Nesting.{tags_of-roll, tags_of_all}
use Rattle.tree_elements.proofs.References.{ampersand, ampersand_utf8, after_ampersand, after_reference, cut_here, decoded_marked, decoded_past, decoded_plain, reference_ends}

-- ---- What a value says has no byte 0

not_zero : (b : ℕ) → 128 ≤ b → is_not_zero b ≡ true
not_zero b h = grind (arith, nat_tests)

some_high : (bs : List ℕ) → ((k : ℕ) → k < length bs → 128 ≤ get_or bs k 0) → list_all is_not_zero bs ≡ true
some_high [] h = refl
some_high (b ∷ bs) h = both_true (not_zero b (h 0 (omega arith))) (some_high bs (λ k lt. h (suc k) (omega (arith, lt))))

at_least : (c b : ℕ) → 128 ≤ c → (b < 128 → c ≡ b) → 128 ≤ b
at_least c b high h = grind arith

-- each byte of a character that is not ASCII is not ASCII
pub high_bytes : (c k : ℕ) → 128 ≤ c → k < length (encode_utf8 c) → 128 ≤ get_or (encode_utf8 c) k 0
high_bytes c k high within = at_least c (get_or (encode_utf8 c) k 0) high (inside_one c [] (encode_utf8 c) k (sym (append-nil (encode_utf8 c))) within)

encoded : (c : ℕ) (low : Bool) → nat_lt c 128 ≡ low → is_not_zero c ≡ true → list_all is_not_zero (encode_utf8 c) ≡ true
encoded c true h some =
    let small : c < 128 = grind (arith, nat_tests) in
    ap (list_all is_not_zero) (encode_ascii c small) ∙ both_true some refl
encoded c false h some =
    let high : 128 ≤ c = grind (arith, nat_tests) in
    some_high (encode_utf8 c) (λ k within. high_bytes c k high within)

marked_some :
    (c : ℕ) (cs : List ℕ) (o : Option (ℕ × ℕ)) → reference_of cs ≡ o → is_not_zero c ≡ true → ((m : ℕ) → list_all is_not_zero (decoded_from m cs) ≡ true) →
    list_all is_not_zero (after_ampersand cs c o) ≡ true
marked_some c cs None is some rest = both_true some (rest 0)
marked_some c cs (Some r) is some rest =
    list_all-append is_not_zero (encode_utf8 r.0) (decoded_from r.1 cs) ∙ both_true (encoded r.0 (nat_lt r.0 128) refl (reference_ends cs r is).some) (rest r.1)

byte_some :
    (c : ℕ) (cs : List ℕ) (plain : Bool) → is_not_zero c ≡ true → ((m : ℕ) → list_all is_not_zero (decoded_from m cs) ≡ true) →
    list_all is_not_zero (if plain then c ∷ decoded_from 0 cs else after_ampersand cs c (reference_of cs)) ≡ true
byte_some c cs true some rest = both_true some (rest 0)
byte_some c cs false some rest = marked_some c cs (reference_of cs) refl some rest

decoded_some : (n : ℕ) (cs : List ℕ) → list_all is_not_zero cs ≡ true → list_all is_not_zero (decoded_from n cs) ≡ true
decoded_some n [] h = refl
decoded_some (suc n) (c ∷ cs) h = decoded_some n cs (both (is_not_zero c) (list_all is_not_zero cs) h).1
decoded_some zero (c ∷ cs) h =
    let t = both (is_not_zero c) (list_all is_not_zero cs) h in byte_some c cs (is_plain_byte c) t.0 (λ m. decoded_some m cs t.1)

-- ---- and is UTF-8

marked_utf8 :
    (k : ℕ) (marked : List ℕ) → ((cs : List ℕ) → length cs ≤ k → IsUtf8 cs → IsUtf8 (decoded cs)) → length marked ≤ suc k → begins is_plain_byte marked ≡ false → IsUtf8 marked →
    IsUtf8 (decoded marked)
marked_utf8 k [] rest short edge u = IsUtf8-nil
marked_utf8 k (c ∷ cs) rest short edge u = by_reference (reference_of cs) refl
  where
    is_ampersand : c ≡ 38
    is_ampersand = ampersand c cs (c ∷ cs) edge refl

    after_utf8 : IsUtf8 cs
    after_utf8 = cut_first c cs (let e = is_ampersand in omega arith) u

    by_reference : (o : Option (ℕ × ℕ)) → reference_of cs ≡ o → IsUtf8 (decoded (c ∷ cs))
    by_reference None is =
        subst IsUtf8 (sym (decoded_marked c cs None edge is))
        (IsUtf8-append (c ∷ []) (decoded cs) (subst (λ (b : ℕ). IsUtf8 (b ∷ [])) (sym is_ampersand) ampersand_utf8) (rest cs (omega arith) after_utf8))
    by_reference (Some r) is =
        let following = after_reference cs r is in
        let whole : decoded (c ∷ cs) ≡ encode_utf8 r.0 ++ decoded (drop r.1 cs) =
        decoded_marked c cs (Some r) edge is ∙ ap (λ (z : List ℕ). encode_utf8 r.0 ++ z) (decoded_past r.1 cs) in
        subst IsUtf8 (sym whole) (IsUtf8-append (encode_utf8 r.0) (decoded (drop r.1 cs)) following.2 (rest (drop r.1 cs) (omega (arith, length-drop r.1 cs)) (following.1 after_utf8)))

decoded_utf8 : (k : ℕ) (cs : List ℕ) → length cs ≤ k → IsUtf8 cs → IsUtf8 (decoded cs)
decoded_utf8 zero [] short u = IsUtf8-nil
decoded_utf8 zero (c ∷ cs) short u = absurd (omega arith)
decoded_utf8 (suc k) cs short u =
    let n = prefix_len is_plain_byte cs in
    let cut = cut_here cs in
    let whole : decoded cs ≡ take n cs ++ decoded (drop n cs) = ap decoded cut.split ∙ decoded_plain (take n cs) (drop n cs) cut.all in
    subst IsUtf8 (sym whole)
    (IsUtf8-append (take n cs) (decoded (drop n cs)) (cut.front_utf8 u) (marked_utf8 k (drop n cs) (decoded_utf8 k) (omega (arith, length-drop n cs)) cut.edge (cut.rest_utf8 u)))

last_of : (a b c : Bool) → not (a || b || c) ≡ true → not c ≡ true
last_of a b false h = refl
last_of true true true h = absurd (cc)
last_of true false true h = absurd (cc)
last_of false true true h = absurd (cc)
last_of false false true h = absurd (cc)

value_some : (quote : ℕ) (cs : List ℕ) → list_all (is_value_byte quote) cs ≡ true → list_all is_not_zero cs ≡ true
value_some quote [] h = refl
value_some quote (c ∷ cs) h =
    let t = both (is_value_byte quote c) (list_all (is_value_byte quote) cs) h in
    both_true (last_of (c == quote) (c == 60) (c == 0) t.0) (value_some quote cs t.1)

said_stands : (quote : ℕ) (value : List ℕ) → list_all (is_value_byte quote) value ≡ true → IsUtf8 value → value_stands (decoded value) ≡ true
said_stands quote value h u =
    both_true (decoded_some 0 value (value_some quote value h)) (is_utf8-from_IsUtf8 (decoded value) (decoded_utf8 (length value) value (omega arith) u))

-- ---- Attributes

white_is_ascii : (c : ℕ) → is_white c ≡ true → is_ascii c ≡ true
white_is_ascii c h = grind (arith, nat_tests)

quote_is_ascii : (c : ℕ) → is_quote c ≡ true → is_ascii c ≡ true
quote_is_ascii c h = grind (arith, nat_tests)

white_begins : (gap rest : List ℕ) → list_all is_white gap ≡ true → begins is_ascii rest ≡ true → begins is_ascii (gap ++ rest) ≡ true
white_begins [] rest h k = k
white_begins (c ∷ gap) rest h k = white_is_ascii c (both (is_white c) (list_all is_white gap) h).0

gap_begins : (gap rest : List ℕ) → list_all is_white gap ≡ true → not (length gap == 0) ≡ true → begins is_ascii (gap ++ rest) ≡ true
gap_begins [] rest h k = absurd (cc)
gap_begins (c ∷ gap) rest h k = white_is_ascii c (both (is_white c) (list_all is_white gap) h).0

attribute_stands : (a : Attribute) (rest : List ℕ) → IsAttribute a → IsUtf8 (a.gap ++ from_name a rest) → (can_stand (a.name, decoded a.value) ≡ true) × IsUtf8 rest
attribute_stands a rest i u =
    let end = a.quote ∷ rest in
    let value = a.value ++ end in
    let after = a.after ++ (a.quote ∷ value) in
    let before = a.before ++ (61 ∷ after) in
    let small = quote_ascii a.quote i.quote in
    let name = cut_before a.name before (white_begins a.before (61 ∷ after) i.before refl) (cut_all is_white a.gap (from_name a rest) white_ascii i.gap u) in
    let equal = cut_first 61 after (omega arith) (cut_all is_white a.before (61 ∷ after) white_ascii i.before name.1) in
    let quoted = cut_first a.quote value small (cut_all is_white a.after (a.quote ∷ value) white_ascii i.after equal) in
    let said = cut_before a.value end (quote_is_ascii a.quote i.quote) quoted in (
      both_true (both_true i.name (is_utf8-from_IsUtf8 a.name name.0)) (said_stands a.quote a.value i.value said.0),
      cut_first a.quote rest small said.1,
    )

attributes_spread : (a : Attribute) (list : List Attribute) (rest : List ℕ) →
    flat_map attribute_written (a ∷ list) ++ rest ≡ a.gap ++ from_name a (flat_map attribute_written list ++ rest)
attributes_spread a list rest = append_assoc (attribute_written a) (flat_map attribute_written list) rest ∙ attribute_spread a (flat_map attribute_written list ++ rest)

attributes_stand : (list : List Attribute) (rest : List ℕ) → AllByRecursion IsAttribute list → IsUtf8 (flat_map attribute_written list ++ rest) →
    list_all can_stand (pairs_of list) ≡ true
attributes_stand [] rest all u = refl
attributes_stand (a ∷ list) rest all u =
    let more = flat_map attribute_written list ++ rest in
    let one = attribute_stands a more all.0 (subst IsUtf8 (attributes_spread a list rest) u) in
    both_true one.0 (attributes_stand list rest all.1 one.1)

attributes_begin : (list : List Attribute) (rest : List ℕ) → AllByRecursion IsAttribute list → begins is_ascii rest ≡ true → begins is_ascii (flat_map attribute_written list ++ rest) ≡ true
attributes_begin [] rest all h = h
attributes_begin (a ∷ list) rest all h =
    ap (begins is_ascii) (attributes_spread a list rest) ∙ gap_begins a.gap (from_name a (flat_map attribute_written list ++ rest)) all.0.gap all.0.apart

-- ---- Marks

-- the tag of a beginning can be written
abbrev pub TagStands : Tag → Type 0
TagStands (Begin inside place name attributes) = (name_stands name ≡ true) × (list_all can_stand attributes ≡ true) × (no_name_twice attributes ≡ true)
TagStands (Ending inside name) = Unit {0}

opening_stands : (o : Opening) (rest : List ℕ) → IsOpening o → begins is_ascii rest ≡ true → IsUtf8 (opening_written o ++ rest) →
    (name_stands o.name ≡ true) × (list_all can_stand (pairs_of o.attributes) ≡ true)
opening_stands o rest i h u =
    let following = o.gap ++ rest in
    let attributes = flat_map attribute_written o.attributes ++ following in
    let spread : opening_written o ++ rest ≡ o.name ++ attributes = simp append_assoc in
    let name = cut_before o.name attributes (attributes_begin o.attributes following i.attributes (white_begins o.gap rest i.gap h)) (subst IsUtf8 spread u) in
    (both_true i.name (is_utf8-from_IsUtf8 o.name name.0), attributes_stand o.attributes following i.attributes name.1)

begin_stands : (inside : Bool) (place : ℕ) (o : Opening) (end rest : List ℕ) → IsOpening o → no_name_twice (pairs_of o.attributes) ≡ true → begins is_ascii (end ++ rest) ≡ true →
    IsUtf8 (60 ∷ ((opening_written o ++ end) ++ rest)) → TagStands (Begin inside place o.name (pairs_of o.attributes))
begin_stands inside place o end rest i single h u =
    let t = opening_stands o (end ++ rest) i h (subst IsUtf8 (append_assoc (opening_written o) end rest) (cut_first 60 ((opening_written o ++ end) ++ rest) (omega arith) u)) in
    (t.0, t.1, single)

mark_stands : (inside : Bool) (place : ℕ) (m : Mark) (rest : List ℕ) → IsMark m → is_single m ≡ true → IsUtf8 (mark_written m ++ rest) → AllByRecursion TagStands (tags_of_mark inside place m)
mark_stands inside place (Start o) rest i single u = (begin_stands inside place o (62 ∷ []) rest i single refl u, tt)
mark_stands inside place (Empty o) rest i single u = (begin_stands inside place o (47 ∷ 62 ∷ []) rest i single refl u, (tt, tt))
mark_stands inside place (End name gap) rest i single u = (tt, tt)
mark_stands inside place (Instruction body) rest i single u = tt
mark_stands inside place (Comment body) rest i single u = tt

-- each mark ends with `>`
mark_end : (m : Mark) → (front : List ℕ) × (mark_written m ≡ front ++ 62 ∷ [])
mark_end (Start o) = (60 ∷ opening_written o, refl)
mark_end (Empty o) = (60 ∷ (opening_written o ++ 47 ∷ []), ap (λ (z : List ℕ). 60 ∷ z) (sym (append_assoc (opening_written o) (47 ∷ []) (62 ∷ []))))
mark_end (End name gap) = (60 ∷ 47 ∷ (name ++ gap), ap (λ (z : List ℕ). 60 ∷ 47 ∷ z) (sym (append_assoc name gap (62 ∷ []))))
mark_end (Instruction body) = (60 ∷ 63 ∷ (body ++ 63 ∷ []), ap (λ (z : List ℕ). 60 ∷ 63 ∷ z) (sym (append_assoc body (63 ∷ []) (62 ∷ []))))
mark_end (Comment body) = (60 ∷ 33 ∷ 45 ∷ 45 ∷ (body ++ 45 ∷ 45 ∷ []), ap (λ (z : List ℕ). 60 ∷ 33 ∷ 45 ∷ 45 ∷ z) (sym (append_assoc body (45 ∷ 45 ∷ []) (62 ∷ []))))

following_mark : (m : Mark) (rest : List ℕ) → IsUtf8 (mark_written m ++ rest) → IsUtf8 rest
following_mark m rest u =
    let e = mark_end m in
    cut_within e.0 (62 ∷ []) rest (omega arith) refl (subst IsUtf8 (ap (λ (z : List ℕ). z ++ rest) e.1 ∙ append_assoc e.0 (62 ∷ []) rest) u)

mark_begins : (m : Mark) (rest : List ℕ) → begins is_ascii (mark_written m ++ rest) ≡ true
mark_begins (Start o) rest = refl
mark_begins (Empty o) rest = refl
mark_begins (End name gap) rest = refl
mark_begins (Instruction body) rest = refl
mark_begins (Comment body) rest = refl

all_joined : {A : Type 0} (P : A → Type 0) (xs ys : List A) → AllByRecursion P xs → AllByRecursion P ys → AllByRecursion P (xs ++ ys)
all_joined P [] ys p q = q
all_joined P (x ∷ xs) ys p q = (p.0, all_joined P xs ys p.1 q)

all_parted : {A : Type 0} (P : A → Type 0) (xs ys : List A) → AllByRecursion P (xs ++ ys) → AllByRecursion P xs × AllByRecursion P ys
all_parted P [] ys p = (tt, p)
all_parted P (x ∷ xs) ys p = let t = all_parted P xs ys p.1 in ((p.0, t.0), t.1)

tags_stand : (at : ℕ) (ps : List Piece) (last : List ℕ) (tags : List Tag) → AllByRecursion IsPiece ps → HaveTags at ps tags → IsUtf8 (pieces_written ps ++ last) →
    AllByRecursion TagStands tags
tags_stand at [] last tags valid h u = let none : AllByRecursion TagStands [] = tt in subst (AllByRecursion TagStands) (sym h) none
tags_stand at (p ∷ ps) last tags valid h u =
    let tail = pieces_written ps ++ last in
    let spread : pieces_written (p ∷ ps) ++ last ≡ p.text ++ (mark_written p.mark ++ tail) = simp append_assoc in
    let marked = (cut_before p.text (mark_written p.mark ++ tail) (mark_begins p.mark tail) (subst IsUtf8 spread u)).1 in
    subst (AllByRecursion TagStands) (sym h.3)
    (all_joined TagStands (tags_of_mark (inside_before tags) (at + length p.text) p.mark) h.0
    (mark_stands (inside_before tags) (at + length p.text) p.mark tail valid.0.mark h.2 marked)
    (tags_stand (at + length (p.text ++ mark_written p.mark)) ps last h.0 valid.1 h.4 (following_mark p.mark tail marked)))

-- ---- The element

-- an element can be written where its tags can
abbrev Claim : Element → Type 0
Claim e = (inside : Bool) → AllByRecursion TagStands (tags_of e inside) → can_be_written e ≡ true

abbrev bare : List ((e : Element) × Claim e) → List Element
bare es = map (λ e. e.0) es

abbrev parts : Element-F ((e : Element) × Claim e) → Element-F Element
parts y = record { name = y.name; attributes = y.attributes; children = bare y.children; place = y.place }

children_stand : (es : List ((e : Element) × Claim e)) (inside : Bool) → AllByRecursion TagStands (tags_of_all (bare es) inside) →
    list_all (λ (child : Bool). child) (map can_be_written (bare es)) ≡ true
children_stand [] inside h = refl
children_stand (e ∷ es) inside h =
    let t = all_parted TagStands (tags_of e.0 inside) (tags_of_all (bare es) inside) h in both_true (e.1 inside t.0) (children_stand es inside t.1)

whole_stands : (y : Element-F ((e : Element) × Claim e)) → Claim (roll-Element (parts y))
whole_stands y inside h =
    let x = parts y in
    let below = inside || is_models y.name in
    let tags = subst (AllByRecursion TagStands) (tags_of-roll x inside) h in
    let children = (all_parted TagStands (tags_of_all x.children below) (Ending below y.name ∷ []) tags.1).0 in
    fold-roll-Element Bool writes_step x ∙ both_true tags.0.0 (both_true tags.0.1 (both_true tags.0.2 (children_stand y.children below children)))

element_stands : (e : Element) → Claim e
element_stands = ind-Element Claim (λ x y is. subst (λ (z : Element-F Element). Claim (roll-Element z)) is (whole_stands y))

after_order_mark : (bytes : List ℕ) (b : Bool) → begins_with (0xEF ∷ 0xBB ∷ 0xBF ∷ []) bytes ≡ b → IsUtf8 bytes → IsUtf8 (drop (if b then 3 else 0) bytes)
after_order_mark bytes true h u = cut_order_mark bytes (drop 3 bytes) (begins_is (0xEF ∷ 0xBB ∷ 0xBF ∷ []) bytes h) u
after_order_mark bytes false h u = u

-- what some bytes spell can be written
pub spelled_stands : (bytes : List ℕ) (e : Element) → Spells bytes e → can_be_written e ≡ true
spelled_stands bytes e s =
    let rest = after_order_mark bytes (begins_with (0xEF ∷ 0xBB ∷ 0xBF ∷ []) bytes) refl s.utf8 in
    element_stands e false (tags_stand (order_mark_len bytes) s.pieces s.last (tags_of e false) s.valid s.nested (subst IsUtf8 s.written rest))
