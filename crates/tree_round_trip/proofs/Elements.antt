-- The bytes of a printed element spell it.
use Rattle.std.proofs.Common.{◌≡◌, ℕ, ◌+◌, ◌≤◌, Bool, true, false, ◌&&◌, ◌||◌, List, [], ◌∷◌, ◌++◌, map, length, drop, refl, ap, sym, ◌∙◌, subst, append_assoc, append-nil, arith, length-append, codes}
use Rattle.std.proofs.lemmas.Bool.Decides.{nat_tests}
use Rattle.std.proofs.lemmas.Grind.{flat_map-append}
use Rattle.std.proofs.lemmas.List.Folds.{concat-append, list_all-append}
use Rattle.std.proofs.lemmas.Simd.{map-map}
use Rattle.std.specs.List.{concat, flat_map, list_all, AllByRecursion}
use Rattle.std.specs.Str.{IsUtf8, is_utf8}
use Rattle.std.proofs.lemmas.Str.{IsUtf8-append, IsUtf8-from_is_utf8, IsUtf8-nil}
use Rattle.spec_script.proofs.Bools.{both}
use Rattle.spec_script.specs.Identifiers.{is_white}
use Rattle.spec_tree_file.specs.declared.element.Element.{Element, Element-F, roll-Element, fold-roll-Element, ind-Element}
use Rattle.spec_tree_file.specs.Elements.{Tag, Begin, Ending, is_models, joined, tags_step, tags_of, greatest, depth_step, depth_of, Piece, piece_written, pieces_written, is_text_byte, IsPiece, HaveTags, order_mark_len, Spells}
use Rattle.spec_tree_file.specs.Marks.{Attribute as Written, Opening, Start, Empty, End, IsAttribute, IsOpening, attribute_written, opening_written, pairs_of, is_name, is_not_zero, no_name_twice}
use Rattle.spec_tree.specs.PrintedTree.{Attribute, Lines, attribute_text, deeper, element_lines, escaped_byte, indented, opening_text}
use Rattle.spec_script.specs.Texts.{name_stands, value_stands}
use Rattle.tree_elements.specs.Written.{can_be_written, can_stand, writes_step}
use Rattle.tree_round_trip.specs.Printed.{lines_step, lines_of, unplaced_step, unplaced}
use Rattle.tree_elements.proofs.Ascii.{utf8_low}
use Rattle.tree_round_trip.proofs.Utf8.{utf8_white, value_utf8}
use Rattle.tree_round_trip.proofs.Values.{value_between, value_says}

-- ---- Attributes and marks

abbrev written : Attribute → Written
written a = record { gap = codes " "; name = a.0; before = []; after = []; quote = 34; value = flat_map escaped_byte a.1 }

abbrev opening : List ℕ → List Attribute → Opening
opening name attributes = record { name = name; attributes = map written attributes; gap = [] }

attribute_is : (a : Attribute) → attribute_written (written a) ≡ attribute_text a
attribute_is a = simp append_assoc

same_texts : (attributes : List Attribute) → flat_map attribute_written (map written attributes) ≡ flat_map attribute_text attributes
same_texts [] = refl
same_texts (a ∷ more) =
    ap (λ (z : List ℕ). z ++ flat_map attribute_written (map written more)) (attribute_is a) ∙ ap (λ (z : List ℕ). attribute_text a ++ z) (same_texts more)

opening_is : (name : List ℕ) (attributes : List Attribute) → opening_written (opening name attributes) ≡ opening_text name attributes
opening_is name attributes =
    ap (λ (z : List ℕ). name ++ z) (append-nil (flat_map attribute_written (map written attributes)) ∙ same_texts attributes)

attributes_valid : (attributes : List Attribute) → list_all can_stand attributes ≡ true → AllByRecursion IsAttribute (map written attributes)
attributes_valid [] h = tt
attributes_valid (a ∷ more) h =
    let t = both (can_stand a) (list_all can_stand more) h in
    let one = both (name_stands a.0) (value_stands a.1) t.0 in
    let name = both (is_name a.0) (is_utf8 a.0) one.0 in
    let value = both (list_all is_not_zero a.1) (is_utf8 a.1) one.1 in
    let valid : IsAttribute (written a) =
    record { gap = refl; apart = refl; name = name.0; before = refl; after = refl; quote = refl; value = value_between a.1 value.0 } in
    (valid, attributes_valid more t.1)

pairs_again : (attributes : List Attribute) → list_all can_stand attributes ≡ true → pairs_of (map written attributes) ≡ attributes
pairs_again [] h = refl
pairs_again (a ∷ more) h =
    let t = both (can_stand a) (list_all can_stand more) h in
    let one = both (name_stands a.0) (value_stands a.1) t.0 in
    let value = both (list_all is_not_zero a.1) (is_utf8 a.1) one.1 in
    ap (λ (v : List ℕ). (a.0, v) ∷ pairs_of (map written more)) (value_says a.1 value.0) ∙ ap (λ (z : List Attribute). a ∷ z) (pairs_again more t.1)

attribute_utf8 : (a : Attribute) → can_stand a ≡ true → IsUtf8 (attribute_text a)
attribute_utf8 a h =
    let one = both (name_stands a.0) (value_stands a.1) h in
    let name = both (is_name a.0) (is_utf8 a.0) one.0 in
    let value = both (list_all is_not_zero a.1) (is_utf8 a.1) one.1 in
    let before = IsUtf8-append (codes " ") a.0 (utf8_low (codes " ") refl) (IsUtf8-from_is_utf8 a.0 name.1) in
    let equal = IsUtf8-append (codes " " ++ a.0) (codes "=\"") before (utf8_low (codes "=\"") refl) in
    let said = IsUtf8-append (codes " " ++ a.0 ++ codes "=\"") (flat_map escaped_byte a.1) equal (value_utf8 a.1 (IsUtf8-from_is_utf8 a.1 value.1)) in
    IsUtf8-append (codes " " ++ a.0 ++ codes "=\"" ++ flat_map escaped_byte a.1) (codes "\"") said (utf8_low (codes "\"") refl)

attributes_utf8 : (attributes : List Attribute) → list_all can_stand attributes ≡ true → IsUtf8 (flat_map attribute_text attributes)
attributes_utf8 [] h = IsUtf8-nil
attributes_utf8 (a ∷ more) h =
    let t = both (can_stand a) (list_all can_stand more) h in
    IsUtf8-append (attribute_text a) (flat_map attribute_text more) (attribute_utf8 a t.0) (attributes_utf8 more t.1)

line_utf8 : (blanks front name text back : List ℕ) → IsUtf8 blanks → IsUtf8 front → IsUtf8 name → IsUtf8 text → IsUtf8 back → IsUtf8 (indented blanks (front ++ (name ++ text) ++ back))
line_utf8 blanks front name text back b f n t e =
    let mark = IsUtf8-append (front ++ (name ++ text)) back (IsUtf8-append front (name ++ text) f (IsUtf8-append name text n t)) e in
    IsUtf8-append (blanks ++ (front ++ (name ++ text) ++ back)) (codes "\n") (IsUtf8-append blanks (front ++ (name ++ text) ++ back) b mark) (utf8_low (codes "\n") refl)

-- ---- White space

white_is_text : (c : ℕ) → is_white c ≡ true → is_text_byte c ≡ true
white_is_text c h = grind (arith, nat_tests)

all_text : (cs : List ℕ) → list_all is_white cs ≡ true → list_all is_text_byte cs ≡ true
all_text [] h = refl
all_text (c ∷ cs) h =
    let t = both (is_white c) (list_all is_white cs) h in
    rw (white_is_text c t.0) (all_text cs t.1)

white_both : (a b : List ℕ) → list_all is_white a ≡ true → list_all is_white b ≡ true → list_all is_white (a ++ b) ≡ true
white_both a b p q = list_all-append is_white a b ∙ rw (p, q) refl

pub or_true : (a b : Bool) → b ≡ true → (a || b) ≡ true
or_true true b h = refl
or_true false b h = h

-- ---- What a printed element spells

-- an element at this indentation, after the rest of the line before it
pub record Spelling (e : Element) (blanks before : List ℕ) : Type 0 where
  pub rest : List ℕ
  pub begins : concat (lines_of e blanks) ≡ blanks ++ 60 ∷ rest
  pub utf8 : IsUtf8 (concat (lines_of e blanks))
  pub pieces : List Piece
  pub valid : AllByRecursion IsPiece pieces
  pub text : before ++ concat (lines_of e blanks) ≡ pieces_written pieces ++ 10 ∷ []
  pub placed : ℕ → Element
  pub same : (at : ℕ) → unplaced (placed at) ≡ unplaced e
  pub deep : (at : ℕ) → depth_of (placed at) ≡ depth_of e
  pub nested : (at : ℕ) (inside : Bool) (ps : List Piece) (tags : List Tag) → HaveTags (at + length (pieces_written pieces)) ps tags → HaveTags at (pieces ++ ps) (tags_of (placed at) inside ++ tags)

abbrev texts_of : List Element → List ℕ → List ℕ
texts_of es blanks = concat (flat_map (λ (below : Lines). below blanks) (map lines_of es))

abbrev tags_of_all : List Element → Bool → List Tag
tags_of_all es inside = joined (map (λ child. tags_of child inside) es)

-- elements, one after another
record Spellings (es : List Element) (blanks : List ℕ) : Type 0 where
  pieces : List Piece
  valid : AllByRecursion IsPiece pieces
  text : 10 ∷ texts_of es blanks ≡ pieces_written pieces ++ 10 ∷ []
  utf8 : IsUtf8 (texts_of es blanks)
  placed : ℕ → List Element
  same : (at : ℕ) → map unplaced (placed at) ≡ map unplaced es
  deep : (at : ℕ) → map depth_of (placed at) ≡ map depth_of es
  nested : (at : ℕ) (inside : Bool) (ps : List Piece) (tags : List Tag) → HaveTags (at + length (pieces_written pieces)) ps tags → HaveTags at (pieces ++ ps) (tags_of_all (placed at) inside ++ tags)

no_spellings : (blanks : List ℕ) → Spellings [] blanks
no_spellings blanks =
    record {
      pieces = [];
      valid = tt;
      text = refl;
      utf8 = IsUtf8-nil;
      placed = λ at. [];
      same = λ at. refl;
      deep = λ at. refl;
      nested = λ at inside ps tags h.
          let end : at + 0 ≡ at = omega arith in
          subst (λ (n : ℕ). HaveTags n ps tags) end h;
    }

pub valid_both : (ps qs : List Piece) → AllByRecursion IsPiece ps → AllByRecursion IsPiece qs → AllByRecursion IsPiece (ps ++ qs)
valid_both [] qs h k = k
valid_both (p ∷ ps) qs h k = (h.0, valid_both ps qs h.1 k)

more_spellings : (e : Element) (es : List Element) (blanks : List ℕ) → Spelling e blanks (10 ∷ []) → Spellings es blanks → Spellings (e ∷ es) blanks
more_spellings e es blanks s t =
    let first = pieces_written s.pieces in
    let others = pieces_written t.pieces in
    let one = concat (lines_of e blanks) in
    let more = texts_of es blanks in
    let all : pieces_written (s.pieces ++ t.pieces) ≡ first ++ others = flat_map-append piece_written s.pieces t.pieces in
    record {
      pieces = s.pieces ++ t.pieces;
      valid = valid_both s.pieces t.pieces s.valid t.valid;
      text =
          ap (λ (z : List ℕ). 10 ∷ z) (concat-append (lines_of e blanks) (flat_map (λ (below : Lines). below blanks) (map lines_of es)))
          ∙ ap (λ (z : List ℕ). z ++ more) s.text
          ∙ append_assoc first (10 ∷ []) more
          ∙ ap (λ (z : List ℕ). first ++ z) t.text
          ∙ sym (append_assoc first others (10 ∷ []))
          ∙ ap (λ (z : List ℕ). z ++ 10 ∷ []) (sym all);
      utf8 =
          subst IsUtf8 (sym (concat-append (lines_of e blanks) (flat_map (λ (below : Lines). below blanks) (map lines_of es)))) (IsUtf8-append one more s.utf8 t.utf8);
      placed = λ at. s.placed at ∷ t.placed (at + length first);
      same = λ at. ap (λ (z : Element). z ∷ map unplaced (t.placed (at + length first))) (s.same at) ∙ ap (λ (z : List Element). unplaced e ∷ z) (t.same (at + length first));
      deep = λ at. ap (λ (z : ℕ). z ∷ map depth_of (t.placed (at + length first))) (s.deep at) ∙ ap (λ (z : List ℕ). depth_of e ∷ z) (t.deep (at + length first));
      nested = λ at inside ps tags h.
          let end : at + length (pieces_written (s.pieces ++ t.pieces)) ≡ at + length first + length others =
          ap (λ (z : List ℕ). at + length z) all ∙ omega (arith, length-append first others) in
          let h2 = subst (λ (n : ℕ). HaveTags n ps tags) end h in
          let rest = t.nested (at + length first) inside ps tags h2 in
          let whole = s.nested at inside (t.pieces ++ ps) (tags_of_all (t.placed (at + length first)) inside ++ tags) rest in
          subst (λ (z : List Piece). HaveTags at z ((tags_of (s.placed at) inside ++ tags_of_all (t.placed (at + length first)) inside) ++ tags)) (sym (append_assoc s.pieces t.pieces ps))
          (subst (λ (z : List Tag). HaveTags at (s.pieces ++ (t.pieces ++ ps)) z) (sym (append_assoc (tags_of (s.placed at) inside) (tags_of_all (t.placed (at + length first)) inside) tags)) whole);
    }

-- ---- One element

abbrev rolled : List ℕ → List Attribute → List Element → ℕ → Element
rolled name attributes children place = roll-Element (record { name = name; attributes = attributes; children = children; place = place })

abbrev tags_in : Bool → ℕ → List ℕ → List Attribute → List Element → List Tag
tags_in inside place name attributes children =
    let below = inside || is_models name in Begin inside place name attributes ∷ (tags_of_all children below ++ Ending below name ∷ [])

lines_rolled : (x : Element-F Element) (blanks : List ℕ) → lines_of (roll-Element x) blanks ≡ element_lines x.name x.attributes (map lines_of x.children) blanks
lines_rolled x blanks = ap (λ (ls : Lines). ls blanks) (fold-roll-Element Lines lines_step x)

tags_rolled : (x : Element-F Element) (inside : Bool) → tags_of (roll-Element x) inside ≡ tags_in inside x.place x.name x.attributes x.children
tags_rolled x inside =
    let below = inside || is_models x.name in
    ap (λ (ts : Bool → List Tag). ts inside) (fold-roll-Element (Bool → List Tag) tags_step x)
    ∙ ap (λ (ts : List (List Tag)). Begin inside x.place x.name x.attributes ∷ (joined ts ++ Ending below x.name ∷ []))
    (map-map (λ (child : Bool → List Tag). child below) tags_of x.children)

unplaced_rolled : (name : List ℕ) (attributes : List Attribute) (children : List Element) (place : ℕ) → unplaced (rolled name attributes children place) ≡ rolled name attributes (map unplaced children) 0
unplaced_rolled name attributes children place = fold-roll-Element Element unplaced_step (record { name = name; attributes = attributes; children = children; place = place })

depth_rolled : (name : List ℕ) (attributes : List Attribute) (children : List Element) (place : ℕ) → depth_of (rolled name attributes children place) ≡ 1 + greatest (map depth_of children)
depth_rolled name attributes children place = fold-roll-Element ℕ depth_step (record { name = name; attributes = attributes; children = children; place = place })

empty_line : (blanks text : List ℕ) → indented blanks (codes "<" ++ text ++ codes "/>") ≡ blanks ++ 60 ∷ ((text ++ codes "/>") ++ codes "\n")
empty_line blanks text = simp append_assoc

empty_text :
    (before blanks text : List ℕ) →
    before ++ (blanks ++ 60 ∷ ((text ++ codes "/>") ++ codes "\n")) ≡ (((before ++ blanks) ++ (60 ∷ (text ++ 47 ∷ 62 ∷ []))) ++ []) ++ 10 ∷ []
empty_text before blanks text = simp (append_assoc, append-nil)

record Form (name : List ℕ) (attributes : List Attribute) (blanks before : List ℕ) : Type 0 where
  named : is_name name ≡ true
  spelt : IsUtf8 name
  stand : list_all can_stand attributes ≡ true
  single : no_name_twice attributes ≡ true
  white : list_all is_white blanks ≡ true
  following : list_all is_white before ≡ true

opening_valid : (name : List ℕ) (attributes : List Attribute) (blanks before : List ℕ) → Form name attributes blanks before → IsOpening (opening name attributes)
opening_valid name attributes blanks before f = record { name = f.named; attributes = attributes_valid attributes f.stand; gap = refl }

spell_empty : (name : List ℕ) (attributes : List Attribute) (place : ℕ) (blanks before : List ℕ) → Form name attributes blanks before → Spelling (rolled name attributes [] place) blanks before
spell_empty name attributes place blanks before f =
    let o = opening name attributes in
    let text = opening_text name attributes in
    let p : Piece = record { text = before ++ blanks; mark = Empty o } in
    let white = white_both before blanks f.following f.white in
    let line : concat (lines_of (rolled name attributes [] place) blanks) ≡ indented blanks (codes "<" ++ text ++ codes "/>") =
    ap concat (lines_rolled (record { name = name; attributes = attributes; children = []; place = place }) blanks)
    ∙ append-nil (indented blanks (codes "<" ++ text ++ codes "/>")) in
    let begins = line ∙ empty_line blanks text in
    let utf8 =
    line_utf8 blanks (codes "<") name (flat_map attribute_text attributes) (codes "/>") (utf8_white blanks f.white) (utf8_low (codes "<") refl) f.spelt
    (attributes_utf8 attributes f.stand) (utf8_low (codes "/>") refl) in
    record {
      rest = (text ++ codes "/>") ++ codes "\n";
      begins = begins;
      utf8 = subst IsUtf8 (sym line) utf8;
      pieces = p ∷ [];
      valid = (record { text = all_text (before ++ blanks) white; mark = opening_valid name attributes blanks before f }, tt);
      text =
          ap (λ (z : List ℕ). before ++ z) begins ∙ empty_text before blanks text
          ∙ ap (λ (z : List ℕ). (((before ++ blanks) ++ (60 ∷ (z ++ 47 ∷ 62 ∷ []))) ++ []) ++ 10 ∷ []) (sym (opening_is name attributes));
      placed = λ at. rolled name attributes [] (at + length (before ++ blanks));
      same = λ at. unplaced_rolled name attributes [] (at + length (before ++ blanks)) ∙ sym (unplaced_rolled name attributes [] place);
      deep = λ at. depth_rolled name attributes [] (at + length (before ++ blanks)) ∙ sym (depth_rolled name attributes [] place);
      nested = λ at inside ps tags h.
          let here = at + length (before ++ blanks) in
          let again = pairs_again attributes f.stand in
          let below = inside || is_models name in
          subst (λ (z : List Tag). HaveTags at (p ∷ ps) (z ++ tags)) (sym (tags_rolled (record { name = name; attributes = attributes; children = []; place = here }) inside)) (
            tags,
            or_true inside (list_all is_white (before ++ blanks)) white,
            ap no_name_twice again ∙ f.single,
            ap (λ (z : List Attribute). Begin inside here name z ∷ Ending below name ∷ tags) (sym again),
            subst (λ (z : List ℕ). HaveTags (at + length z) ps tags) (append-nil (piece_written p)) h,
          );
    }

filled_before :
    (before blanks text texts rest : List ℕ) →
    before ++ (blanks ++ 60 ∷ (((text ++ codes ">") ++ codes "\n") ++ (texts ++ rest))) ≡ ((before ++ blanks) ++ (60 ∷ (text ++ 62 ∷ []))) ++ ((10 ∷ texts) ++ rest)
filled_before before blanks text texts rest = simp append_assoc

filled_after :
    (start pieces blanks ending : List ℕ) →
    start ++ ((pieces ++ 10 ∷ []) ++ (blanks ++ (ending ++ 10 ∷ []))) ≡ (start ++ (pieces ++ (((10 ∷ blanks) ++ ending) ++ []))) ++ 10 ∷ []
filled_after start pieces blanks ending =
    let last = ((10 ∷ blanks) ++ ending) ++ [] in
    ap (λ (z : List ℕ). start ++ z) (append_assoc pieces (10 ∷ []) (blanks ++ (ending ++ 10 ∷ [])))
    ∙ ap (λ (z : List ℕ). start ++ (pieces ++ (10 ∷ z))) (sym (append_assoc blanks ending (10 ∷ [])))
    ∙ ap (λ (z : List ℕ). start ++ (pieces ++ (z ++ 10 ∷ []))) (sym (append-nil (10 ∷ (blanks ++ ending))))
    ∙ ap (λ (z : List ℕ). start ++ z) (sym (append_assoc pieces last (10 ∷ [])))
    ∙ sym (append_assoc start (pieces ++ last) (10 ∷ []))

start_rest :
    (blanks text rest : List ℕ) → indented blanks (codes "<" ++ text ++ codes ">") ++ rest ≡ blanks ++ 60 ∷ (((text ++ codes ">") ++ codes "\n") ++ rest)
start_rest blanks text rest = simp append_assoc

ending_is : (blanks name : List ℕ) → indented blanks (codes "</" ++ name ++ codes ">") ≡ blanks ++ ((60 ∷ 47 ∷ (name ++ 62 ∷ [])) ++ 10 ∷ [])
ending_is blanks name = simp append_assoc

end_rest : (lines : List (List ℕ)) (line : List ℕ) → concat (lines ++ line ∷ []) ≡ concat lines ++ line
end_rest lines line = concat-append lines (line ∷ []) ∙ ap (λ (z : List ℕ). concat lines ++ z) (append-nil line)

spell_filled :
    (name : List ℕ) (attributes : List Attribute) (child : Element) (children : List Element) (place : ℕ) (blanks before : List ℕ) → Form name attributes blanks before →
    Spellings (child ∷ children) (deeper blanks) → Spelling (rolled name attributes (child ∷ children) place) blanks before
spell_filled name attributes child children place blanks before f t =
    let o = opening name attributes in
    let text = opening_text name attributes in
    let texts = texts_of (child ∷ children) (deeper blanks) in
    let p : Piece = record { text = before ++ blanks; mark = Start o } in
    let q : Piece = record { text = 10 ∷ blanks; mark = End name [] } in
    let white = white_both before blanks f.following f.white in
    let ending = indented blanks (codes "</" ++ name ++ codes ">") in
    let rest = ((text ++ codes ">") ++ codes "\n") ++ (texts ++ ending) in
    let start_line = indented blanks (codes "<" ++ text ++ codes ">") in
    let lines : concat (lines_of (rolled name attributes (child ∷ children) place) blanks) ≡ start_line ++ (texts ++ ending) =
    ap concat (lines_rolled (record { name = name; attributes = attributes; children = child ∷ children; place = place }) blanks)
    ∙ ap (λ (z : List ℕ). start_line ++ z) (end_rest (flat_map (λ (below : Lines). below (deeper blanks)) (map lines_of (child ∷ children))) ending) in
    let begins = lines ∙ start_rest blanks text (texts ++ ending) in
    let indentation = utf8_white blanks f.white in
    let start_utf8 =
    line_utf8 blanks (codes "<") name (flat_map attribute_text attributes) (codes ">") indentation (utf8_low (codes "<") refl) f.spelt (attributes_utf8 attributes f.stand)
    (utf8_low (codes ">") refl) in
    let end_utf8 : IsUtf8 ending =
    subst (λ (z : List ℕ). IsUtf8 (indented blanks (codes "</" ++ z ++ codes ">"))) (append-nil name)
    (line_utf8 blanks (codes "</") name [] (codes ">") indentation (utf8_low (codes "</") refl) f.spelt IsUtf8-nil (utf8_low (codes ">") refl)) in
    let first = piece_written p in
    let inner = pieces_written t.pieces in
    let last = piece_written q in
    let start = (before ++ blanks) ++ (60 ∷ (text ++ 62 ∷ [])) in
    let end_mark = 60 ∷ 47 ∷ (name ++ 62 ∷ []) in
    let all : pieces_written (p ∷ (t.pieces ++ q ∷ [])) ≡ first ++ (inner ++ (last ++ [])) = ap (λ (z : List ℕ). first ++ z) (flat_map-append piece_written t.pieces (q ∷ [])) in
    record {
      rest = rest;
      begins = begins;
      utf8 = subst IsUtf8 (sym lines) (IsUtf8-append start_line (texts ++ ending) start_utf8 (IsUtf8-append texts ending t.utf8 end_utf8));
      pieces = p ∷ (t.pieces ++ q ∷ []);
      valid = (
        record { text = all_text (before ++ blanks) white; mark = opening_valid name attributes blanks before f },
        valid_both t.pieces (q ∷ []) t.valid (record { text = all_text (10 ∷ blanks) f.white; mark = (f.named, refl) }, tt),
      );
      text =
          ap (λ (z : List ℕ). before ++ z) begins ∙ filled_before before blanks text texts ending
          ∙ ap (λ (z : List ℕ). start ++ ((10 ∷ texts) ++ z)) (ending_is blanks name)
          ∙ ap (λ (z : List ℕ). start ++ (z ++ (blanks ++ (end_mark ++ 10 ∷ [])))) t.text
          ∙ filled_after start inner blanks end_mark
          ∙ ap (λ (z : List ℕ). (((before ++ blanks) ++ (60 ∷ (z ++ 62 ∷ []))) ++ (inner ++ (last ++ []))) ++ 10 ∷ []) (sym (opening_is name attributes))
          ∙ ap (λ (z : List ℕ). z ++ 10 ∷ []) (sym all);
      placed = λ at. rolled name attributes (t.placed (at + length first)) (at + length (before ++ blanks));
      same = λ at.
          unplaced_rolled name attributes (t.placed (at + length first)) (at + length (before ++ blanks))
          ∙ ap (λ (z : List Element). rolled name attributes z 0) (t.same (at + length first))
          ∙ sym (unplaced_rolled name attributes (child ∷ children) place);
      deep = λ at.
          depth_rolled name attributes (t.placed (at + length first)) (at + length (before ++ blanks))
          ∙ ap (λ (z : List ℕ). 1 + greatest z) (t.deep (at + length first))
          ∙ sym (depth_rolled name attributes (child ∷ children) place);
      nested = λ at inside ps tags h.
          let here = at + length (before ++ blanks) in
          let following = at + length first in
          let below = inside || is_models name in
          let inner_tags = tags_of_all (t.placed following) below in
          let again = pairs_again attributes f.stand in
          let end : at + length (pieces_written (p ∷ (t.pieces ++ q ∷ []))) ≡ following + length inner + length last =
          ap (λ (z : List ℕ). at + length z) all ∙ omega (arith, length-append first (inner ++ (last ++ [])), length-append inner (last ++ []), length-append last []) in
          let ended : HaveTags (following + length inner) (q ∷ ps) (Ending below name ∷ tags) = (
            tags,
            or_true below (list_all is_white (10 ∷ blanks)) f.white,
            refl,
            refl,
            subst (λ (n : ℕ). HaveTags n ps tags) end h,
          ) in
          let inside_them = t.nested following below (q ∷ ps) (Ending below name ∷ tags) ended in
          let cast =
          subst (λ (z : List Piece). HaveTags following z ((inner_tags ++ Ending below name ∷ []) ++ tags)) (sym (append_assoc t.pieces (q ∷ []) ps))
          (subst (λ (z : List Tag). HaveTags following (t.pieces ++ q ∷ ps) z) (sym (append_assoc inner_tags (Ending below name ∷ []) tags)) inside_them) in
          subst (λ (z : List Tag). HaveTags at (p ∷ ((t.pieces ++ q ∷ []) ++ ps)) (z ++ tags)) (sym (tags_rolled (record { name = name; attributes = attributes; children = t.placed following; place = here }) inside)) (
            (inner_tags ++ Ending below name ∷ []) ++ tags,
            or_true inside (list_all is_white (before ++ blanks)) white,
            ap no_name_twice again ∙ f.single,
            ap (λ (z : List Attribute). Begin inside here name z ∷ ((inner_tags ++ Ending below name ∷ []) ++ tags)) (sym again),
            cast,
          );
    }

-- ---- All elements

abbrev pub Spelled : Element → Type 0
Spelled e =
    (blanks before : List ℕ) → can_be_written e ≡ true → list_all is_white blanks ≡ true → list_all is_white before ≡ true → Spelling e blanks before

abbrev bare : List ((e : Element) × Spelled e) → List Element
bare es = map (λ e. e.0) es

abbrev parts : Element-F ((e : Element) × Spelled e) → Element-F Element
parts y = record { name = y.name; attributes = y.attributes; children = bare y.children; place = y.place }

all_spelled :
    (es : List ((e : Element) × Spelled e)) (blanks : List ℕ) → list_all (λ (child : Bool). child) (map can_be_written (bare es)) ≡ true → list_all is_white blanks ≡ true →
    Spellings (bare es) blanks
all_spelled [] blanks h white = no_spellings blanks
all_spelled (e ∷ es) blanks h white =
    let t = both (can_be_written e.0) (list_all (λ (child : Bool). child) (map can_be_written (bare es))) h in
    more_spellings e.0 (bare es) blanks (e.1 blanks (10 ∷ []) t.0 white refl) (all_spelled es blanks t.1 white)

spell_node :
    (name : List ℕ) (attributes : List Attribute) (es : List ((e : Element) × Spelled e)) (place : ℕ) (blanks before : List ℕ) → Form name attributes blanks before →
    list_all (λ (child : Bool). child) (map can_be_written (bare es)) ≡ true → Spelling (rolled name attributes (bare es) place) blanks before
spell_node name attributes [] place blanks before f h = spell_empty name attributes place blanks before f
spell_node name attributes (e ∷ es) place blanks before f h =
    spell_filled name attributes e.0 (bare es) place blanks before f (all_spelled (e ∷ es) (deeper blanks) h (white_both blanks (codes "  ") f.white refl))

whole_spelled : (y : Element-F ((e : Element) × Spelled e)) → Spelled (roll-Element (parts y))
whole_spelled y blanks before can white following =
    let written = sym (fold-roll-Element Bool writes_step (parts y)) ∙ can in
    let one = both (name_stands y.name) (list_all can_stand y.attributes && (no_name_twice y.attributes && list_all (λ (child : Bool). child) (map can_be_written (bare y.children)))) written in
    let two = both (list_all can_stand y.attributes) (no_name_twice y.attributes && list_all (λ (child : Bool). child) (map can_be_written (bare y.children))) one.1 in
    let three = both (no_name_twice y.attributes) (list_all (λ (child : Bool). child) (map can_be_written (bare y.children))) two.1 in
    let name = both (is_name y.name) (is_utf8 y.name) one.0 in
    spell_node y.name y.attributes y.children y.place blanks before (record { named = name.0; spelt = IsUtf8-from_is_utf8 y.name name.1; stand = two.0; single = three.0; white = white; following = following }) three.1

pub spelled : (e : Element) → Spelled e
spelled = ind-Element Spelled (λ x y is. subst (λ (z : Element-F Element). Spelled (roll-Element z)) is (whole_spelled y))

-- the printed bytes of an element spell it, at the places that it has among them
pub element_spelled :
    (e : Element) → can_be_written e ≡ true → depth_of e ≤ 258 →
    (f : Element) × Spells (concat (lines_of e [])) f × (unplaced f ≡ unplaced e)
element_spelled e can deep =
    let bytes = concat (lines_of e []) in
    let s = spelled e [] [] can refl refl in
    let unmarked : order_mark_len bytes ≡ 0 = ap order_mark_len s.begins in
    let nested = s.nested 0 false [] [] refl in
    let f = s.placed 0 in
    let depth : depth_of f ≤ 258 = omega (arith, deep, s.deep 0) in (
      f,
      record {
        pieces = s.pieces;
        last = 10 ∷ [];
        utf8 = s.utf8;
        valid = s.valid;
        blank = refl;
        written = ap (λ (n : ℕ). drop n bytes) unmarked ∙ s.text;
        nested =
            subst (λ (n : ℕ). HaveTags n s.pieces (tags_of f false)) (sym unmarked)
            (subst (λ (z : List Piece). HaveTags 0 z (tags_of f false)) (append-nil s.pieces)
            (subst (λ (z : List Tag). HaveTags 0 (s.pieces ++ []) z) (append-nil (tags_of f false)) nested));
        depth = depth;
      },
      s.same 0,
    )
