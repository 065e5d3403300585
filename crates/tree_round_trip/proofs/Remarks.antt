-- The bytes of a printed tree with comments before it spell the tree's element.
use Rattle.std.proofs.Common.{◌≡◌, ℕ, ◌+◌, ◌≤◌, true, false, List, [], ◌∷◌, ◌++◌, map, length, drop, refl, ap, sym, ◌∙◌, subst, append_assoc, append-nil, arith, length-append, codes, None, Ok}
use Rattle.std.proofs.lemmas.Grind.{flat_map-append}
use Rattle.std.proofs.lemmas.Str.{IsUtf8-append, IsUtf8-nil}
use Rattle.std.specs.List.{concat, list_all, AllByRecursion}
use Rattle.std.specs.Str.{IsUtf8}
use Rattle.spec_script.specs.Identifiers.{is_white}
use Rattle.spec_tree_file.specs.declared.element.Element.{Element}
use Rattle.spec_tree_file.specs.Elements.{HaveTags, IsPiece, Piece, Spells, Tag, depth_of, inside_before, order_mark_len, piece_written, pieces_written, is_text_byte, tags_of}
use Rattle.spec_tree_file.specs.Marks.{Comment}
use Rattle.spec_tree_file.specs.Models.{manifest_in}
use Rattle.spec_tree_file.specs.Reads.{reads}
use Rattle.spec_tree.specs.PrintedTree.{tree_lines}
use Rattle.spec_tree.specs.Terms.{depth_of as term_depth, scope_count}
use Rattle.spec_tree.specs.Trees.{IsValid}
use Rattle.spec_tree.specs.declared.term.Tree.{Tree}
use Rattle.tree_elements.specs.Written.{can_be_written}
use Rattle.tree_elements.proofs.Ascii.{utf8_low}
use Rattle.tree_round_trip.specs.Openings.{OpensAlike}
use Rattle.tree_round_trip.specs.Printed.{lines_of, unplaced}
use Rattle.tree_round_trip.specs.Remarks.{CanRemark, remark_line}
use Rattle.tree_round_trip.specs.TreeElements.{element_of}
use Rattle.tree_round_trip.proofs.Depths.{tree_within}
use Rattle.tree_round_trip.proofs.Elements.{Spelling, or_true, spelled, valid_both}
use Rattle.tree_round_trip.proofs.Lone.{lone_alike}
use Rattle.tree_round_trip.proofs.ReadTrees.{element_models, element_reads}
use Rattle.tree_round_trip.proofs.Trees.{tree_shown}
use Rattle.tree_round_trip.proofs.Writable.{tree_can}

-- ---- Comments

-- comments as pieces; before the first one stands this white space, and before each other one the line feed of the one before
abbrev remarks : List ℕ → List (List ℕ) → List Piece
remarks before [] = []
remarks before (body ∷ bodies) = record { text = before; mark = Comment body } ∷ remarks (10 ∷ []) bodies

-- what stands after the last mark
abbrev after : List ℕ → List (List ℕ) → List ℕ
after before [] = before
after before (body ∷ bodies) = after (10 ∷ []) bodies

abbrev texts : List (List ℕ) → List ℕ
texts bodies = concat (map remark_line bodies)

first_remark : (before body rest : List ℕ) → before ++ ((codes "<!--" ++ body ++ codes "-->\n") ++ rest) ≡ (before ++ (60 ∷ 33 ∷ 45 ∷ 45 ∷ (body ++ codes "-->"))) ++ ((10 ∷ []) ++ rest)
first_remark before body rest = simp append_assoc

remarks_written : (before : List ℕ) (bodies : List (List ℕ)) → before ++ texts bodies ≡ pieces_written (remarks before bodies) ++ after before bodies
remarks_written before [] = append-nil before
remarks_written before (body ∷ bodies) =
    let first : Piece = record { text = before; mark = Comment body } in
    first_remark before body (texts bodies)
    ∙ ap (λ (z : List ℕ). piece_written first ++ z) (remarks_written (10 ∷ []) bodies)
    ∙ sym (append_assoc (piece_written first) (pieces_written (remarks (10 ∷ []) bodies)) (after (10 ∷ []) bodies))

after_white : (before : List ℕ) (bodies : List (List ℕ)) → list_all is_white before ≡ true → list_all is_white (after before bodies) ≡ true
after_white before [] white = white
after_white before (body ∷ bodies) white = after_white (10 ∷ []) bodies refl

remarks_valid : (before : List ℕ) (bodies : List (List ℕ)) → list_all is_text_byte before ≡ true → AllByRecursion CanRemark bodies → AllByRecursion IsPiece (remarks before bodies)
remarks_valid before [] text can = tt
remarks_valid before (body ∷ bodies) text can = (record { text = text; mark = can.0.mark }, remarks_valid (10 ∷ []) bodies refl can.1)

remarks_utf8 : (bodies : List (List ℕ)) → AllByRecursion CanRemark bodies → IsUtf8 (texts bodies)
remarks_utf8 [] can = IsUtf8-nil
remarks_utf8 (body ∷ bodies) can =
    IsUtf8-append (remark_line body) (texts bodies)
    (IsUtf8-append (codes "<!--" ++ body) (codes "-->\n") (IsUtf8-append (codes "<!--") body (utf8_low (codes "<!--") refl) can.0.utf8) (utf8_low (codes "-->\n") refl))
    (remarks_utf8 bodies can.1)

-- comments have no tags
remarks_tagged : (at : ℕ) (before : List ℕ) (bodies : List (List ℕ)) (ps : List Piece) (tags : List Tag) → list_all is_white before ≡ true →
    HaveTags (at + length (pieces_written (remarks before bodies))) ps tags → HaveTags at (remarks before bodies ++ ps) tags
remarks_tagged at before [] ps tags white have = let e : at + 0 ≡ at = omega arith in subst (λ (n : ℕ). HaveTags n ps tags) e have
remarks_tagged at before (body ∷ bodies) ps tags white have =
    let first : Piece = record { text = before; mark = Comment body } in
    let later = pieces_written (remarks (10 ∷ []) bodies) in
    let e : at + length (piece_written first ++ later) ≡ at + length (piece_written first) + length later = omega (arith, length-append (piece_written first) later) in (
      tags,
      or_true (inside_before tags) (list_all is_white before) white,
      refl,
      refl,
      remarks_tagged (at + length (piece_written first)) (10 ∷ []) bodies ps tags refl (subst (λ (n : ℕ). HaveTags n ps tags) e have),
    )

-- ---- What is spelled

-- no order mark stands before a comment or a mark
unmarked : (bodies : List (List ℕ)) (bytes rest : List ℕ) → bytes ≡ 60 ∷ rest → order_mark_len (texts bodies ++ bytes) ≡ 0
unmarked [] bytes rest is = ap order_mark_len is
unmarked (body ∷ bodies) bytes rest is = refl

-- the bytes of a printed element with comments before it spell it, at the places that it has among them
spelled_after :
    (bodies : List (List ℕ)) (e : Element) → AllByRecursion CanRemark bodies → can_be_written e ≡ true → depth_of e ≤ 258 →
    (f : Element) × Spells (texts bodies ++ concat (lines_of e [])) f × (unplaced f ≡ unplaced e)
spelled_after bodies e can writes deep =
    let before = after [] bodies in
    let said = remarks [] bodies in
    let bytes = concat (lines_of e []) in
    let s : Spelling e [] before = spelled e [] before writes refl (after_white [] bodies refl) in
    let none : order_mark_len (texts bodies ++ bytes) ≡ 0 = unmarked bodies bytes s.rest s.begins in
    let at = length (pieces_written said) in
    let f = s.placed at in
    let start : at ≡ 0 + at = omega arith in
    let depth : depth_of f ≤ 258 = omega (arith, deep, s.deep at) in
    let both : pieces_written (said ++ s.pieces) ≡ pieces_written said ++ pieces_written s.pieces = flat_map-append piece_written said s.pieces in
    let text : texts bodies ++ bytes ≡ pieces_written (said ++ s.pieces) ++ 10 ∷ [] =
    ap (λ (z : List ℕ). z ++ bytes) (remarks_written [] bodies)
    ∙ append_assoc (pieces_written said) before bytes
    ∙ ap (λ (z : List ℕ). pieces_written said ++ z) s.text
    ∙ sym (append_assoc (pieces_written said) (pieces_written s.pieces) (10 ∷ []))
    ∙ ap (λ (z : List ℕ). z ++ 10 ∷ []) (sym both) in
    let own : HaveTags at (s.pieces ++ []) (tags_of f false ++ []) = s.nested at false [] [] refl in
    let plain : HaveTags at s.pieces (tags_of f false) =
    subst (λ (z : List Piece). HaveTags at z (tags_of f false)) (append-nil s.pieces) (subst (λ (z : List Tag). HaveTags at (s.pieces ++ []) z) (append-nil (tags_of f false)) own) in (
      f,
      record {
        pieces = said ++ s.pieces;
        last = 10 ∷ [];
        utf8 = IsUtf8-append (texts bodies) bytes (remarks_utf8 bodies can) s.utf8;
        valid = valid_both said s.pieces (remarks_valid [] bodies refl can) s.valid;
        blank = refl;
        written = ap (λ (n : ℕ). drop n (texts bodies ++ bytes)) none ∙ text;
        nested = subst (λ (n : ℕ). HaveTags n (said ++ s.pieces) (tags_of f false)) (sym none) (remarks_tagged 0 [] bodies s.pieces (tags_of f false) refl (subst (λ (n : ℕ). HaveTags n s.pieces (tags_of f false)) start plain));
        depth = depth;
      },
      s.same at,
    )

tree_spelled_after : (bodies : List (List ℕ)) (tree : Tree) → AllByRecursion CanRemark bodies → IsValid tree → (f : Element) × Spells (texts bodies ++ concat (tree_lines tree)) f × (unplaced f ≡ unplaced (element_of tree))
tree_spelled_after bodies tree can valid =
    let e = element_of tree in
    let low : term_depth tree.term ≤ 256 = valid.limits.depth in
    subst (λ (z : List (List ℕ)). (f : Element) × Spells (texts bodies ++ concat z) f × (unplaced f ≡ unplaced e)) (sym (tree_shown tree))
    (spelled_after bodies e can (tree_can tree valid) (omega (arith, low, tree_within tree)))

-- a valid tree in which the trees are opened alike, with comments before it
pub alike_after : (bodies : List (List ℕ)) (tree : Tree) → AllByRecursion CanRemark bodies → IsValid tree → OpensAlike tree →
    (f : Element) × Spells (texts bodies ++ concat (tree_lines tree)) f × (manifest_in f ≡ Ok []) × (reads [] None f ≡ Ok tree)
alike_after bodies tree can valid opens =
    let s = tree_spelled_after bodies tree can valid in (s.0, s.1, element_models tree s.0 s.2, element_reads tree s.0 valid opens s.2)

-- .. or one without SubTree nodes
pub lone_after : (bodies : List (List ℕ)) (tree : Tree) → AllByRecursion CanRemark bodies → IsValid tree → scope_count tree.term ≡ 0 →
    (f : Element) × Spells (texts bodies ++ concat (tree_lines tree)) f × (manifest_in f ≡ Ok []) × (reads [] None f ≡ Ok tree)
lone_after bodies tree can valid few = alike_after bodies tree can valid (lone_alike tree few)
