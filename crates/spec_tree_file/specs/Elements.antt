-- What a tree file spells: a list of marks with text between them, which nest to an element.
pub use Rattle.spec_script.specs.Numbers.{greatest}
use Rattle.std.specs.Prelude.{◌≡◌, ℕ, ◌+◌, ◌≤◌, Bool, false, not, ◌==◌, ◌||◌, List, [], ◌∷◌, ◌++◌, map, length, drop, codes, IsTrue, if◌then◌else◌}
use Rattle.std.specs.List.{list_all, flat_map, AllByRecursion}
use Rattle.std.specs.Str.{bytes_eq, IsUtf8}
use Rattle.spec_script.specs.Identifiers.{is_white}
use Rattle.spec_tree_file.specs.declared.element.Element.{Element, Element-F, fold-Element}
use Rattle.spec_tree_file.specs.References.{begins_with}
use Rattle.spec_tree_file.specs.Marks.{Mark, Start, Empty, End, Instruction, Comment, mark_written, pairs_of, is_single, IsMark}

-- Where an element begins and where it ends. Each says whether what stands right before it is content of an element
-- named TreeNodesModel, or lies deeper in one.
pub data Tag : Type 0 where
  Begin : (inside : Bool) (place : ℕ) (name : List ℕ) (attributes : List (List ℕ × List ℕ)) → Tag
  Ending : (inside : Bool) (name : List ℕ) → Tag

-- the name of the element that holds the models
abbrev pub is_models : List ℕ → Bool
is_models name = bytes_eq name (codes "TreeNodesModel")

-- lists of tags, one after the other
abbrev pub joined : List (List Tag) → List Tag
joined [] = []
joined (ts ∷ tss) = ts ++ joined tss

-- an element's tags, where its children's are known: its beginning, its children's, its ending
abbrev pub tags_step : Element-F (Bool → List Tag) → Bool → List Tag
tags_step f inside =
    let below = inside || is_models f.name in
    Begin inside f.place f.name f.attributes ∷ (joined (map (λ child. child below) f.children) ++ Ending below f.name ∷ [])

-- the tags of an element, by whether it stands inside of models
abbrev pub tags_of : Element → Bool → List Tag
tags_of = fold-Element (Bool → List Tag) tags_step

-- one more than the deepest child
abbrev pub depth_step : Element-F ℕ → ℕ
depth_step f = 1 + greatest f.children

-- how many elements stand in one another, the element counted
abbrev pub depth_of : Element → ℕ
depth_of = fold-Element ℕ depth_step

-- a mark with the text before it
pub record Piece : Type 0 where
  pub text : List ℕ
  pub mark : Mark

-- the bytes of a piece
abbrev pub piece_written : Piece → List ℕ
piece_written p = p.text ++ mark_written p.mark

-- the bytes of pieces
abbrev pub pieces_written : List Piece → List ℕ
pieces_written = flat_map piece_written

-- text holds no `<`
abbrev pub is_text_byte : ℕ → Bool
is_text_byte c = not (c == 60)

-- text without `<`, and a mark in one of the forms
pub record IsPiece (p : Piece) : Type 0 where
  pub text : IsTrue (list_all is_text_byte p.text)
  pub mark : IsMark p.mark

-- The tags of a mark at a place, by whether the mark stands inside of models. An empty mark is a start and an end.
-- Instructions and comments are ignored.
abbrev pub tags_of_mark : Bool → ℕ → Mark → List Tag
tags_of_mark inside place (Start o) = Begin inside place o.name (pairs_of o.attributes) ∷ []
tags_of_mark inside place (Empty o) =
    Begin inside place o.name (pairs_of o.attributes) ∷ Ending (inside || is_models o.name) o.name ∷ []
tags_of_mark inside place (End name gap) = Ending inside name ∷ []
tags_of_mark inside place (Instruction body) = []
tags_of_mark inside place (Comment body) = []

-- whether what stands before these tags is inside of models
abbrev pub inside_before : List Tag → Bool
inside_before [] = false
inside_before (Begin inside place name attributes ∷ tags) = inside
inside_before (Ending inside name ∷ tags) = inside

-- These pieces, from this offset on, have these tags. Text is white space, or stands inside of models, and no
-- attribute's name occurs twice in a mark.
abbrev pub HaveTags : ℕ → List Piece → List Tag → Type 0
HaveTags at [] tags = tags ≡ []
HaveTags at (p ∷ ps) tags =
    (more : List Tag)
    × IsTrue (inside_before tags || list_all is_white p.text)
    × IsTrue (is_single p.mark)
    × (tags ≡ tags_of_mark (inside_before tags) (at + length p.text) p.mark ++ more)
    × HaveTags (at + length (piece_written p)) ps more

-- the length of the byte order mark at the beginning of a file, which is ignored
abbrev pub order_mark_len : List ℕ → ℕ
order_mark_len bytes = if begins_with (0xEF ∷ 0xBB ∷ 0xBF ∷ []) bytes then 3 else 0

-- The bytes are marks with text between them, and the marks nest to the element.
pub record Spells (bytes : List ℕ) (e : Element) : Type 0 where
  pub pieces : List Piece
  pub last : List ℕ
  pub utf8 : IsUtf8 bytes
  pub valid : AllByRecursion IsPiece pieces
  pub blank : IsTrue (list_all is_white last)
  pub written : drop (order_mark_len bytes) bytes ≡ pieces_written pieces ++ last
  pub nested : HaveTags (order_mark_len bytes) pieces (tags_of e false)
  pub depth : depth_of e ≤ 258
