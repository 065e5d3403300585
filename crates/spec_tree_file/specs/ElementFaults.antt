-- The fault of a tree file that spells no element: the first along the file, and of one mark the first by its kind.
use Rattle.std.specs.Prelude.{◌≡◌, ℕ, ◌+◌, ◌⊎◌, Bool, true, ◌&&◌, ◌||◌, nat_lt, List, [], ◌∷◌, ◌++◌, length, drop, Option, Some, None, is_none, IsTrue, if◌then◌else◌}
use Rattle.std.specs.List.{prefix_len, list_all, list_any, AllByRecursion}
use Rattle.std.specs.Str.{bytes_eq, IsUtf8}
use Rattle.std.specs.Str.Lossy.{utf8_valid_len}
use Rattle.spec_script.specs.Identifiers.{is_white}
use Rattle.spec_tree_file.specs.declared.element.ElementFault.{ElementFault}
use Rattle.spec_tree_file.specs.declared.element.ElementFault.TheVariants.{NotUtf8, BadMark, Unmatched, DoubleAttribute, StrayText, TooDeep}
use Rattle.spec_tree_file.specs.Marks.{Mark, Start, Empty, End, mark_written, is_single, IsMark}
use Rattle.spec_tree_file.specs.Elements.{is_models, Piece, piece_written, pieces_written, is_text_byte, IsPiece, order_mark_len}

-- where marks and texts stand: in these elements, which are named the innermost first, or after the document element
pub data Standing : Type 0 where
  In : (names : List (List ℕ)) → Standing
  After : Standing

-- after an element that stands in these
abbrev pub ended_in : List (List ℕ) → Standing
ended_in [] = After
ended_in (name ∷ names) = In (name ∷ names)

-- the standing after a mark that has no fault
abbrev pub following_mark : Standing → Mark → Standing
following_mark (In names) (Start o) = In (o.name ∷ names)
following_mark (In names) (Empty o) = ended_in names
following_mark (In names) (End name gap) = ended_in (drop 1 names)
following_mark s _ = s

-- the standing after these pieces
abbrev pub after_pieces : Standing → List Piece → Standing
after_pieces s [] = s
after_pieces s (p ∷ ps) = after_pieces (following_mark s p.mark) ps

-- whether text may stand there: white space, and inside of models any text
abbrev pub may_hold : Standing → List ℕ → Bool
may_hold (In names) text = list_any is_models names || list_all is_white text
may_hold After text = list_all is_white text

-- the fault of an element that begins at this place
abbrev pub nesting_fault : Standing → ℕ → Option ElementFault
nesting_fault (In names) place = if nat_lt (length names) 258 then None else Some (TooDeep place)
nesting_fault After place = Some (Unmatched place)

-- the fault of an end mark: it names the innermost element
abbrev pub end_fault : Standing → ℕ → List ℕ → Option ElementFault
end_fault (In (innermost ∷ names)) place name = if bytes_eq innermost name then None else Some (Unmatched place)
end_fault _ place name = Some (Unmatched place)

-- the fault of a mark that is in one of the forms
abbrev pub mark_fault : Standing → ℕ → Mark → Option ElementFault
mark_fault s place (Start o) = if is_single (Start o) then nesting_fault s place else Some (DoubleAttribute place)
mark_fault s place (Empty o) = if is_single (Empty o) then nesting_fault s place else Some (DoubleAttribute place)
mark_fault s place (End name gap) = end_fault s place name
mark_fault s place _ = None

-- the fault of the file's end
abbrev pub last_fault : Standing → ℕ → Option ElementFault
last_fault (In names) place = Some (Unmatched place)
last_fault After place = None

-- what follows a text: a mark in one of the forms, a `<` that begins none, or the file's end
pub data Next : Type 0 where
  Marked : Mark → Next
  Unmarked : Next
  Over : Next

-- the rest of a file begins with this
abbrev pub IsNext : List ℕ → Next → Type 0
IsNext rest (Marked m) = IsMark m × ((more : List ℕ) × (rest ≡ mark_written m ++ more))
IsNext rest Unmarked = ((inner : List ℕ) × (rest ≡ 60 ∷ inner)) × ((m : Mark) (more : List ℕ) → IsMark m → rest ≡ mark_written m ++ more → ⊥)
IsNext rest Over = rest ≡ []

-- the fault of what follows a text
abbrev pub fault_after : Standing → ℕ → Next → Option ElementFault
fault_after s place (Marked m) = mark_fault s place m
fault_after s place Unmarked = Some (BadMark place)
fault_after s place Over = last_fault s place

-- the fault of a text at this offset, or else of what follows it
abbrev pub next_fault : Standing → ℕ → List ℕ → Next → Option ElementFault
next_fault s at text next =
    if may_hold s text then fault_after s (at + length text) next else Some (StrayText (at + prefix_len is_white text))

-- whether none of these pieces, from this offset on, has a fault
abbrev pub faultless : Standing → ℕ → List Piece → Bool
faultless s at [] = true
faultless s at (p ∷ ps) =
    is_none (next_fault s at p.text (Marked p.mark)) && faultless (following_mark s p.mark) (at + length (piece_written p)) ps

-- Pieces without a fault, a text after them, and what stands next, of which one has the fault.
pub record FirstFault (bytes : List ℕ) (fault : ElementFault) : Type 0 where
  pub pieces : List Piece
  pub text : List ℕ
  pub rest : List ℕ
  pub next : Next
  pub valid : AllByRecursion IsPiece pieces
  pub no_mark : IsTrue (list_all is_text_byte text)
  pub is_next : IsNext rest next
  pub written : drop (order_mark_len bytes) bytes ≡ pieces_written pieces ++ (text ++ rest)
  pub before : IsTrue (faultless (In []) (order_mark_len bytes) pieces)
  pub is : next_fault (after_pieces (In []) pieces) (order_mark_len bytes + length (pieces_written pieces)) text next ≡ Some fault

-- The fault of the bytes. A file that is not UTF-8 has the length of its longest prefix that is.
abbrev pub ElementFaultOf : List ℕ → ElementFault → Type 0
ElementFaultOf bytes fault = (IsUtf8 bytes × FirstFault bytes fault) ⊎ ((IsUtf8 bytes → ⊥) × (fault ≡ NotUtf8 (utf8_valid_len bytes)))
