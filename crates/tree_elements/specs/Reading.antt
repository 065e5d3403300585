-- The reading of marks and of a file as functions on lists, for the contracts of private functions alone: what the scanner does.
pub use Rattle.base_texts.specs.Options.{◌>>=◌}
pub use Rattle.base_texts.specs.Results.{◌>>=◌ as ◌>=>◌}
use Rattle.std.specs.Prelude.{◌≡◌, ℕ, zero, suc, ◌+◌, ◌-◌, Bool, false, ◌==◌, ◌&&◌, ◌||◌, nat_lt, List, [], ◌∷◌, ◌++◌, length, take, drop, Option, Some, None, Result, Ok, Err, if◌then◌else◌, is_none, reverse}
use Rattle.std.specs.List.{prefix_len, list_all}
use Rattle.std.specs.Option.{option_map}
use Rattle.std.specs.Str.{bytes_eq}
use Rattle.spec_script.specs.Identifiers.{is_white}
use Rattle.base_texts.specs.declared.stop.Stop.{Stop}
use Rattle.base_texts.specs.declared.stop.Stop.TheVariants as stop
use Rattle.spec_tree_file.specs.declared.element.ElementFault.{ElementFault}
use Rattle.spec_tree_file.specs.declared.element.ElementFault.TheVariants.{BadMark, Unmatched, DoubleAttribute, StrayText, TooDeep}
use Rattle.spec_tree_file.specs.declared.element.Element.{Element, roll-Element}
use Rattle.tree_elements.specs.declared.mark.Front.{Front}
use Rattle.tree_elements.specs.declared.mark.Mark.{Mark}
use Rattle.tree_elements.specs.declared.mark.Mark.TheVariants.{Start, Empty, End, Aside}
use Rattle.tree_elements.specs.declared.mark.NoMark.{NoMark}
use Rattle.tree_elements.specs.declared.nest.Open.{Open}
use Rattle.tree_elements.specs.declared.nest.Nest.{Nest}
use Rattle.spec_tree_file.specs.References.{begins_with, decoded}
use Rattle.spec_tree_file.specs.Marks.{is_name_first, is_name_rest, is_quote, is_value_byte, instruction_end, comment_end, no_name_twice}
use Rattle.spec_tree_file.specs.Elements.{is_text_byte, is_models, order_mark_len}

-- What a scanner gave, seen by view, is what reading gives, and it finds no mark exactly where reading gives nothing.
-- Want of memory (out of memory) may come anywhere.
abbrev pub Scans : {X Y : Type 0} → (X → Y) → Result X (Stop NoMark) → Option Y → Type 0
Scans view (Ok x) said = said ≡ Some (view x)
Scans view (Err stop.NoMemory) said = Unit {0}
Scans view (Err (stop.Fault none)) said = said ≡ None

-- What a call gave, seen by view, is what reading gives, and so is its fault.
abbrev pub GivesAs : {X Y F : Type 0} → (X → Y) → Result X (Stop F) → Result Y F → Type 0
GivesAs view (Ok x) said = said ≡ Ok (view x)
GivesAs view (Err stop.NoMemory) said = Unit {0}
GivesAs view (Err (stop.Fault fault)) said = said ≡ Err fault

-- the bytes after the white space at the front
abbrev pub after_white : List ℕ → List ℕ
after_white bytes = drop (prefix_len is_white bytes) bytes

-- whether the first byte passes
abbrev pub begins : (ℕ → Bool) → List ℕ → Bool
begins p [] = false
begins p (b ∷ bs) = p b

-- the bytes after this one
abbrev pub following : ℕ → List ℕ → Option (List ℕ)
following c [] = None
following c (b ∷ bs) = if b == c then Some bs else None

-- the name at the front, and what follows it
abbrev pub name_of : List ℕ → Option (List ℕ × List ℕ)
name_of bytes =
    let n = prefix_len is_name_rest bytes in
    if begins is_name_first bytes then Some (take n bytes, drop n bytes) else None

-- what a value says that comes after this quote, and what follows it
abbrev pub value_after : ℕ → List ℕ → Option (List ℕ × List ℕ)
value_after quote bytes =
    let n = prefix_len (is_value_byte quote) bytes in
    option_map (λ rest. (decoded (take n bytes), rest)) (following quote (drop n bytes))

-- what the quoted value at the front says, and what follows it
abbrev pub value_of : List ℕ → Option (List ℕ × List ℕ)
value_of [] = None
value_of (c ∷ cs) = if is_quote c then value_after c cs else None

-- the attribute at the front, and what follows it
abbrev pub attribute_of : List ℕ → Option ((List ℕ × List ℕ) × List ℕ)
attribute_of bytes =
    name_of bytes >>= λ name.
    following 61 (after_white name.1) >>= λ equal.
    value_of (after_white equal) >>= λ value.
    Some ((name.0, value.0), value.1)

-- whether an attribute begins at the front, with its white space
abbrev pub attribute_begins : List ℕ → Bool
attribute_begins bytes = begins is_white bytes && begins is_name_first (after_white bytes)

-- at most so many attributes
abbrev pub attributes_of : ℕ → List ℕ → Option (List (List ℕ × List ℕ) × List ℕ)
attributes_of zero bytes = Some ([], bytes)
attributes_of (suc k) bytes =
    if attribute_begins bytes then
    (attribute_of (after_white bytes) >>= λ a. option_map (λ more. (a.0 ∷ more.0, more.1)) (attributes_of k a.1))
    else Some ([], bytes)

-- a start mark or an empty mark up to its end, and what follows
abbrev pub front_of : List ℕ → Option (Front × List ℕ)
front_of bytes =
    name_of bytes >>= λ name.
    attributes_of (length name.1) name.1 >>= λ more.
    Some (record { name = name.0; attributes = more.0 }, after_white more.1)

-- the end of a start mark or of an empty mark
abbrev pub closing : Front → List ℕ → Option (Mark × List ℕ)
closing o [] = None
closing o (c ∷ cs) =
    if c == 62 then Some (Start o, cs)
    else if c == 47 then option_map (λ rest. (Empty o, rest)) (following 62 cs) else None

-- a start mark or an empty mark, and what follows it
abbrev pub opening_of : List ℕ → Option (Mark × List ℕ)
opening_of bytes = front_of bytes >>= λ o. closing o.0 o.1

-- an end mark, and what follows it
abbrev pub end_of : List ℕ → Option (Mark × List ℕ)
end_of bytes =
    name_of bytes >>= λ name.
    option_map (λ rest. (End name.0, rest)) (following 62 (after_white name.1))

-- the bytes after the first of these words, before which no byte is 0
abbrev pub following_first : List ℕ → List ℕ → Option (List ℕ)
following_first word [] = None
following_first word (c ∷ cs) =
    if begins_with word (c ∷ cs) then Some (drop (length word) (c ∷ cs))
    else if c == 0 then None else following_first word cs

-- an instruction or a comment with this ending, and what follows it
abbrev pub aside_of : List ℕ → List ℕ → Option (Mark × List ℕ)
aside_of ending bytes = option_map (λ rest. (Aside, rest)) (following_first ending bytes)

-- the mark after a `<!`
abbrev pub comment_of : List ℕ → Option (Mark × List ℕ)
comment_of bytes = following 45 bytes >>= λ one. following 45 one >>= λ two. aside_of comment_end two

-- the mark after a `<`
abbrev pub mark_of : List ℕ → Option (Mark × List ℕ)
mark_of [] = None
mark_of (c ∷ cs) =
    if c == 47 then end_of cs
    else (if c == 63 then aside_of instruction_end cs
    else (if c == 33 then comment_of cs else opening_of (c ∷ cs)))

-- the mark after a `<` at this place
abbrev pub mark_at : ℕ → List ℕ → Result (Mark × List ℕ) ElementFault
mark_at place bytes = elim (mark_of bytes) [ Some m ↦ Ok m | None ↦ Err (BadMark place) ]

-- the open elements, the innermost first, and the document element once it has ended
pub record State : Type 0 where
  pub stack : List Open
  pub done : Option Element

-- the code's nest as a state: the code keeps the innermost element last
abbrev pub seen : Nest → State
seen n = record { stack = reverse n.stack.items; done = n.done }

-- before the first mark
abbrev pub start : State
start = record { stack = []; done = None }

-- whether what stands here is inside of models, by the open elements
abbrev pub inside_of : List Open → Bool
inside_of [] = false
inside_of (o ∷ os) = o.inside

-- whether a text may stand here
abbrev pub may_stand : State → List ℕ → Bool
may_stand st text = is_none st.done && inside_of st.stack || list_all is_white text

-- the element that an open one becomes when it ends
abbrev pub element_of : Open → Element
element_of o = roll-Element (record { name = o.name; attributes = o.attributes; children = o.children; place = o.place })

-- an open element with one more child, its last
abbrev pub with_child : Open → Element → Open
with_child o e = record { name = o.name; attributes = o.attributes; children = o.children ++ e ∷ []; place = o.place; inside = o.inside }

-- an element that has ended
abbrev pub attach : Element → List Open → State
attach e [] = record { stack = []; done = Some e }
attach e (o ∷ os) = record { stack = with_child o e ∷ os; done = None }

-- an element that begins at this place within these
abbrev pub opened : List Open → ℕ → Front → Open
opened stack place o =
    record { name = o.name; attributes = o.attributes; children = []; place = place; inside = inside_of stack || is_models o.name }

-- an element that begins at this place
abbrev pub begun : State → ℕ → Front → Result Open ElementFault
begun st place o =
    if no_name_twice o.attributes then
    (if is_none st.done then
    (if nat_lt (length st.stack) 258 then Ok (opened st.stack place o) else Err (TooDeep place)) else Err (Unmatched place))
    else Err (DoubleAttribute place)

-- the end mark of this name at this place
abbrev pub close : ℕ → List ℕ → List Open → Result State ElementFault
close place name [] = Err (Unmatched place)
close place name (o ∷ os) = if bytes_eq o.name name then Ok (attach (element_of o) os) else Err (Unmatched place)

-- the state after a mark at this place, or the fault of the mark
abbrev pub step : State → ℕ → Mark → Result State ElementFault
step st place (Start o) = begun st place o >=> λ x. Ok (record { stack = x ∷ st.stack; done = None })
step st place (Empty o) = begun st place o >=> λ x. Ok (attach (element_of x) st.stack)
step st place (End name) = close place name st.stack
step st place Aside = Ok st

-- the document element at the end of a file of this length, if it has ended
abbrev pub ended_by : Option Element → ℕ → Result Element ElementFault
ended_by None total = Err (Unmatched total)
ended_by (Some e) total = Ok e

-- the document element at the end of a file of this length
abbrev pub finished : State → ℕ → Result Element ElementFault
finished st total = ended_by st.done total

-- the text at the front, up to a `<`
abbrev pub text_len : List ℕ → ℕ
text_len bytes = prefix_len is_text_byte bytes

-- the document element of the rest of a file of this length, in at most so many steps
abbrev pub read_from : ℕ → ℕ → State → List ℕ → Result Element ElementFault
read_from zero total st bytes = finished st total
read_from (suc k) total st bytes =
    let text = take (text_len bytes) bytes in
    let rest = drop (text_len bytes) bytes in
    let place = total - length rest in
    if may_stand st text then
    (if length rest == 0 then finished st total
    else (mark_at place (drop 1 rest) >=> λ m. step st place m.0 >=> λ next. read_from k total next m.1))
    else Err (StrayText (total - length bytes + prefix_len is_white text))

-- the document element of the rest of a file of this length
abbrev pub read_rest : ℕ → State → List ℕ → Result Element ElementFault
read_rest total st bytes = read_from (suc (length bytes)) total st bytes

-- the document element of a file
abbrev pub read : List ℕ → Result Element ElementFault
read bytes = read_rest (length bytes) start (drop (order_mark_len bytes) bytes)
