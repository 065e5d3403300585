-- A file is read piece by piece: pieces that are written are read, and what was read stood there as pieces.
use Rattle.std.proofs.Common.{◌≡◌, ℕ, zero, suc, ◌+◌, ◌-◌, ◌<◌, ◌≤◌, Bool, true, false, ◌==◌, List, [], ◌∷◌, ◌++◌, length, take, drop, Option, Some, None, Result, Ok, Err, refl, ap, sym, ◌∙◌, subst, append_assoc, arith, if◌then◌else◌}
use Rattle.std.proofs.lemmas.List.{take-append-drop, length-append, length-drop}
use Rattle.std.proofs.lemmas.Bool.Decides.{nat_tests}
use Rattle.std.specs.List.{prefix_len, list_all, AllByRecursion}
use Rattle.spec_script.specs.Identifiers.{is_white}
use Rattle.std.specs.Str.{IsUtf8}
use Rattle.base_texts.specs.declared.stop.Stop.{Stop}
use Rattle.base_texts.specs.declared.stop.Stop.TheVariants as stop
use Rattle.base_texts.specs.Stops.{Gives}
use Rattle.spec_tree_file.specs.declared.element.Element.{Element}
use Rattle.spec_tree_file.specs.declared.element.ElementFault.{ElementFault}
use Rattle.spec_tree_file.specs.declared.element.ElementFault.TheVariants.{BadMark, StrayText}
use Rattle.tree_elements.specs.declared.mark.Mark.{Mark}
use Rattle.spec_tree_file.specs.Marks as written
use Rattle.spec_tree_file.specs.Marks.{Start, Empty, End, Instruction, Comment, mark_written}
use Rattle.spec_tree_file.specs.Elements.{Piece, piece_written, pieces_written, is_text_byte, IsPiece}
use Rattle.tree_elements.specs.Reading.{GivesAs, ◌>=>◌, begins, mark_of, mark_at, State, may_stand, step, finished, text_len, read_from, read_rest}
use Rattle.tree_elements.proofs.Prefixes.{taken, left, taken_seam, left_seam}
use Rattle.tree_elements.proofs.Marks.{said, mark_again}
use Rattle.tree_elements.proofs.Found.{mark_found, mark_shrinks}
use Rattle.tree_elements.proofs.Nesting.{piece_step, run, run_one}
use Rattle.tree_elements.proofs.Cuts.{cut_following}
use Rattle.tree_elements.proofs.Outcomes.{ok_inj}

-- the steps of read_from
abbrev pub then_step : ℕ → ℕ → ℕ → State → Mark × List ℕ → Result Element ElementFault
then_step k total place st m = step st place m.0 >=> λ next. read_from k total next m.1

abbrev pub by_marks : ℕ → ℕ → State → List ℕ → Result Element ElementFault
by_marks k total st rest =
    if length rest == 0 then finished st total
    else (mark_at (total - length rest) (drop 1 rest) >=> then_step k total (total - length rest) st)

abbrev stray : ℕ → List ℕ → Result Element ElementFault
stray at text = Err (StrayText (at + prefix_len is_white text))

drop_len : (n : ℕ) (bytes : List ℕ) → length (drop n bytes) ≤ length bytes
drop_len n bytes = omega (arith, length-drop n bytes)

step_fuel : (k j total : ℕ) (m : Mark × List ℕ) → ((next : State) → read_from k total next m.1 ≡ read_from j total next m.1) →
    (o : Result State ElementFault) → (o >=> λ next. read_from k total next m.1) ≡ (o >=> λ next. read_from j total next m.1)
step_fuel k j total m ih (Err fault) = refl
step_fuel k j total m ih (Ok next) = ih next

mark_fuel : (k j total place : ℕ) (st : State) (bytes inner : List ℕ) → ((x : List ℕ) (next : State) → length x < k → length x < j → read_from k total next x ≡ read_from j total next x) →
    length bytes < suc k → length bytes < suc j → length inner ≤ length bytes → (o : Option (Mark × List ℕ)) → mark_of inner ≡ o →
    ((elim o [ Some m ↦ Ok m | None ↦ Err (BadMark place) ]) >=> then_step k total place st) ≡ ((elim o [ Some m ↦ Ok m | None ↦ Err (BadMark place) ]) >=> then_step j total place st)
mark_fuel k j total place st bytes inner ih hk hj within None e = refl
mark_fuel k j total place st bytes inner ih hk hj within (Some m) e =
    let shorter : length m.1 < length inner = mark_shrinks inner m e in
    step_fuel k j total m (λ next. ih m.1 next (omega arith) (omega arith)) (step st place m.0)

-- read_from needs no more steps than there are bytes
read_fuel : (k j total : ℕ) (st : State) (bytes : List ℕ) → length bytes < k → length bytes < j → read_from k total st bytes ≡ read_from j total st bytes
read_fuel zero j total st bytes hk hj = absurd (omega arith)
read_fuel (suc k) zero total st bytes hk hj = absurd (omega arith)
read_fuel (suc k) (suc j) total st bytes hk hj =
    let rest = drop (text_len bytes) bytes in
    let text = take (text_len bytes) bytes in
    let within : length (drop 1 rest) ≤ length bytes = omega (arith, drop_len 1 rest, drop_len (text_len bytes) bytes) in
    ap (λ (z : Result Element ElementFault). if may_stand st text then (if length rest == 0 then finished st total else z) else stray (total - length bytes) text)
    (mark_fuel k j total (total - length rest) st bytes (drop 1 rest) (λ x next. read_fuel k j total next x) hk hj within (mark_of (drop 1 rest)) refl)

not_empty : (c : ℕ) (cs : List ℕ) → (length (c ∷ cs) == 0) ≡ false
not_empty c cs = grind (arith, nat_tests)

-- a text that may not stand there is read
pub read_stray : (total : ℕ) (st : State) (bytes : List ℕ) → may_stand st (take (text_len bytes) bytes) ≡ false →
    read_rest total st bytes ≡ Err (StrayText (total - length bytes + prefix_len is_white (take (text_len bytes) bytes)))
read_stray total st bytes stands =
    ap (λ (b : Bool). if b then by_marks (length bytes) total st (drop (text_len bytes) bytes) else stray (total - length bytes) (take (text_len bytes) bytes)) stands

-- a text that may stand there is ignored
read_text : (total : ℕ) (st : State) (bytes rest : List ℕ) → may_stand st (take (text_len bytes) bytes) ≡ true → drop (text_len bytes) bytes ≡ rest →
    read_rest total st bytes ≡ by_marks (length bytes) total st rest
read_text total st bytes rest stands is =
    ap (λ (b : Bool). if b then by_marks (length bytes) total st (drop (text_len bytes) bytes) else stray (total - length bytes) (take (text_len bytes) bytes)) stands
    ∙ ap (by_marks (length bytes) total st) is

-- the last text is read
pub read_last : (total : ℕ) (st : State) (bytes : List ℕ) → may_stand st (take (text_len bytes) bytes) ≡ true → drop (text_len bytes) bytes ≡ [] →
    read_rest total st bytes ≡ finished st total
read_last total st bytes stands is = read_text total st bytes [] stands is

-- a mark is read, or the fault of what stands there
pub read_at_mark : (total : ℕ) (st : State) (bytes : List ℕ) (c : ℕ) (inner : List ℕ) → may_stand st (take (text_len bytes) bytes) ≡ true → drop (text_len bytes) bytes ≡ c ∷ inner →
    read_rest total st bytes ≡ (mark_at (total - length (c ∷ inner)) inner >=> then_step (length bytes) total (total - length (c ∷ inner)) st)
read_at_mark total st bytes c inner stands is =
    let place = total - length (c ∷ inner) in
    read_text total st bytes (c ∷ inner) stands is
    ∙ ap (λ (b : Bool). if b then finished st total else (mark_at place inner >=> then_step (length bytes) total place st)) (not_empty c inner)

-- a mark is read
read_inner : (total : ℕ) (st : State) (bytes : List ℕ) (c : ℕ) (inner : List ℕ) (o : Option (Mark × List ℕ)) → may_stand st (take (text_len bytes) bytes) ≡ true →
    drop (text_len bytes) bytes ≡ c ∷ inner → mark_of inner ≡ o →
    read_rest total st bytes ≡ ((elim o [ Some m ↦ Ok m | None ↦ Err (BadMark (total - length (c ∷ inner))) ]) >=> then_step (length bytes) total (total - length (c ∷ inner)) st)
read_inner total st bytes c inner o stands is mark =
    let place = total - length (c ∷ inner) in
    read_at_mark total st bytes c inner stands is
    ∙ ap (λ (x : Option (Mark × List ℕ)). (elim x [ Some m ↦ Ok m | None ↦ Err (BadMark place) ]) >=> then_step (length bytes) total place st) mark

-- a `<` that begins no mark is read
pub read_unmarked : (total : ℕ) (st : State) (bytes : List ℕ) (c : ℕ) (inner : List ℕ) → may_stand st (take (text_len bytes) bytes) ≡ true →
    drop (text_len bytes) bytes ≡ c ∷ inner → mark_of inner ≡ None → read_rest total st bytes ≡ Err (BadMark (total - length (c ∷ inner)))
read_unmarked total st bytes c inner stands is mark = read_inner total st bytes c inner None stands is mark

-- a mark is read, and what follows it
pub read_marked : (total : ℕ) (st : State) (bytes : List ℕ) (c : ℕ) (inner : List ℕ) (m : Mark) (more : List ℕ) → may_stand st (take (text_len bytes) bytes) ≡ true →
    drop (text_len bytes) bytes ≡ c ∷ inner → mark_of inner ≡ Some (m, more) →
    read_rest total st bytes ≡ (step st (total - length (c ∷ inner)) m >=> λ next. read_rest total next more)
read_marked total st bytes c inner m more stands is mark =
    let shorter : length more < length inner = mark_shrinks inner (m, more) mark in
    let few : length more < length bytes = omega (arith, shorter, ap length is, drop_len (text_len bytes) bytes) in
    read_inner total st bytes c inner (Some (m, more)) stands is mark
    ∙ step_fuel (length bytes) (suc (length more)) total (m, more) (λ next. read_fuel (length bytes) (suc (length more)) total next more few (omega arith)) (step st (total - length (c ∷ inner)) m)

pub mark_cons : (m : written.Mark) (more : List ℕ) → mark_written m ++ more ≡ 60 ∷ drop 1 (mark_written m ++ more)
mark_cons (Start o) more = refl
mark_cons (Empty o) more = refl
mark_cons (End name gap) more = refl
mark_cons (Instruction body) more = refl
mark_cons (Comment body) more = refl

pub mark_no_text : (m : written.Mark) (more : List ℕ) → begins is_text_byte (mark_written m ++ more) ≡ false
mark_no_text m more = ap (begins is_text_byte) (mark_cons m more)

-- the text before something that begins with no text
pub text_before : (text rest : List ℕ) → list_all is_text_byte text ≡ true → begins is_text_byte rest ≡ false → take (text_len (text ++ rest)) (text ++ rest) ≡ text
text_before text rest is edge = taken_seam is_text_byte text rest is edge

pub after_text : (text rest : List ℕ) → list_all is_text_byte text ≡ true → begins is_text_byte rest ≡ false → drop (text_len (text ++ rest)) (text ++ rest) ≡ rest
after_text text rest is edge = left_seam is_text_byte text rest is edge

-- a piece that is written is read
piece_if : (total at : ℕ) (st : State) (p : Piece) (more : List ℕ) → IsPiece p → at + length (p.text ++ (mark_written p.mark ++ more)) ≡ total → (b : Bool) → may_stand st p.text ≡ b →
    read_rest total st (p.text ++ (mark_written p.mark ++ more))
    ≡ ((if b then step st (at + length p.text) (said p.mark) else Err (StrayText (at + prefix_len is_white p.text))) >=> λ next. read_rest total next more)
piece_if total at st p more is place true stands =
    let rest = mark_written p.mark ++ more in
    let inner = drop 1 rest in
    let edge = mark_no_text p.mark more in
    let text = text_before p.text rest is.text edge in
    let here : total - length (60 ∷ inner) ≡ at + length p.text = omega (arith, place, length-append p.text rest, ap length (mark_cons p.mark more)) in
    read_marked total st (p.text ++ rest) 60 inner (said p.mark) more (ap (may_stand st) text ∙ stands)
    (after_text p.text rest is.text edge ∙ mark_cons p.mark more) (mark_again p.mark more is.mark)
    ∙ ap (λ (n : ℕ). step st n (said p.mark) >=> λ next. read_rest total next more) here
piece_if total at st p more is place false stands =
    let rest = mark_written p.mark ++ more in
    let text = text_before p.text rest is.text (mark_no_text p.mark more) in
    let here : total - length (p.text ++ rest) ≡ at = omega (arith, place) in
    read_stray total st (p.text ++ rest) (ap (may_stand st) text ∙ stands)
    ∙ ap (λ (n : ℕ). stray n (take (text_len (p.text ++ rest)) (p.text ++ rest))) here ∙ ap (stray at) text

after_piece : (total end : ℕ) (ps : List Piece) (tail : List ℕ) → ((next : State) → read_rest total next (pieces_written ps ++ tail) ≡ (run end next ps >=> λ x. read_rest total x tail)) →
    (o : Result State ElementFault) → (o >=> λ next. read_rest total next (pieces_written ps ++ tail)) ≡ ((o >=> λ next. run end next ps) >=> λ x. read_rest total x tail)
after_piece total end ps tail ih (Err fault) = refl
after_piece total end ps tail ih (Ok next) = ih next

-- pieces that are written are read, and what follows them
pub pieces_again : (total at : ℕ) (st : State) (ps : List Piece) (tail : List ℕ) → AllByRecursion IsPiece ps → at + length (pieces_written ps ++ tail) ≡ total →
    read_rest total st (pieces_written ps ++ tail) ≡ (run at st ps >=> λ next. read_rest total next tail)
pieces_again total at st [] tail all place = refl
pieces_again total at st (p ∷ ps) tail all place =
    let more = pieces_written ps ++ tail in
    let joins : pieces_written (p ∷ ps) ++ tail ≡ p.text ++ (mark_written p.mark ++ more) =
    append_assoc (piece_written p) (pieces_written ps) tail ∙ append_assoc p.text (mark_written p.mark) more in
    let whole : at + length (p.text ++ (mark_written p.mark ++ more)) ≡ total = ap (λ (z : List ℕ). at + length z) (sym joins) ∙ place in
    let there : at + length (piece_written p) + length more ≡ total =
    omega (arith, whole, length-append p.text (mark_written p.mark ++ more), length-append (mark_written p.mark) more, length-append p.text (mark_written p.mark)) in
    ap (read_rest total st) joins
    ∙ piece_if total at st p more all.0 whole (may_stand st p.text) refl
    ∙ after_piece total (at + length (piece_written p)) ps tail (λ next. pieces_again total (at + length (piece_written p)) next ps tail all.1 there) (piece_step at st p)

-- how reading ends: at a text that may not stand there, at the end, at a `<` that begins no mark, or at a mark with a fault
pub data Ends (at total : ℕ) (st : State) (text rest : List ℕ) (r : Result Element ElementFault) : Type 0 where
  Stray : may_stand st text ≡ false → r ≡ Err (StrayText (at + prefix_len is_white text)) → Ends at total st text rest r
  Last : may_stand st text ≡ true → rest ≡ [] → r ≡ finished st total → Ends at total st text rest r
  Bad : (inner : List ℕ) → may_stand st text ≡ true → rest ≡ 60 ∷ inner → mark_of inner ≡ None → r ≡ Err (BadMark (at + length text)) → Ends at total st text rest r
  Faulty : (m : written.Mark) (more : List ℕ) (fault : ElementFault) → may_stand st text ≡ true → written.IsMark m → rest ≡ mark_written m ++ more →
      step st (at + length text) (said m) ≡ Err fault → r ≡ Err fault → Ends at total st text rest r

-- what stood there where reading gave this
pub record Found (at total : ℕ) (st : State) (bytes : List ℕ) (r : Result Element ElementFault) : Type 0 where
  pub pieces : List Piece
  pub text : List ℕ
  pub rest : List ℕ
  pub last : State
  pub valid : AllByRecursion IsPiece pieces
  pub no_mark : list_all is_text_byte text ≡ true
  pub edge : begins is_text_byte rest ≡ false
  pub is : bytes ≡ pieces_written pieces ++ (text ++ rest)
  pub runs : run at st pieces ≡ Ok last
  pub ends : Ends (at + length (pieces_written pieces)) total last text rest r

pub angle : (c : ℕ) → is_text_byte c ≡ false → c ≡ 60
angle c h = grind (arith, nat_tests)

-- reading that ends before a further mark
at_once : (at total : ℕ) (st : State) (text rest : List ℕ) (r : Result Element ElementFault) → list_all is_text_byte text ≡ true → begins is_text_byte rest ≡ false → Ends at total st text rest r → Found at total st (text ++ rest) r
at_once at total st text rest r is edge ends =
    let here : at ≡ at + 0 = omega arith in
    record { pieces = []; text = text; rest = rest; last = st; valid = tt; no_mark = is; edge = edge; is = refl; runs = refl; ends = subst (λ (n : ℕ). Ends n total st text rest r) here ends }

-- reading that goes on after a piece
following_piece : (at total : ℕ) (st next : State) (p : Piece) (more : List ℕ) (r : Result Element ElementFault) → IsPiece p → may_stand st p.text ≡ true →
    step st (at + length p.text) (said p.mark) ≡ Ok next → Found (at + length (piece_written p)) total next more r → Found at total st (piece_written p ++ more) r
following_piece at total st next p more r is stands taken_is found =
    let there : at + length (piece_written p) + length (pieces_written found.pieces) ≡ at + length (pieces_written (p ∷ found.pieces)) =
    omega (arith, length-append (piece_written p) (pieces_written found.pieces)) in
    record {
      pieces = p ∷ found.pieces;
      text = found.text;
      rest = found.rest;
      last = found.last;
      valid = (is, found.valid);
      no_mark = found.no_mark;
      edge = found.edge;
      is = ap (λ (z : List ℕ). piece_written p ++ z) found.is ∙ sym (append_assoc (piece_written p) (pieces_written found.pieces) (found.text ++ found.rest));
      runs = run_one at st p found.pieces (said p.mark) next stands refl taken_is ∙ found.runs;
      ends = subst (λ (n : ℕ). Ends n total found.last found.text found.rest r) there found.ends;
    }

-- what was read at a mark
mark_read : (k at total : ℕ) (st : State) (text : List ℕ) (m : written.Mark) (more : List ℕ) (r : Result Element ElementFault) → list_all is_text_byte text ≡ true → may_stand st text ≡ true → written.IsMark m →
    ((next : State) → read_from k total next more ≡ r → Found (at + length (text ++ mark_written m)) total next more r) →
    (o : Result State ElementFault) → step st (at + length text) (said m) ≡ o → (o >=> λ next. read_from k total next more) ≡ r → Found at total st (text ++ (mark_written m ++ more)) r
mark_read k at total st text m more r is stands form ih (Err fault) e h =
    at_once at total st text (mark_written m ++ more) r is (mark_no_text m more) (Faulty m more fault stands form refl e (sym h))
mark_read k at total st text m more r is stands form ih (Ok next) e h =
    let p : Piece = record { text = text; mark = m } in
    let is_piece : IsPiece p = record { text = is; mark = form } in
    subst (λ (z : List ℕ). Found at total st z r) (append_assoc text (mark_written m) more)
    (following_piece at total st next p more r is_piece stands e (ih next h))

-- what was read after a `<`
inner_read : (k at total : ℕ) (st : State) (text inner : List ℕ) (r : Result Element ElementFault) → list_all is_text_byte text ≡ true → may_stand st text ≡ true → at + length (text ++ (60 ∷ inner)) ≡ total →
    ((end : ℕ) (next : State) (x : List ℕ) → end + length x ≡ total → length x < length (60 ∷ inner) → read_from k total next x ≡ r → Found end total next x r) →
    (o : Option (Mark × List ℕ)) → mark_of inner ≡ o →
    ((elim o [ Some m ↦ Ok m | None ↦ Err (BadMark (total - length (60 ∷ inner))) ]) >=> then_step k total (total - length (60 ∷ inner)) st) ≡ r → Found at total st (text ++ (60 ∷ inner)) r
inner_read k at total st text inner r is stands place ih None e h =
    let here : total - length (60 ∷ inner) ≡ at + length text = omega (arith, place, length-append text (60 ∷ inner)) in
    at_once at total st text (60 ∷ inner) r is refl (Bad inner stands refl e (sym h ∙ ap (λ (n : ℕ). Err (BadMark n)) here))
inner_read k at total st text inner r is stands place ih (Some m) e h =
    let here : total - length (60 ∷ inner) ≡ at + length text = omega (arith, place, length-append text (60 ∷ inner)) in
    let found = mark_found inner m e in
    let w = found.0 in
    let shorter : length m.1 < length inner = mark_shrinks inner m e in
    let end_place : at + length (text ++ mark_written w) + length m.1 ≡ total =
    omega (arith, place, length-append text (60 ∷ inner), ap length found.3, length-append (mark_written w) m.1, length-append text (mark_written w)) in
    let step_is : (step st (at + length text) (said w) >=> λ next. read_from k total next m.1) ≡ r =
    ap (λ (x : Mark). step st (at + length text) x >=> λ next. read_from k total next m.1) found.2
    ∙ ap (λ (n : ℕ). step st n m.0 >=> λ next. read_from k total next m.1) (sym here) ∙ h in
    subst (λ (z : List ℕ). Found at total st (text ++ z) r) (sym found.3)
    (mark_read k at total st text w m.1 r is stands found.1
    (λ next g. ih (at + length (text ++ mark_written w)) next m.1 end_place (omega arith) g)
    (step st (at + length text) (said w)) refl step_is)

-- what was read after a text
rest_read : (k at total : ℕ) (st : State) (text rest : List ℕ) (r : Result Element ElementFault) → list_all is_text_byte text ≡ true → may_stand st text ≡ true → begins is_text_byte rest ≡ false → at + length (text ++ rest) ≡ total →
    ((end : ℕ) (next : State) (x : List ℕ) → end + length x ≡ total → length x < length rest → read_from k total next x ≡ r → Found end total next x r) →
    by_marks k total st rest ≡ r → Found at total st (text ++ rest) r
rest_read k at total st text [] r is stands edge place ih h = at_once at total st text [] r is refl (Last stands refl (sym h))
rest_read k at total st text (c ∷ inner) r is stands edge place ih h =
    subst (λ (z : ℕ). (at + length (text ++ (z ∷ inner)) ≡ total) → (by_marks k total st (z ∷ inner) ≡ r) → Found at total st (text ++ (z ∷ inner)) r) (sym (angle c edge))
    (λ here g.
    let opened : (mark_at (total - length (60 ∷ inner)) inner >=> then_step k total (total - length (60 ∷ inner)) st) ≡ r =
    sym (ap (λ (b : Bool). if b then finished st total else (mark_at (total - length (60 ∷ inner)) inner >=> then_step k total (total - length (60 ∷ inner)) st)) (not_empty 60 inner)) ∙ g in
    inner_read k at total st text inner r is stands here (λ end next x e few i. ih end next x e few i) (mark_of inner) refl opened)
    place h

-- what was read of a text and what follows it
text_read : (k at total : ℕ) (st : State) (text rest : List ℕ) (r : Result Element ElementFault) → list_all is_text_byte text ≡ true → begins is_text_byte rest ≡ false → at + length (text ++ rest) ≡ total →
    ((end : ℕ) (next : State) (x : List ℕ) → end + length x ≡ total → length x < length rest → read_from k total next x ≡ r → Found end total next x r) →
    (b : Bool) → may_stand st text ≡ b → (if b then by_marks k total st rest else stray (total - length (text ++ rest)) text) ≡ r → Found at total st (text ++ rest) r
text_read k at total st text rest r is edge place ih true stands h = rest_read k at total st text rest r is stands edge place ih h
text_read k at total st text rest r is edge place ih false stands h =
    let here : total - length (text ++ rest) ≡ at = omega (arith, place) in
    at_once at total st text rest r is edge (Stray stands (sym h ∙ ap (λ (n : ℕ). stray n text) here))

-- what was read stood there
pub pieces_found : (k at total : ℕ) (st : State) (bytes : List ℕ) (r : Result Element ElementFault) → at + length bytes ≡ total → length bytes < k → read_from k total st bytes ≡ r → Found at total st bytes r
pieces_found zero at total st bytes r place few h = absurd (omega arith)
pieces_found (suc k) at total st bytes r place few h =
    let n = text_len bytes in
    let joins : take n bytes ++ drop n bytes ≡ bytes = take-append-drop n bytes in
    let lengths : length (drop n bytes) ≤ length bytes = drop_len n bytes in
    subst (λ (z : List ℕ). Found at total st z r) joins
    (text_read k at total st (take n bytes) (drop n bytes) r (taken is_text_byte bytes) (left is_text_byte bytes) (ap (λ (z : List ℕ). at + length z) joins ∙ place)
    (λ end next x e shorter g. pieces_found k end total next x r e (omega arith) g)
    (may_stand st (take n bytes)) refl (ap (λ (z : List ℕ). if may_stand st (take n bytes) then by_marks k total st (drop n bytes) else stray (total - length z) (take n bytes)) joins ∙ h))

mark_at_if : (place : ℕ) (o : Option (Mark × List ℕ)) (m : Mark × List ℕ) → ◌≡◌ {A = Result (Mark × List ℕ) ElementFault} (elim o [ Some x ↦ Ok x | None ↦ Err (BadMark place) ]) (Ok m) → o ≡ Some m
mark_at_if place None m h = absurd (cc)
mark_at_if place (Some x) m h = ap (λ (z : Mark × List ℕ). Some z) (ok_inj x m h)

-- reading goes on after a mark that was taken
pub read_on : (total : ℕ) (st next : State) (bytes : List ℕ) (c : ℕ) (inner : List ℕ) (m : Mark) (more : List ℕ) → may_stand st (take (text_len bytes) bytes) ≡ true →
    drop (text_len bytes) bytes ≡ c ∷ inner → mark_at (total - length (c ∷ inner)) inner ≡ Ok (m, more) → step st (total - length (c ∷ inner)) m ≡ Ok next → read_rest total next more ≡ read_rest total st bytes
read_on total st next bytes c inner m more stands is mark taken_is =
    sym (read_marked total st bytes c inner m more stands is (mark_at_if (total - length (c ∷ inner)) (mark_of inner) (m, more) mark)
    ∙ ap (λ (r : Result State ElementFault). r >=> λ x. read_rest total x more) taken_is)

-- reading ends at a mark that is no mark, or that has a fault
pub mark_stops : {X : Type 0} (view : X → Mark × List ℕ) (s : Stop ElementFault) (total : ℕ) (st : State) (bytes : List ℕ) (c : ℕ) (inner : List ℕ) → may_stand st (take (text_len bytes) bytes) ≡ true → drop (text_len bytes) bytes ≡ c ∷ inner →
    GivesAs view (Err s) (mark_at (total - length (c ∷ inner)) inner) → Gives (Err s) (read_rest total st bytes)
mark_stops view stop.NoMemory total st bytes c inner stands is h = tt
mark_stops view (stop.Fault fault) total st bytes c inner stands is h =
    read_at_mark total st bytes c inner stands is ∙ ap (λ (r : Result (Mark × List ℕ) ElementFault). r >=> then_step (length bytes) total (total - length (c ∷ inner)) st) h

pub step_stops : {X : Type 0} (view : X → State) (s : Stop ElementFault) (total : ℕ) (st : State) (bytes : List ℕ) (c : ℕ) (inner : List ℕ) (m : Mark) (more : List ℕ) → may_stand st (take (text_len bytes) bytes) ≡ true →
    drop (text_len bytes) bytes ≡ c ∷ inner → mark_at (total - length (c ∷ inner)) inner ≡ Ok (m, more) → GivesAs view (Err s) (step st (total - length (c ∷ inner)) m) → Gives (Err s) (read_rest total st bytes)
step_stops view stop.NoMemory total st bytes c inner m more stands is mark h = tt
step_stops view (stop.Fault fault) total st bytes c inner m more stands is mark h =
    read_marked total st bytes c inner m more stands is (mark_at_if (total - length (c ∷ inner)) (mark_of inner) (m, more) mark)
    ∙ ap (λ (r : Result State ElementFault). r >=> λ x. read_rest total x more) h

-- what follows the `<` of a mark
pub cut_mark : (bytes marks : List ℕ) (c : ℕ) (inner : List ℕ) → marks ≡ drop (text_len bytes) bytes → marks ≡ c ∷ inner → IsUtf8 marks → IsUtf8 inner
cut_mark bytes marks c inner is cons u =
    let e : c ≡ 60 = angle c (sym (ap (begins is_text_byte) cons) ∙ ap (begins is_text_byte) is ∙ left is_text_byte bytes) in
    cut_following c marks inner cons (omega arith) u
