-- A file is read exactly as the element that it spells, and refused exactly with its fault.
use Rattle.std.proofs.Common.{◌≡◌, ℕ, suc, ◌+◌, ◌-◌, ◌⊎◌, Bool, true, false, ◌&&◌, ◌||◌, List, [], ◌∷◌, ◌++◌, length, take, drop, Option, Some, None, Result, Ok, Err, refl, ap, sym, ◌∙◌, subst, append-nil, arith, inl, inr, if◌then◌else◌}
use Rattle.std.specs.Prelude.{is_none}
use Rattle.std.proofs.lemmas.List.{length-append, length-drop}
use Rattle.std.proofs.lemmas.Bool.Decides.{nat_tests}
use Rattle.std.proofs.lemmas.Str.{IsUtf8-from_is_utf8, is_utf8-from_IsUtf8}
use Rattle.std.specs.Cmp.Derive.{both_true}
use Rattle.std.specs.List.{prefix_len, list_all, AllByRecursion}
use Rattle.std.specs.Str.{IsUtf8, is_utf8}
use Rattle.std.specs.Str.Lossy.{utf8_valid_len}
use Rattle.spec_script.specs.Identifiers.{is_white}
use Rattle.spec_script.proofs.Bools.{both}
use Rattle.base_texts.specs.declared.stop.Stop.{Stop}
use Rattle.base_texts.specs.declared.stop.Stop.TheVariants as stop
use Rattle.base_texts.specs.Stops.{Gives}
use Rattle.spec_tree_file.specs.declared.element.Element.{Element}
use Rattle.spec_tree_file.specs.declared.element.Elements.{Elements}
use Rattle.spec_tree_file.specs.declared.element.ElementFault.{ElementFault}
use Rattle.spec_tree_file.specs.declared.element.ElementFault.TheVariants.{NotUtf8, BadMark, Unmatched, StrayText}
use Rattle.tree_elements.specs.declared.mark.Mark.{Mark as ReadMark}
use Rattle.tree_elements.specs.declared.mark.Mark.TheVariants as read_as
use Rattle.tree_elements.specs.declared.nest.Open.{Open}
use Rattle.spec_tree_file.specs.References.{begins_with}
use Rattle.spec_tree_file.specs.Marks.{Mark, Start, Empty, End, Instruction, Comment, mark_written, IsMark}
use Rattle.spec_tree_file.specs.Elements.{Tag, tags_of, Piece, piece_written, pieces_written, is_text_byte, IsPiece, tags_of_mark, HaveTags, order_mark_len, Spells}
use Rattle.spec_tree_file.specs.ElementFaults.{Standing, may_hold, mark_fault, last_fault, Next, Marked, Unmarked, Over, IsNext, fault_after, next_fault, FirstFault, ElementFaultOf}
use Rattle.tree_elements.specs.WhenFault.{WhenFault}
use Rattle.tree_elements.specs.Reading.{◌>=>◌, begins, mark_of, State, start, may_stand, step, ended_by, text_len, read_rest, read}
use Rattle.tree_elements.proofs.Asides.{begins_is}
use Rattle.tree_elements.proofs.Prefixes.{some_inj}
use Rattle.tree_elements.proofs.Marks.{said, mark_again}
use Rattle.tree_elements.proofs.Found.{mark_found}
use Rattle.tree_elements.proofs.Nesting.{run, run_aside, run_good, element_runs, IsState}
use Rattle.tree_elements.proofs.Files.{angle, mark_cons, mark_no_text, text_before, after_text, read_stray, read_last, read_unmarked, read_marked, pieces_again, Ends, Stray, Last, Bad, Faulty, Found, pieces_found}
use Rattle.tree_elements.proofs.Standings.{standing, holds_same, Agrees, mark_agrees, run_faultless, faultless_run}

-- the byte order mark and the rest are the file
mark_fits_if : (bytes : List ℕ) (b : Bool) → begins_with (0xEF ∷ 0xBB ∷ 0xBF ∷ []) bytes ≡ b → (if b then 3 else 0) + length (drop (if b then 3 else 0) bytes) ≡ length bytes
mark_fits_if bytes true e = sym (ap length (begins_is (0xEF ∷ 0xBB ∷ 0xBF ∷ []) bytes e) ∙ length-append (0xEF ∷ 0xBB ∷ 0xBF ∷ []) (drop 3 bytes))
mark_fits_if bytes false e = omega (arith, length-drop 0 bytes)

pub mark_fits : (bytes : List ℕ) → order_mark_len bytes + length (drop (order_mark_len bytes) bytes) ≡ length bytes
mark_fits bytes = mark_fits_if bytes (begins_with (0xEF ∷ 0xBB ∷ 0xBF ∷ []) bytes) refl

abbrev rest_of : List ℕ → List ℕ
rest_of bytes = drop (order_mark_len bytes) bytes

-- pieces at the front of a file are read
read_pieces : (bytes : List ℕ) (ps : List Piece) (tail : List ℕ) (last : State) → AllByRecursion IsPiece ps → rest_of bytes ≡ pieces_written ps ++ tail → run (order_mark_len bytes) start ps ≡ Ok last →
    read bytes ≡ read_rest (length bytes) last tail
read_pieces bytes ps tail last all is runs =
    ap (read_rest (length bytes) start) is
    ∙ pieces_again (length bytes) (order_mark_len bytes) start ps tail all (ap (λ (z : List ℕ). order_mark_len bytes + length z) (sym is) ∙ mark_fits bytes)
    ∙ ap (λ (r : Result State ElementFault). r >=> λ x. read_rest (length bytes) x tail) runs

-- the place after them
tail_place : (bytes : List ℕ) (ps : List Piece) (tail : List ℕ) → rest_of bytes ≡ pieces_written ps ++ tail → order_mark_len bytes + length (pieces_written ps) + length tail ≡ length bytes
tail_place bytes ps tail is = omega (arith, mark_fits bytes, ap length is, length-append (pieces_written ps) tail)

-- a mark with no tags is ignored
no_tags : (place : ℕ) (m : Mark) (more : List Tag) → [] ≡ tags_of_mark false place m ++ more → (said m ≡ read_as.Aside) × (more ≡ [])
no_tags place (Start o) more h = absurd (cc)
no_tags place (Empty o) more h = absurd (cc)
no_tags place (End name gap) more h = absurd (cc)
no_tags place (Instruction body) more h = (refl, sym h)
no_tags place (Comment body) more h = (refl, sym h)

abbrev ended : Element → State
ended e = record { stack = []; done = Some e }

-- what follows the document element is ignored
all_run : (at : ℕ) (e : Element) (ps : List Piece) → HaveTags at ps [] → run at (ended e) ps ≡ Ok (ended e)
all_run at e [] h = refl
all_run at e (p ∷ ps) h =
    let none = no_tags (at + length p.text) p.mark h.0 h.3 in
    run_aside at (ended e) p ps h.1 none.0 ∙ all_run (at + length (piece_written p)) e ps (subst (HaveTags (at + length (piece_written p)) ps) none.1 h.4)

white_is_text : (c : ℕ) → is_white c ≡ true → is_text_byte c ≡ true
white_is_text c h = grind (arith, nat_tests)

all_white_text : (bs : List ℕ) → list_all is_white bs ≡ true → list_all is_text_byte bs ≡ true
all_white_text [] h = refl
all_white_text (c ∷ cs) h =
    let t = both (is_white c) (list_all is_white cs) h in
    both_true (white_is_text c t.0) (all_white_text cs t.1)

-- a text alone
alone : (text : List ℕ) → list_all is_text_byte text ≡ true → (take (text_len text) text ≡ text) × (drop (text_len text) text ≡ [])
alone text is =
    let e = append-nil text in (
      ap (λ (z : List ℕ). take (text_len z) z) (sym e) ∙ text_before text [] is refl,
      ap (λ (z : List ℕ). drop (text_len z) z) (sym e) ∙ after_text text [] is refl,
    )

-- what is spelled is read
pub spells_read : (bytes : List ℕ) (e : Element) → Spells bytes e → read bytes ≡ Ok e
spells_read bytes e s =
    let at = order_mark_len bytes in
    let r = element_runs e at s.pieces [] [] (subst (HaveTags at s.pieces) (sym (append-nil (tags_of e false))) s.nested) (let d = s.depth in omega arith) in
    let text = alone s.last (all_white_text s.last s.blank) in
    read_pieces bytes s.pieces s.last (ended e) s.valid s.written (r.3 ∙ all_run r.0 e r.1 r.2)
    ∙ read_last (length bytes) (ended e) s.last (ap (list_all is_white) text.0 ∙ s.blank) text.1

white_there : (done : Option Element) (inside white : Bool) (e : Element) → done ≡ Some e → (is_none done && inside || white) ≡ true → white ≡ true
white_there None inside white e h t = absurd (cc)
white_there (Some d) inside white e h t = t

finished_done : (st : State) (total : ℕ) (e : Element) (done : Option Element) → st.done ≡ done → ◌≡◌ {A = Result Element ElementFault} (Ok e) (ended_by done total) → st.done ≡ Some e
finished_done st total e None is h = absurd (cc)
finished_done st total e (Some x) is h = is ∙ (let k : e ≡ x = cc in ap (λ (z : Element). Some z) (sym k))

ok_not_err : {A E : Type 0} (x : A) (f : E) → Ok x ≡ Err f → ⊥
ok_not_err x f h = cc

-- an element was read where reading ended well
element_ended : (at total : ℕ) (st : State) (text rest : List ℕ) (e : Element) → Ends at total st text rest (Ok e) → (st.done ≡ Some e) × (list_all is_white text ≡ true) × (rest ≡ [])
element_ended at total st text rest e (Stray stands is) = absurd (ok_not_err e (StrayText (at + prefix_len is_white text)) is)
element_ended at total st text rest e (Last stands none is) =
    let done = finished_done st total e st.done refl is in
    (done, white_there st.done _ (list_all is_white text) e done stands, none)
element_ended at total st text rest e (Bad inner stands open_ none is) = absurd (ok_not_err e (BadMark (at + length text)) is)
element_ended at total st text rest e (Faulty m more fault stands form open_ wrong is) = absurd (ok_not_err e fault is)

-- what is read of a file
read_found : (bytes : List ℕ) (r : Result Element ElementFault) → read bytes ≡ r → Found (order_mark_len bytes) (length bytes) start (rest_of bytes) r
read_found bytes r h = pieces_found (suc (length (rest_of bytes))) (order_mark_len bytes) (length bytes) start (rest_of bytes) r (mark_fits bytes) (omega arith) h

-- what is read is spelled
pub read_spells : (bytes : List ℕ) (e : Element) → IsUtf8 bytes → read bytes ≡ Ok e → Spells bytes e
read_spells bytes e utf8 h =
    let found = read_found bytes (Ok e) h in
    let end = element_ended (order_mark_len bytes + length (pieces_written found.pieces)) (length bytes) found.last found.text found.rest e found.ends in
    let nest = run_good (order_mark_len bytes) [] None found.pieces found.last e tt found.runs end.0 in
    record {
      pieces = found.pieces;
      last = found.text;
      utf8 = utf8;
      valid = found.valid;
      blank = end.1;
      written = found.is ∙ ap (λ (z : List ℕ). pieces_written found.pieces ++ z) (ap (λ (z : List ℕ). found.text ++ z) end.2 ∙ append-nil found.text);
      nested = subst (HaveTags (order_mark_len bytes) found.pieces) nest.spell nest.have;
      depth = nest.deep;
    }

none_not_some : {A : Type 0} (x : A) → ◌≡◌ {A = Option A} None (Some x) → ⊥
none_not_some x h = cc

tail_same : (c d : ℕ) (xs ys : List ℕ) → c ∷ xs ≡ d ∷ ys → xs ≡ ys
tail_same c d xs ys h = cc

no_mark_there : (inner : List ℕ) → mark_of inner ≡ None → (m : Mark) (more : List ℕ) → IsMark m → 60 ∷ inner ≡ mark_written m ++ more → ⊥
no_mark_there inner none m more form is =
    let inner_is : inner ≡ drop 1 (mark_written m ++ more) = tail_same 60 60 inner (drop 1 (mark_written m ++ more)) (is ∙ mark_cons m more) in
    none_not_some (said m, more) (sym none ∙ ap mark_of inner_is ∙ mark_again m more form)

some_next_if : (inner : List ℕ) (o : Option (ReadMark × List ℕ)) → mark_of inner ≡ o → (next : Next) × IsNext (60 ∷ inner) next
some_next_if inner None e = (Unmarked, ((inner, refl), no_mark_there inner e))
some_next_if inner (Some m) e =
    let found = mark_found inner m e in
    (Marked found.0, (found.1, (m.1, found.3)))

-- something follows each text
some_next : (rest : List ℕ) → begins is_text_byte rest ≡ false → (next : Next) × IsNext rest next
some_next [] h = (Over, refl)
some_next (c ∷ inner) h = subst (λ (z : ℕ). (next : Next) × IsNext (z ∷ inner) next) (sym (angle c h)) (some_next_if inner (mark_of inner) refl)

err_inj : {A E : Type 0} (x y : E) → ◌≡◌ {A = Result A E} (Err x) (Err y) → x ≡ y
err_inj x y h = cc

-- the fault of a file's end
finished_fault : (st : State) (total : ℕ) (fault : ElementFault) (done : Option Element) → st.done ≡ done → ◌≡◌ {A = Result Element ElementFault} (Err fault) (ended_by done total) →
    (st.done ≡ None) × (fault ≡ Unmatched total)
finished_fault st total fault None is h = (is, err_inj {A = Element} fault (Unmatched total) h)
finished_fault st total fault (Some x) is h = absurd (cc)

-- what has the fault that was read
record NextFaulty (at : ℕ) (s : Standing) (text rest : List ℕ) (fault : ElementFault) : Type 0 where
  next : Next
  is_next : IsNext rest next
  is : next_fault s at text next ≡ Some fault

hold_fault : (s : Standing) (at : ℕ) (text : List ℕ) (next : Next) (fault : ElementFault) → may_hold s text ≡ true → fault_after s (at + length text) next ≡ Some fault → next_fault s at text next ≡ Some fault
hold_fault s at text next fault holds is =
    ap (λ (b : Bool). if b then fault_after s (at + length text) next else Some (StrayText (at + prefix_len is_white text))) holds ∙ is

next_faulty : (at total : ℕ) (st : State) (text rest : List ℕ) (fault : ElementFault) → IsState st.done st.stack → begins is_text_byte rest ≡ false → at + length (text ++ rest) ≡ total →
    Ends at total st text rest (Err fault) → NextFaulty at (standing st.done st.stack) text rest fault
next_faulty at total st text rest fault good edge place (Stray stands is) =
    let next = some_next rest edge in
    let s = standing st.done st.stack in
    let f = err_inj {A = Element} fault (StrayText (at + prefix_len is_white text)) is in
    record {
      next = next.0;
      is_next = next.1;
      is = ap (λ (b : Bool). if b then fault_after s (at + length text) next.0 else Some (StrayText (at + prefix_len is_white text))) (sym (holds_same st.stack st.done text good) ∙ stands)
          ∙ ap (λ (z : ElementFault). Some z) (sym f);
    }
next_faulty at total st text rest fault good edge place (Last stands none is) =
    let f = finished_fault st total fault st.done refl is in
    let here : at + length text ≡ total = omega (arith, place, length-append text rest, ap length none) in
    record {
      next = Over;
      is_next = none;
      is = hold_fault (standing st.done st.stack) at text Over fault (sym (holds_same st.stack st.done text good) ∙ stands)
          (ap (λ (d : Option Element). last_fault (standing d st.stack) (at + length text)) f.0 ∙ ap (λ (n : ℕ). Some (Unmatched n)) here ∙ ap (λ (z : ElementFault). Some z) (sym f.1));
    }
next_faulty at total st text rest fault good edge place (Bad inner stands open_ none is) =
    record {
      next = Unmarked;
      is_next = ((inner, open_), λ m more form e. no_mark_there inner none m more form (sym open_ ∙ e));
      is = hold_fault (standing st.done st.stack) at text Unmarked fault (sym (holds_same st.stack st.done text good) ∙ stands)
          (ap (λ (z : ElementFault). Some z) (sym (err_inj {A = Element} fault (BadMark (at + length text)) is)));
    }
next_faulty at total st text rest fault good edge place (Faulty m more f stands form open_ wrong is) =
    let agrees = subst (λ (r : Result State ElementFault). Agrees r (standing st.done st.stack) (at + length text) m) wrong (mark_agrees st.stack st.done (at + length text) m good) in
    record {
      next = Marked m;
      is_next = (form, (more, open_));
      is = hold_fault (standing st.done st.stack) at text (Marked m) fault (sym (holds_same st.stack st.done text good) ∙ stands)
          (agrees ∙ ap (λ (z : ElementFault). Some z) (sym (err_inj {A = Element} fault f is)));
    }

-- the fault that is read is the first of the file
read_fault : (bytes : List ℕ) (fault : ElementFault) → read bytes ≡ Err fault → FirstFault bytes fault
read_fault bytes fault h =
    let at = order_mark_len bytes in
    let found = read_found bytes (Err fault) h in
    let passed = run_faultless at [] None found.pieces found.last tt found.runs in
    let place = at + length (pieces_written found.pieces) in
    let there : place + length (found.text ++ found.rest) ≡ length bytes = tail_place bytes found.pieces (found.text ++ found.rest) found.is in
    let next = next_faulty place (length bytes) found.last found.text found.rest fault passed.0.good found.edge there found.ends in
    record {
      pieces = found.pieces;
      text = found.text;
      rest = found.rest;
      next = next.next;
      valid = found.valid;
      no_mark = found.no_mark;
      is_next = next.is_next;
      written = found.is;
      before = passed.1;
      is = ap (λ (s : Standing). next_fault s place found.text next.next) (sym passed.0.standing) ∙ next.is;
    }

next_edge : (rest : List ℕ) (next : Next) → IsNext rest next → begins is_text_byte rest ≡ false
next_edge rest (Marked m) is = ap (begins is_text_byte) is.1.1 ∙ mark_no_text m is.1.0
next_edge rest Unmarked is = ap (begins is_text_byte) is.0.1
next_edge rest Over is = ap (begins is_text_byte) is

unmarked : (inner : List ℕ) → ((m : Mark) (more : List ℕ) → IsMark m → 60 ∷ inner ≡ mark_written m ++ more → ⊥) → (o : Option (ReadMark × List ℕ)) → mark_of inner ≡ o → o ≡ None
unmarked inner none None e = refl
unmarked inner none (Some m) e = absurd (let found = mark_found inner m e in none found.0 m.1 found.1 found.3)

no_more : (done : Option Element) (stack : List Open) (place : ℕ) (fault : ElementFault) → last_fault (standing done stack) place ≡ Some fault → (done ≡ None) × (Unmatched place ≡ fault)
no_more None stack place fault h = (refl, some_inj (Unmatched place) fault h)
no_more (Some e) stack place fault h = absurd (cc)

faulty_step : (r : Result State ElementFault) (s : Standing) (place : ℕ) (m : Mark) (fault : ElementFault) → Agrees r s place m → mark_fault s place m ≡ Some fault → r ≡ Err fault
faulty_step (Ok next) s place m fault agrees h = absurd (none_not_some fault (sym agrees.0 ∙ h))
faulty_step (Err f) s place m fault agrees h = ap (λ (z : ElementFault). Err z) (some_inj f fault (sym agrees ∙ h))

-- what has a fault is read so
next_read : (at total : ℕ) (st : State) (text rest : List ℕ) (next : Next) (fault : ElementFault) → IsState st.done st.stack → list_all is_text_byte text ≡ true → at + length (text ++ rest) ≡ total → IsNext rest next →
    may_stand st text ≡ true → fault_after (standing st.done st.stack) (at + length text) next ≡ Some fault → read_rest total st (text ++ rest) ≡ Err fault
next_read at total st text rest (Marked m) fault good is place next stands wrong =
    let inner = drop 1 (mark_written m ++ next.1.0) in
    let edge = next_edge rest (Marked m) next in
    let cons : rest ≡ 60 ∷ inner = next.1.1 ∙ mark_cons m next.1.0 in
    let here : total - length (60 ∷ inner) ≡ at + length text = omega (arith, place, length-append text rest, ap length cons) in
    let fails = faulty_step (step st (at + length text) (said m)) (standing st.done st.stack) (at + length text) m fault (mark_agrees st.stack st.done (at + length text) m good) wrong in
    read_marked total st (text ++ rest) 60 inner (said m) next.1.0 (ap (may_stand st) (text_before text rest is edge) ∙ stands) (after_text text rest is edge ∙ cons) (mark_again m next.1.0 next.0)
    ∙ ap (λ (n : ℕ). step st n (said m) >=> λ x. read_rest total x next.1.0) here ∙ ap (λ (r : Result State ElementFault). r >=> λ x. read_rest total x next.1.0) fails
next_read at total st text rest Unmarked fault good is place next stands wrong =
    let inner = next.0.0 in
    let edge = next_edge rest Unmarked next in
    let none = unmarked inner (λ m more form e. next.1 m more form (next.0.1 ∙ e)) (mark_of inner) refl in
    let here : total - length (60 ∷ inner) ≡ at + length text = omega (arith, place, length-append text rest, ap length next.0.1) in
    read_unmarked total st (text ++ rest) 60 inner (ap (may_stand st) (text_before text rest is edge) ∙ stands) (after_text text rest is edge ∙ next.0.1) none
    ∙ ap (λ (n : ℕ). Err (BadMark n)) here ∙ ap (λ (z : ElementFault). Err z) (some_inj (BadMark (at + length text)) fault wrong)
next_read at total st text rest Over fault good is place next stands wrong =
    let edge = next_edge rest Over next in
    let end = no_more st.done st.stack (at + length text) fault wrong in
    let here : total ≡ at + length text = omega (arith, place, length-append text rest, ap length next) in
    read_last total st (text ++ rest) (ap (may_stand st) (text_before text rest is edge) ∙ stands) (after_text text rest is edge ∙ next)
    ∙ ap (λ (d : Option Element). ended_by d total) end.0 ∙ ap (λ (n : ℕ). Err (Unmatched n)) here ∙ ap (λ (z : ElementFault). Err z) end.1

text_read : (at total : ℕ) (st : State) (text rest : List ℕ) (next : Next) (fault : ElementFault) → IsState st.done st.stack → list_all is_text_byte text ≡ true → at + length (text ++ rest) ≡ total → IsNext rest next →
    (b : Bool) → may_stand st text ≡ b → (if b then fault_after (standing st.done st.stack) (at + length text) next else Some (StrayText (at + prefix_len is_white text))) ≡ Some fault → read_rest total st (text ++ rest) ≡ Err fault
text_read at total st text rest next fault good is place is_next true stands wrong = next_read at total st text rest next fault good is place is_next stands wrong
text_read at total st text rest next fault good is place is_next false stands wrong =
    let before = text_before text rest is (next_edge rest next is_next) in
    let here : total - length (text ++ rest) ≡ at = omega (arith, place) in
    read_stray total st (text ++ rest) (ap (may_stand st) before ∙ stands)
    ∙ ap (λ (n : ℕ). Err (StrayText (n + prefix_len is_white (take (text_len (text ++ rest)) (text ++ rest))))) here
    ∙ ap (λ (z : List ℕ). Err (StrayText (at + prefix_len is_white z))) before
    ∙ ap (λ (z : ElementFault). Err z) (some_inj (StrayText (at + prefix_len is_white text)) fault wrong)

-- the first fault of a file is read
fault_read : (bytes : List ℕ) (fault : ElementFault) → FirstFault bytes fault → read bytes ≡ Err fault
fault_read bytes fault f =
    let at = order_mark_len bytes in
    let run_to = faultless_run at [] None f.pieces tt f.before in
    let st = run_to.0 in
    let place = at + length (pieces_written f.pieces) in
    let there : place + length (f.text ++ f.rest) ≡ length bytes = tail_place bytes f.pieces (f.text ++ f.rest) f.written in
    let wrong : next_fault (standing st.done st.stack) place f.text f.next ≡ Some fault = ap (λ (s : Standing). next_fault s place f.text f.next) run_to.2.standing ∙ f.is in
    read_pieces bytes f.pieces (f.text ++ f.rest) st f.valid f.written run_to.1
    ∙ text_read place (length bytes) st f.text f.rest f.next fault run_to.2.good f.no_mark there f.is_next (may_stand st f.text) refl
    (ap (λ (b : Bool). if b then fault_after (standing st.done st.stack) (place + length f.text) f.next else Some (StrayText (place + prefix_len is_white f.text))) (holds_same st.stack st.done f.text run_to.2.good) ∙ wrong)

ok_same : (a b : Element) → ◌≡◌ {A = Result Element ElementFault} (Ok a) (Ok b) → a ≡ b
ok_same a b h = cc

-- the same bytes spell at most one element
pub one : (bytes : List ℕ) (a b : Element) → Spells bytes a → Spells bytes b → a ≡ b
one bytes a b s t = ok_same a b (sym (spells_read bytes a s) ∙ spells_read bytes b t)

-- a refused file has the fault
refused : (bytes : List ℕ) (fault : ElementFault) → IsUtf8 bytes → read bytes ≡ Err fault → ElementFaultOf bytes fault
refused bytes fault utf8 h = inl (utf8, read_fault bytes fault h)

-- what a call answers that gives what reading gives
pub refused_so : (s : Stop ElementFault) (bytes : List ℕ) → IsUtf8 bytes → Gives {X = Element} (Err s) (read bytes) → WhenFault {X = Elements} (Err s) (ElementFaultOf bytes)
refused_so stop.NoMemory bytes utf8 h = tt
refused_so (stop.Fault fault) bytes utf8 h = refused bytes fault utf8 h

either_if : (bytes : List ℕ) (b : Bool) (r : Result Element ElementFault) → is_utf8 bytes ≡ b → read bytes ≡ r → ((e : Element) × Spells bytes e) ⊎ ((fault : ElementFault) × ElementFaultOf bytes fault)
either_if bytes true (Ok e) is h = inl (e, read_spells bytes e (IsUtf8-from_is_utf8 bytes is) h)
either_if bytes true (Err fault) is h = inr (fault, refused bytes fault (IsUtf8-from_is_utf8 bytes is) h)
either_if bytes false r is h = inr (NotUtf8 (utf8_valid_len bytes), inr (λ u. let k : true ≡ false = sym (is_utf8-from_IsUtf8 bytes u) ∙ is in cc, refl))

-- each sequence of bytes spells an element or has a fault
pub either : (bytes : List ℕ) → ((e : Element) × Spells bytes e) ⊎ ((fault : ElementFault) × ElementFaultOf bytes fault)
either bytes = either_if bytes (is_utf8 bytes) (read bytes) refl refl

pub one_fault : (bytes : List ℕ) (f g : ElementFault) → ElementFaultOf bytes f → ElementFaultOf bytes g → f ≡ g
one_fault bytes f g (inl x) (inl y) = err_inj {A = Element} f g (sym (fault_read bytes f x.1) ∙ fault_read bytes g y.1)
one_fault bytes f g (inl x) (inr y) = absurd (y.0 x.0)
one_fault bytes f g (inr x) (inl y) = absurd (x.0 y.0)
one_fault bytes f g (inr x) (inr y) = x.1 ∙ sym y.1

pub not_both : (bytes : List ℕ) (e : Element) (fault : ElementFault) → Spells bytes e → ElementFaultOf bytes fault → ⊥
not_both bytes e fault s (inl x) = ok_not_err e fault (sym (spells_read bytes e s) ∙ fault_read bytes fault x.1)
not_both bytes e fault s (inr x) = x.0 s.utf8
