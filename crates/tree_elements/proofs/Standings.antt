-- What the stack of open elements says of where marks stand, and that each mark has the fault that it has there.
use Rattle.std.proofs.Common.{◌≡◌, ℕ, ◌+◌, Bool, true, false, ◌&&◌, ◌||◌, List, [], ◌∷◌, length, map, Option, Some, None, Result, Ok, Err, refl, ap, sym, ◌∙◌, subst, if◌then◌else◌}
use Rattle.std.specs.Prelude.{is_none, nat_lt}
use Rattle.std.proofs.lemmas.List.{length-map}
use Rattle.std.specs.Cmp.Derive.{both_true}
use Rattle.std.specs.List.{prefix_len, list_all, list_any}
use Rattle.std.specs.Str.{bytes_eq}
use Rattle.spec_script.specs.Identifiers.{is_white}
use Rattle.spec_tree_file.specs.declared.element.Element.{Element}
use Rattle.spec_tree_file.specs.declared.element.ElementFault.{ElementFault}
use Rattle.spec_tree_file.specs.declared.element.ElementFault.TheVariants.{Unmatched, DoubleAttribute, StrayText, TooDeep}
use Rattle.tree_elements.specs.declared.nest.Open.{Open}
use Rattle.spec_tree_file.specs.Marks.{Mark, Opening, Start, Empty, End, Instruction, Comment, pairs_of, no_name_twice}
use Rattle.spec_tree_file.specs.Elements.{is_models, Piece, piece_written}
use Rattle.spec_tree_file.specs.ElementFaults.{Standing, In, After, ended_in, following_mark, after_pieces, may_hold, nesting_fault, mark_fault, Marked, next_fault, faultless}
use Rattle.tree_elements.specs.Reading.{◌>=>◌, State, inside_of, may_stand, element_of, attach, opened, begun, step}
use Rattle.tree_elements.proofs.Marks.{said, front_said}
use Rattle.tree_elements.proofs.Outcomes.{ok_inj, bind_ok, if_ok}
use Rattle.tree_elements.proofs.Nesting.{piece_step, run, run_one, within, IsNest, IsState, step_good}

abbrev names_of : List Open → List (List ℕ)
names_of stack = map (λ o. o.name) stack

-- where the next mark stands
abbrev pub standing : Option Element → List Open → Standing
standing None stack = In (names_of stack)
standing (Some e) stack = After

either_way : (a b : Bool) → (a || b) ≡ (b || a)
either_way true true = refl
either_way true false = refl
either_way false true = refl
either_way false false = refl

inside_any : (stack : List Open) → IsNest stack → inside_of stack ≡ list_any is_models (names_of stack)
inside_any [] nest = refl
inside_any (o ∷ os) nest =
    nest.0 ∙ ap (λ (b : Bool). b || is_models o.name) (inside_any os nest.2) ∙ either_way (list_any is_models (names_of os)) (is_models o.name)

-- text may stand where the stack says so
pub holds_same : (stack : List Open) (done : Option Element) (text : List ℕ) → IsState done stack → may_stand (record { stack = stack; done = done }) text ≡ may_hold (standing done stack) text
holds_same stack None text good = ap (λ (b : Bool). b || list_all is_white text) (inside_any stack good)
holds_same stack (Some e) text good = refl

-- an element that begins, against the fault that it has there
abbrev BegunAgrees : Result Open ElementFault → Open → Option ElementFault → Type 0
BegunAgrees (Ok x) first fault = (fault ≡ None) × (x ≡ first)
BegunAgrees (Err f) first fault = fault ≡ Some f

deep_agrees : (x : Open) (place : ℕ) (c : Bool) → BegunAgrees (if c then Ok x else Err (TooDeep place)) x (if c then None else Some (TooDeep place))
deep_agrees x place true = (refl, refl)
deep_agrees x place false = refl

nesting_agrees : (stack : List Open) (done : Option Element) (place : ℕ) (x : Open) →
    BegunAgrees (if is_none done then (if nat_lt (length stack) 258 then Ok x else Err (TooDeep place)) else Err (Unmatched place)) x (nesting_fault (standing done stack) place)
nesting_agrees stack None place x =
    subst (λ (n : ℕ). BegunAgrees (if nat_lt (length stack) 258 then Ok x else Err (TooDeep place)) x (if nat_lt n 258 then None else Some (TooDeep place)))
    (sym (length-map stack (λ (o : Open). o.name))) (deep_agrees x place (nat_lt (length stack) 258))
nesting_agrees stack (Some e) place x = refl

single_agrees : (r : Result Open ElementFault) (x : Open) (place : ℕ) (fault : Option ElementFault) → BegunAgrees r x fault → (b : Bool) →
    BegunAgrees (if b then r else Err (DoubleAttribute place)) x (if b then fault else Some (DoubleAttribute place))
single_agrees r x place fault h true = h
single_agrees r x place fault h false = refl

begun_agrees : (stack : List Open) (done : Option Element) (place : ℕ) (o : Opening) →
    BegunAgrees (begun (record { stack = stack; done = done }) place (front_said o)) (opened stack place (front_said o)) (if no_name_twice (pairs_of o.attributes) then nesting_fault (standing done stack) place else Some (DoubleAttribute place))
begun_agrees stack done place o =
    let x = opened stack place (front_said o) in
    single_agrees (if is_none done then (if nat_lt (length stack) 258 then Ok x else Err (TooDeep place)) else Err (Unmatched place)) x place (nesting_fault (standing done stack) place)
    (nesting_agrees stack done place x) (no_name_twice (pairs_of o.attributes))

-- what a mark did, against the fault that it has there and what follows it
abbrev pub Agrees : Result State ElementFault → Standing → ℕ → Mark → Type 0
Agrees (Ok next) s place m = (mark_fault s place m ≡ None) × (standing next.done next.stack ≡ following_mark s m)
Agrees (Err fault) s place m = mark_fault s place m ≡ Some fault

attach_standing : (e : Element) (stack : List Open) → standing (attach e stack).done (attach e stack).stack ≡ ended_in (names_of stack)
attach_standing e [] = refl
attach_standing e (o ∷ os) = refl

start_agrees : (stack : List Open) (place : ℕ) (o : Opening) (r : Result Open ElementFault) → BegunAgrees r (opened stack place (front_said o)) (mark_fault (In (names_of stack)) place (Start o)) →
    Agrees (r >=> λ x. Ok (within (x ∷ stack))) (In (names_of stack)) place (Start o)
start_agrees stack place o (Ok x) h = (h.0, ap (λ (z : Open). In (z.name ∷ names_of stack)) h.1)
start_agrees stack place o (Err fault) h = h

empty_agrees : (stack : List Open) (place : ℕ) (o : Opening) (r : Result Open ElementFault) → BegunAgrees r (opened stack place (front_said o)) (mark_fault (In (names_of stack)) place (Empty o)) →
    Agrees (r >=> λ x. Ok (attach (element_of x) stack)) (In (names_of stack)) place (Empty o)
empty_agrees stack place o (Ok x) h = (h.0, attach_standing (element_of x) stack)
empty_agrees stack place o (Err fault) h = h

none_begins : (f : Open → State) (place : ℕ) (m : Mark) (x : Open) (fault : Option ElementFault) (r : Result Open ElementFault) →
    mark_fault After place m ≡ fault → (fault ≡ None → ⊥) → BegunAgrees r x fault → Agrees (r >=> λ x. Ok (f x)) After place m
none_begins f place m x fault (Ok y) is some h = absurd (some h.0)
none_begins f place m x fault (Err g) is some h = is ∙ h

after_faulty : (b : Bool) (place : ℕ) → (if b then Some (Unmatched place) else Some (DoubleAttribute place)) ≡ None → ⊥
after_faulty true place h = cc
after_faulty false place h = cc

end_agrees_if : (o : Open) (os : List Open) (place : ℕ) (name gap : List ℕ) (b : Bool) → bytes_eq o.name name ≡ b →
    Agrees (if b then Ok (attach (element_of o) os) else Err (Unmatched place)) (In (names_of (o ∷ os))) place (End name gap)
end_agrees_if o os place name gap true e = (ap (λ (b : Bool). if b then None else Some (Unmatched place)) e, attach_standing (element_of o) os)
end_agrees_if o os place name gap false e = ap (λ (b : Bool). if b then None else Some (Unmatched place)) e

not_nil : (o : Open) (os : List Open) → o ∷ os ≡ [] → ⊥
not_nil o os h = cc

-- each mark has the fault that it has there
pub mark_agrees : (stack : List Open) (done : Option Element) (place : ℕ) (m : Mark) → IsState done stack → Agrees (step (record { stack = stack; done = done }) place (said m)) (standing done stack) place m
mark_agrees stack None place (Start o) good = start_agrees stack place o (begun (within stack) place (front_said o)) (begun_agrees stack None place o)
mark_agrees stack (Some e) place (Start o) good =
    none_begins (λ (x : Open). within (x ∷ stack)) place (Start o) (opened stack place (front_said o)) (mark_fault After place (Start o)) (begun (record { stack = stack; done = Some e }) place (front_said o))
    refl (after_faulty (no_name_twice (pairs_of o.attributes)) place) (begun_agrees stack (Some e) place o)
mark_agrees stack None place (Empty o) good = empty_agrees stack place o (begun (within stack) place (front_said o)) (begun_agrees stack None place o)
mark_agrees stack (Some e) place (Empty o) good =
    none_begins (λ (x : Open). attach (element_of x) stack) place (Empty o) (opened stack place (front_said o)) (mark_fault After place (Empty o)) (begun (record { stack = stack; done = Some e }) place (front_said o))
    refl (after_faulty (no_name_twice (pairs_of o.attributes)) place) (begun_agrees stack (Some e) place o)
mark_agrees [] None place (End name gap) good = refl
mark_agrees (o ∷ os) None place (End name gap) good = end_agrees_if o os place name gap (bytes_eq o.name name) refl
mark_agrees [] (Some e) place (End name gap) good = refl
mark_agrees (o ∷ os) (Some e) place (End name gap) good = absurd (not_nil o os good.0)
mark_agrees stack None place (Instruction body) good = (refl, refl)
mark_agrees stack (Some e) place (Instruction body) good = (refl, refl)
mark_agrees stack None place (Comment body) good = (refl, refl)
mark_agrees stack (Some e) place (Comment body) good = (refl, refl)

-- what is known after the marks of some pieces were taken
pub record Passed (at : ℕ) (stack : List Open) (done : Option Element) (ps : List Piece) (last : State) : Type 0 where
  pub good : IsState last.done last.stack
  pub standing : standing last.done last.stack ≡ after_pieces (standing done stack) ps

none_faulty : (b : Bool) (fault other : Option ElementFault) → b ≡ true → fault ≡ None → is_none (if b then fault else other) ≡ true
none_faulty b fault other h e = ap (λ (x : Bool). is_none (if x then fault else other)) h ∙ ap is_none e

passed_on : (at end : ℕ) (stack : List Open) (done : Option Element) (p : Piece) (ps : List Piece) (next last : State) →
    standing next.done next.stack ≡ following_mark (standing done stack) p.mark → Passed end next.stack next.done ps last → Passed at stack done (p ∷ ps) last
passed_on at end stack d p ps next last is passed =
    record { good = passed.good; standing = passed.standing ∙ ap (λ (s : Standing). after_pieces s ps) is }

-- pieces that were run have no fault
pub run_faultless : (at : ℕ) (stack : List Open) (done : Option Element) (ps : List Piece) (last : State) → IsState done stack → run at (record { stack = stack; done = done }) ps ≡ Ok last →
    Passed at stack done ps last × (faultless (standing done stack) at ps ≡ true)
run_faultless at stack done [] last good h =
    let st : State = record { stack = stack; done = done } in
    let e : st ≡ last = ok_inj st last h in
    (record { good = subst (λ (z : State). IsState z.done z.stack) e good; standing = ap (λ (z : State). standing z.done z.stack) (sym e) }, refl)
run_faultless at stack done (p ∷ ps) last good h =
    let st : State = record { stack = stack; done = done } in
    let place = at + length p.text in
    let end = at + length (piece_written p) in
    let all = bind_ok (piece_step at st p) (λ (next : State). run end next ps) last h in
    let stands = if_ok (may_stand st p.text) (step st place (said p.mark)) (StrayText (at + prefix_len is_white p.text)) all.0 all.1 in
    let agrees = subst (λ (r : Result State ElementFault). Agrees r (standing done stack) place p.mark) stands.1 (mark_agrees stack done place p.mark good) in
    let rest = run_faultless end all.0.stack all.0.done ps last (step_good stack done place p.mark all.0 good stands.1).0 all.2 in
    let first = none_faulty (may_hold (standing done stack) p.text) (mark_fault (standing done stack) place p.mark) (Some (StrayText (at + prefix_len is_white p.text)))
    (sym (holds_same stack done p.text good) ∙ stands.0) agrees.0 in (
      passed_on at end stack done p ps all.0 last agrees.1 rest.0,
      both_true first (ap (λ (s : Standing). faultless s end ps) (sym agrees.1) ∙ rest.1),
    )

none_and : (fault : Option ElementFault) (more : Bool) → (is_none fault && more) ≡ true → (fault ≡ None) × (more ≡ true)
none_and None more h = (refl, h)
none_and (Some f) more h = absurd (cc)

if_none : (b : Bool) (fault : Option ElementFault) (f : ElementFault) → (if b then fault else Some f) ≡ None → (b ≡ true) × (fault ≡ None)
if_none true fault f h = (refl, h)
if_none false fault f h = absurd (cc)

-- what pieces without a fault give
abbrev FaultlessRun : ℕ → List Open → Option Element → List Piece → Type 0
FaultlessRun at stack done ps = (last : State) × (run at (record { stack = stack; done = done }) ps ≡ Ok last) × Passed at stack done ps last

after_mark : (at : ℕ) (stack : List Open) (done : Option Element) (p : Piece) (ps : List Piece) → IsState done stack → may_stand (record { stack = stack; done = done }) p.text ≡ true → mark_fault (standing done stack) (at + length p.text) p.mark ≡ None →
    ((next : State) → IsState next.done next.stack → standing next.done next.stack ≡ following_mark (standing done stack) p.mark → FaultlessRun (at + length (piece_written p)) next.stack next.done ps) →
    (r : Result State ElementFault) → step (record { stack = stack; done = done }) (at + length p.text) (said p.mark) ≡ r → Agrees r (standing done stack) (at + length p.text) p.mark → FaultlessRun at stack done (p ∷ ps)
after_mark at stack d p ps good stands none go (Err fault) e agrees = absurd (let k = sym none ∙ agrees in cc)
after_mark at stack done p ps good stands none go (Ok next) e agrees =
    let rest = go next (step_good stack done (at + length p.text) p.mark next good e).0 agrees.1 in
    (rest.0, run_one at (record { stack = stack; done = done }) p ps (said p.mark) next stands refl e ∙ rest.1, passed_on at (at + length (piece_written p)) stack done p ps next rest.0 agrees.1 rest.2)

-- pieces without a fault are run
pub faultless_run : (at : ℕ) (stack : List Open) (done : Option Element) (ps : List Piece) → IsState done stack → faultless (standing done stack) at ps ≡ true → FaultlessRun at stack done ps
faultless_run at stack done [] good h = (record { stack = stack; done = done }, refl, record { good = good; standing = refl })
faultless_run at stack done (p ∷ ps) good h =
    let place = at + length p.text in
    let end = at + length (piece_written p) in
    let s = standing done stack in
    let t = none_and (next_fault s at p.text (Marked p.mark)) (faultless (following_mark s p.mark) end ps) h in
    let u = if_none (may_hold s p.text) (mark_fault s place p.mark) (StrayText (at + prefix_len is_white p.text)) t.0 in
    after_mark at stack done p ps good (holds_same stack done p.text good ∙ u.0) u.1
    (λ next ok is. faultless_run end next.stack next.done ps ok (ap (λ (z : Standing). faultless z end ps) is ∙ t.1))
    (step (record { stack = stack; done = done }) place (said p.mark)) refl (mark_agrees stack done place p.mark good)
