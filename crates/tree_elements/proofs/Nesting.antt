-- What the marks of an element do to the stack of open elements, and what elements the stack gives.
use Rattle.std.proofs.Common.{◌≡◌, ℕ, ◌+◌, ◌<◌, ◌≤◌, max, Bool, true, false, ◌&&◌, ◌||◌, List, [], ◌∷◌, ◌++◌, length, Option, Some, None, Result, Ok, Err, map, refl, ap, sym, ◌∙◌, subst, append_assoc, append-nil, arith, if◌then◌else◌}
use Rattle.std.specs.Prelude.{is_none, nat_lt}
use Rattle.std.proofs.lemmas.List.{map-append}
use Rattle.std.proofs.lemmas.Bool.Decides.{nat_tests}
use Rattle.std.proofs.lemmas.Slice.Eq.{bytes_eq-Decides}
use Rattle.std.specs.List.{list_all, prefix_len}
use Rattle.std.specs.Str.{bytes_eq}
use Rattle.spec_script.specs.Identifiers.{is_white}
use Rattle.spec_tree_file.specs.declared.element.Element.{Element, Element-F, roll-Element, fold-roll-Element, fold_out-Element, ind-Element}
use Rattle.tree_elements.specs.declared.mark.Front.{Front}
use Rattle.tree_elements.specs.declared.mark.Mark.{Mark as ReadMark}
use Rattle.tree_elements.specs.declared.mark.Mark.TheVariants as read
use Rattle.tree_elements.specs.declared.nest.Open.{Open}
use Rattle.spec_tree_file.specs.declared.element.ElementFault.{ElementFault}
use Rattle.spec_tree_file.specs.declared.element.ElementFault.TheVariants.{Unmatched, DoubleAttribute, StrayText, TooDeep}
use Rattle.spec_tree_file.specs.Marks.{Mark, Opening, Start, Empty, End, Instruction, Comment, pairs_of, no_name_twice, is_single}
use Rattle.spec_tree_file.specs.Elements.{Tag, Begin, Ending, is_models, joined, tags_step, tags_of, greatest, depth_step, depth_of, Piece, piece_written, tags_of_mark, inside_before, HaveTags}
use Rattle.tree_elements.specs.Reading.{◌>=>◌, State, inside_of, may_stand, element_of, with_child, attach, opened, begun, close, step}
use Rattle.tree_elements.proofs.Prefixes.{some_inj}
use Rattle.tree_elements.proofs.Outcomes.{ok_inj, bind_ok, if_ok}
use Rattle.tree_elements.proofs.Marks.{said, front_said}

-- the state after one piece, from this offset on
abbrev pub piece_step : ℕ → State → Piece → Result State ElementFault
piece_step at st p = if may_stand st p.text then step st (at + length p.text) (said p.mark) else Err (StrayText (at + prefix_len is_white p.text))

-- the state after the pieces
abbrev pub run : ℕ → State → List Piece → Result State ElementFault
run at st [] = Ok st
run at st (p ∷ ps) = piece_step at st p >=> λ next. run (at + length (piece_written p)) next ps

abbrev pub within : List Open → State
within stack = record { stack = stack; done = None }

joined-append : (xs ys : List (List Tag)) → joined (xs ++ ys) ≡ joined xs ++ joined ys
joined-append [] ys = refl
joined-append (x ∷ xs) ys = ap (λ (z : List Tag). x ++ z) (joined-append xs ys) ∙ sym (append_assoc x (joined xs) (joined ys))

-- the tags of elements next to one another
abbrev pub tags_of_all : List Element → Bool → List Tag
tags_of_all es inside = joined (map (λ e. tags_of e inside) es)

abbrev pub depth_of_all : List Element → ℕ
depth_of_all es = greatest (map depth_of es)

map_twice : (es : List Element) (b : Bool) → map (λ (child : Bool → List Tag). child b) (map tags_of es) ≡ map (λ e. tags_of e b) es
map_twice [] b = refl
map_twice (e ∷ es) b = ap (λ (z : List (List Tag)). tags_of e b ∷ z) (map_twice es b)

-- the tags of an element by its parts
pub tags_of-roll : (x : Element-F Element) (b : Bool) →
    tags_of (roll-Element x) b ≡ Begin b x.place x.name x.attributes ∷ (tags_of_all x.children (b || is_models x.name) ++ Ending (b || is_models x.name) x.name ∷ [])
tags_of-roll x b =
    let below = b || is_models x.name in
    ap (λ (t : Bool → List Tag). t b) (fold-roll-Element (Bool → List Tag) tags_step x)
    ∙ ap (λ (z : List (List Tag)). Begin b x.place x.name x.attributes ∷ (joined z ++ Ending below x.name ∷ [])) (map_twice x.children below)

depth_of-roll : (x : Element-F Element) → depth_of (roll-Element x) ≡ 1 + depth_of_all x.children
depth_of-roll x = fold-roll-Element ℕ depth_step x

greatest-append : (ns : List ℕ) (n : ℕ) → greatest (ns ++ n ∷ []) ≡ max (greatest ns) n
greatest-append [] n = omega arith
greatest-append (m ∷ ns) n = omega (arith, greatest-append ns n)

-- the tags of the open elements, which stand the innermost first
abbrev pub open_tags : List Open → List Tag
open_tags [] = []
open_tags (o ∷ os) = open_tags os ++ (Begin (inside_of os) o.place o.name o.attributes ∷ tags_of_all o.children o.inside)

-- open elements that may stand in one another
abbrev pub IsNest : List Open → Type 0
IsNest [] = Unit {0}
IsNest (o ∷ os) = (o.inside ≡ (inside_of os || is_models o.name)) × (length os + (1 + depth_of_all o.children) ≤ 258) × IsNest os

abbrev pub IsState : Option Element → List Open → Type 0
IsState None stack = IsNest stack
IsState (Some e) stack = (stack ≡ []) × (depth_of e ≤ 258)

abbrev pub so_far : Option Element → List Open → List Tag
so_far None stack = open_tags stack
so_far (Some e) stack = tags_of e false

attach_good : (e : Element) (stack : List Open) → IsNest stack → length stack + depth_of e ≤ 258 →
    IsState (attach e stack).done (attach e stack).stack × (so_far (attach e stack).done (attach e stack).stack ≡ open_tags stack ++ tags_of e (inside_of stack))
attach_good e [] nest deep = ((refl, omega arith), refl)
attach_good e (o ∷ os) nest deep =
    let depth : depth_of_all (o.children ++ e ∷ []) ≡ max (depth_of_all o.children) (depth_of e) =
    ap greatest (map-append depth_of o.children (e ∷ [])) ∙ greatest-append (map depth_of o.children) (depth_of e) in
    let front = Begin (inside_of os) o.place o.name o.attributes in
    let tags : tags_of_all (o.children ++ e ∷ []) o.inside ≡ tags_of_all o.children o.inside ++ tags_of e o.inside =
    ap joined (map-append (λ (c : Element). tags_of c o.inside) o.children (e ∷ [])) ∙ joined-append (map (λ c. tags_of c o.inside) o.children) (tags_of e o.inside ∷ [])
    ∙ ap (λ (z : List Tag). tags_of_all o.children o.inside ++ z) (append-nil (tags_of e o.inside)) in (
      (nest.0, omega (arith, depth, nest.1), nest.2),
      ap (λ (z : List Tag). open_tags os ++ (front ∷ z)) tags ∙ sym (append_assoc (open_tags os) (front ∷ tags_of_all o.children o.inside) (tags_of e o.inside)),
    )

few_from_test : (n : ℕ) → nat_lt n 258 ≡ true → n < 258
few_from_test n h = grind (arith, nat_tests)

test_from_few : (n : ℕ) → n < 258 → nat_lt n 258 ≡ true
test_from_few n h = grind (arith, nat_tests)

none_from : {A : Type 0} (o : Option A) → is_none o ≡ true → o ≡ None
none_from None h = refl
none_from (Some x) h = absurd (cc)

-- what a mark does to the tags so far
abbrev Steps : List Open → Option Element → ℕ → Mark → State → Type 0
Steps stack done place m next =
    IsState next.done next.stack × (so_far next.done next.stack ≡ so_far done stack ++ tags_of_mark (inside_of stack) place m)

-- what is known of an element that may begin
record MayBegin (stack : List Open) (done : Option Element) (attributes : List (List ℕ × List ℕ)) : Type 0 where
  none : done ≡ None
  few : nat_lt (length stack) 258 ≡ true
  single : no_name_twice attributes ≡ true

begun_found : (stack : List Open) (done : Option Element) (place : ℕ) (o : Front) (x : Open) → begun (record { stack = stack; done = done }) place o ≡ Ok x →
    MayBegin stack done o.attributes × (opened stack place o ≡ x)
begun_found stack done place o x h =
    let deep = if nat_lt (length stack) 258 then Ok (opened stack place o) else Err (TooDeep place) in
    let single = if_ok (no_name_twice o.attributes) (if is_none done then deep else Err (Unmatched place)) (DoubleAttribute place) x h in
    let open_ = if_ok (is_none done) deep (Unmatched place) x single.1 in
    let few = if_ok (nat_lt (length stack) 258) (Ok (opened stack place o)) (TooDeep place) x open_.1 in
    (record { none = none_from done open_.0; few = few.0; single = single.0 }, ok_inj (opened stack place o) x few.1)

begin_good : (stack : List Open) (done : Option Element) (place : ℕ) (o : Opening) (next : State) → IsState done stack →
    step (record { stack = stack; done = done }) place (read.Start (front_said o)) ≡ Ok next → Steps stack done place (Start o) next
begin_good stack (Some e) place o next good h =
    let x = bind_ok (begun (record { stack = stack; done = Some e }) place (front_said o)) (λ (x : Open). Ok (within (x ∷ stack))) next h in
    let found = begun_found stack (Some e) place (front_said o) x.0 x.1 in
    absurd (let k = found.0.none in cc)
begin_good stack None place o next good h =
    let x = bind_ok (begun (within stack) place (front_said o)) (λ (x : Open). Ok (within (x ∷ stack))) next h in
    let found = begun_found stack None place (front_said o) x.0 x.1 in
    let is : within (opened stack place (front_said o) ∷ stack) ≡ next = ap (λ (z : Open). within (z ∷ stack)) found.1 ∙ ok_inj (within (x.0 ∷ stack)) next x.2 in
    subst (Steps stack None place (Start o)) is ((refl, omega (arith, few_from_test (length stack) found.0.few), good), refl)

empty_tags : (stack : List Open) (place : ℕ) (o : Opening) → tags_of (element_of (opened stack place (front_said o))) (inside_of stack) ≡ tags_of_mark (inside_of stack) place (Empty o)
empty_tags stack place o = tags_of-roll (record { name = o.name; attributes = pairs_of o.attributes; children = []; place = place }) (inside_of stack)

empty_depth : (stack : List Open) (place : ℕ) (o : Opening) → depth_of (element_of (opened stack place (front_said o))) ≡ 1
empty_depth stack place o = depth_of-roll (record { name = o.name; attributes = pairs_of o.attributes; children = []; place = place })

empty_good : (stack : List Open) (done : Option Element) (place : ℕ) (o : Opening) (next : State) → IsState done stack →
    step (record { stack = stack; done = done }) place (read.Empty (front_said o)) ≡ Ok next → Steps stack done place (Empty o) next
empty_good stack (Some e) place o next good h =
    let x = bind_ok (begun (record { stack = stack; done = Some e }) place (front_said o)) (λ (x : Open). Ok (attach (element_of x) stack)) next h in
    let found = begun_found stack (Some e) place (front_said o) x.0 x.1 in
    absurd (let k = found.0.none in cc)
empty_good stack None place o next good h =
    let x = bind_ok (begun (within stack) place (front_said o)) (λ (x : Open). Ok (attach (element_of x) stack)) next h in
    let found = begun_found stack None place (front_said o) x.0 x.1 in
    let e = element_of (opened stack place (front_said o)) in
    let is : attach e stack ≡ next = ap (λ (z : Open). attach (element_of z) stack) found.1 ∙ ok_inj (attach (element_of x.0) stack) next x.2 in
    let one = attach_good e stack good (omega (arith, few_from_test (length stack) found.0.few, empty_depth stack place o)) in
    subst (Steps stack None place (Empty o)) is (one.0, one.1 ∙ ap (λ (z : List Tag). open_tags stack ++ z) (empty_tags stack place o))

same_bytes : (a b : List ℕ) → bytes_eq a b ≡ true → a ≡ b
same_bytes a b h = (bytes_eq-Decides a b).0 h

test_same_bytes : (a : List ℕ) → bytes_eq a a ≡ true
test_same_bytes a = (bytes_eq-Decides a a).1 refl

cons_not_nil : (o : Open) (os : List Open) → o ∷ os ≡ [] → ⊥
cons_not_nil o os h = cc

end_good : (stack : List Open) (done : Option Element) (place : ℕ) (name gap : List ℕ) (next : State) → IsState done stack →
    close place name stack ≡ Ok next → Steps stack done place (End name gap) next
end_good [] d place name gap next good h = absurd (cc)
end_good (o ∷ os) (Some e) place name gap next good h = absurd (cons_not_nil o os good.0)
end_good (o ∷ os) None place name gap next good h =
    let t = if_ok (bytes_eq o.name name) (Ok (attach (element_of o) os)) (Unmatched place) next h in
    let is : attach (element_of o) os ≡ next = ok_inj (attach (element_of o) os) next t.1 in
    let x : Element-F Element = record { name = o.name; attributes = o.attributes; children = o.children; place = o.place } in
    let one = attach_good (element_of o) os good.2 (omega (arith, good.1, depth_of-roll x)) in
    let front = Begin (inside_of os) o.place o.name o.attributes in
    subst (Steps (o ∷ os) None place (End name gap)) is (
      one.0,
      one.1 ∙ ap (λ (z : List Tag). open_tags os ++ z) (tags_of-roll x (inside_of os))
          ∙ ap (λ (b : Bool). open_tags os ++ (front ∷ (tags_of_all o.children b ++ Ending b o.name ∷ []))) (sym good.0)
          ∙ ap (λ (n : List ℕ). open_tags os ++ (front ∷ (tags_of_all o.children o.inside ++ Ending o.inside n ∷ []))) (same_bytes o.name name t.0)
          ∙ sym (append_assoc (open_tags os) (front ∷ tags_of_all o.children o.inside) (Ending o.inside name ∷ [])),
    )

aside_good : (stack : List Open) (done : Option Element) (place : ℕ) (m : Mark) (next : State) → tags_of_mark (inside_of stack) place m ≡ [] → IsState done stack →
    ◌≡◌ {A = Result State ElementFault} (Ok (record { stack = stack; done = done })) (Ok next) → Steps stack done place m next
aside_good stack done place m next none good h =
    subst (Steps stack done place m) (ok_inj (record { stack = stack; done = done }) next h)
    (good, sym (ap (λ (z : List Tag). so_far done stack ++ z) none ∙ append-nil (so_far done stack)))

pub step_good : (stack : List Open) (done : Option Element) (place : ℕ) (m : Mark) (next : State) → IsState done stack →
    step (record { stack = stack; done = done }) place (said m) ≡ Ok next → Steps stack done place m next
step_good stack done place (Start o) next good h = begin_good stack done place o next good h
step_good stack done place (Empty o) next good h = empty_good stack done place o next good h
step_good stack done place (End name gap) next good h = end_good stack done place name gap next good h
step_good stack done place (Instruction body) next good h = aside_good stack done place (Instruction body) next refl good h
step_good stack done place (Comment body) next good h = aside_good stack done place (Comment body) next refl good h

-- a mark that is taken has no attribute's name twice
step_single : (stack : List Open) (done : Option Element) (place : ℕ) (m : Mark) (next : State) →
    step (record { stack = stack; done = done }) place (said m) ≡ Ok next → is_single m ≡ true
step_single stack done place (Start o) next h =
    let x = bind_ok (begun (record { stack = stack; done = done }) place (front_said o)) (λ (x : Open). Ok (within (x ∷ stack))) next h in
    (begun_found stack done place (front_said o) x.0 x.1).0.single
step_single stack done place (Empty o) next h =
    let x = bind_ok (begun (record { stack = stack; done = done }) place (front_said o)) (λ (x : Open). Ok (attach (element_of x) stack)) next h in
    (begun_found stack done place (front_said o) x.0 x.1).0.single
step_single stack d place (End name gap) next h = refl
step_single stack d place (Instruction body) next h = refl
step_single stack d place (Comment body) next h = refl

weaker : (a b c : Bool) → (a && b || c) ≡ true → (b || c) ≡ true
weaker true b c h = h
weaker false true c h = refl
weaker false false c h = h

done_some : (done : Option Element) (stack : List Open) (e : Element) → IsState done stack → done ≡ Some e → (so_far done stack ≡ tags_of e false) × (depth_of e ≤ 258)
done_some None stack e good h = absurd (cc)
done_some (Some d) stack e good h =
    let is : d ≡ e = some_inj d e h in
    (ap (λ (z : Element). tags_of z false) is, subst (λ (z : Element). depth_of z ≤ 258) is good.1)

no_stack : (done : Option Element) (stack : List Open) (e : Element) → IsState done stack → done ≡ Some e → false ≡ inside_of stack
no_stack None stack e good h = absurd (cc)
no_stack (Some d) stack e good h = sym (ap inside_of good.0)

-- the next tags stand where the stack says
before_mark : (st next : State) (place : ℕ) (m : Mark) (ts : List Tag) → step st place (said m) ≡ Ok next → inside_before ts ≡ inside_of next.stack →
    inside_before (tags_of_mark (inside_of st.stack) place m ++ ts) ≡ inside_of st.stack
before_mark st next place (Start o) ts h e = refl
before_mark st next place (Empty o) ts h e = refl
before_mark st next place (End name gap) ts h e = refl
before_mark st next place (Instruction body) ts h e = e ∙ ap (λ (z : State). inside_of z.stack) (sym (ok_inj st next h))
before_mark st next place (Comment body) ts h e = e ∙ ap (λ (z : State). inside_of z.stack) (sym (ok_inj st next h))

-- what pieces that were run are: they have tags, which spell the element
pub record RunFound (at : ℕ) (stack : List Open) (done : Option Element) (ps : List Piece) (e : Element) : Type 0 where
  pub tags : List Tag
  pub have : HaveTags at ps tags
  pub inside : inside_before tags ≡ inside_of stack
  pub spell : so_far done stack ++ tags ≡ tags_of e false
  pub deep : depth_of e ≤ 258

-- what the pieces give is what their tags spell
pub run_good : (at : ℕ) (stack : List Open) (done : Option Element) (ps : List Piece) (last : State) (e : Element) → IsState done stack →
    run at (record { stack = stack; done = done }) ps ≡ Ok last → last.done ≡ Some e → RunFound at stack done ps e
run_good at stack done [] last e good h is =
    let same : done ≡ Some e = ap (λ (z : State). z.done) (ok_inj (record { stack = stack; done = done }) last h) ∙ is in
    let d = done_some done stack e good same in
    record { tags = []; have = refl; inside = no_stack done stack e good same; spell = append-nil (so_far done stack) ∙ d.0; deep = d.1 }
run_good at stack done (p ∷ ps) last e good h is =
    let st : State = record { stack = stack; done = done } in
    let place = at + length p.text in
    let end = at + length (piece_written p) in
    let all = bind_ok (piece_step at st p) (λ (next : State). run end next ps) last h in
    let stands = if_ok (may_stand st p.text) (step st place (said p.mark)) (StrayText (at + prefix_len is_white p.text)) all.0 all.1 in
    let good_one = step_good stack done place p.mark all.0 good stands.1 in
    let rest = run_good end all.0.stack all.0.done ps last e good_one.0 all.2 is in
    let tags = tags_of_mark (inside_of stack) place p.mark ++ rest.tags in
    let inside : inside_before tags ≡ inside_of stack = before_mark st all.0 place p.mark rest.tags stands.1 rest.inside in
    record {
      tags = tags;
      have = (
        rest.tags,
        ap (λ (b : Bool). b || list_all is_white p.text) inside ∙ weaker (is_none done) (inside_of stack) (list_all is_white p.text) stands.0,
        step_single stack done place p.mark all.0 stands.1,
        ap (λ (b : Bool). tags_of_mark b place p.mark ++ rest.tags) (sym inside),
        rest.have,
      );
      inside = inside;
      spell =
          sym (append_assoc (so_far done stack) (tags_of_mark (inside_of stack) place p.mark) rest.tags) ∙ ap (λ (z : List Tag). z ++ rest.tags) (sym good_one.1) ∙ rest.spell;
      deep = rest.deep;
    }

-- no tags are left of no pieces
has_piece : (at : ℕ) (t : Tag) (ts : List Tag) → HaveTags at [] (t ∷ ts) → ⊥
has_piece at t ts h = cc

-- the mark whose tags begin with a beginning, or that has none
first_is : {P : Type 0} (b : Bool) (place : ℕ) (name : List ℕ) (attributes : List (List ℕ × List ℕ)) (rest : List Tag)
    (at : ℕ) (m : Mark) (more : List Tag) → Begin b place name attributes ∷ rest ≡ tags_of_mark b at m ++ more →
    ((o : Opening) → m ≡ Start o → place ≡ at → name ≡ o.name → attributes ≡ pairs_of o.attributes → rest ≡ more → P) →
    ((o : Opening) → m ≡ Empty o → place ≡ at → name ≡ o.name → attributes ≡ pairs_of o.attributes → rest ≡ Ending (b || is_models o.name) o.name ∷ more → P) →
    (said m ≡ read.Aside → Begin b place name attributes ∷ rest ≡ more → P) → P
first_is b place name attributes rest at (Start o) more h p q r = p o refl (cc) (cc) (cc) (cc)
first_is b place name attributes rest at (Empty o) more h p q r = q o refl (cc) (cc) (cc) (cc)
first_is b place name attributes rest at (End n gap) more h p q r = absurd (cc)
first_is b place name attributes rest at (Instruction body) more h p q r = r refl h
first_is b place name attributes rest at (Comment body) more h p q r = r refl h

-- the mark whose tags begin with an ending, or that has none
last_is : {P : Type 0} (b : Bool) (name : List ℕ) (rest : List Tag) (at : ℕ) (m : Mark) (more : List Tag) →
    Ending b name ∷ rest ≡ tags_of_mark b at m ++ more → ((gap : List ℕ) → m ≡ End name gap → rest ≡ more → P) →
    (said m ≡ read.Aside → Ending b name ∷ rest ≡ more → P) → P
last_is b name rest at (Start o) more h p r = absurd (cc)
last_is b name rest at (Empty o) more h p r = absurd (cc)
last_is b name rest at (End n gap) more h p r = p gap (let e : n ≡ name = cc in ap (λ (z : List ℕ). End z gap) e) (cc)
last_is b name rest at (Instruction body) more h p r = r refl h
last_is b name rest at (Comment body) more h p r = r refl h

-- the pieces of some tags are run, and others are left
abbrev pub Runs : ℕ → State → List Piece → State → List Tag → Type 0
Runs at st ps next more = (end : ℕ) × (rest : List Piece) × HaveTags end rest more × (run at st ps ≡ run end next rest)

-- one piece is run
pub run_one : (at : ℕ) (st : State) (p : Piece) (ps : List Piece) (m : ReadMark) (next : State) → may_stand st p.text ≡ true → said p.mark ≡ m →
    step st (at + length p.text) m ≡ Ok next → run at st (p ∷ ps) ≡ run (at + length (piece_written p)) next ps
run_one at st p ps m next stands is s =
    ap (λ (r : Result State ElementFault). r >=> λ x. run (at + length (piece_written p)) x ps)
    (ap (λ (b : Bool). if b then step st (at + length p.text) (said p.mark) else Err (StrayText (at + prefix_len is_white p.text))) stands
    ∙ ap (step st (at + length p.text)) is ∙ s)

-- an instruction or a comment is ignored
pub run_aside : (at : ℕ) (st : State) (p : Piece) (ps : List Piece) → may_stand st p.text ≡ true → said p.mark ≡ read.Aside →
    run at st (p ∷ ps) ≡ run (at + length (piece_written p)) st ps
run_aside at st p ps stands is = run_one at st p ps read.Aside st stands is refl

onward : (at end : ℕ) (st next : State) (ps rest : List Piece) (more : List Tag) → run at st ps ≡ run end st rest → Runs end st rest next more → Runs at st ps next more
onward at end st next ps rest more e r = (r.0, r.1, r.2, e ∙ r.3)

end_runs : (at : ℕ) (ps : List Piece) (more : List Tag) (o : Open) (os : List Open) → HaveTags at ps (Ending o.inside o.name ∷ more) →
    Runs at (within (o ∷ os)) ps (attach (element_of o) os) more
end_runs at [] more o os h = absurd (has_piece at (Ending o.inside o.name) more h)
end_runs at (p ∷ ps) more o os h =
    let end = at + length (piece_written p) in
    last_is o.inside o.name more (at + length p.text) p.mark h.0 h.3
    (λ gap is rest. (
      end,
      ps,
      subst (HaveTags end ps) (sym rest) h.4,
      run_one at (within (o ∷ os)) p ps (read.End o.name) (attach (element_of o) os) h.1 (ap said is)
          (ap (λ (z : Bool). if z then Ok (attach (element_of o) os) else Err (Unmatched (at + length p.text))) (test_same_bytes o.name)),
    ))
    (λ is same.
    onward at end (within (o ∷ os)) (attach (element_of o) os) (p ∷ ps) ps more (run_aside at (within (o ∷ os)) p ps h.1 is)
    (end_runs end ps more o os (subst (HaveTags end ps) (sym same) h.4)))

-- the tags of an element are run as the element
abbrev pub Runs_of : Element → Type 0
Runs_of e = (at : ℕ) (ps : List Piece) (more : List Tag) (stack : List Open) → HaveTags at ps (tags_of e (inside_of stack) ++ more) → length stack + depth_of e ≤ 258 →
    Runs at (within stack) ps (attach e stack) more

abbrev with_children : Open → List Element → Open
with_children o es = record { name = o.name; attributes = o.attributes; children = o.children ++ es; place = o.place; inside = o.inside }

abbrev bare : List ((e : Element) × Runs_of e) → List Element
bare es = map (λ e. e.0) es

children_run : (es : List ((e : Element) × Runs_of e)) (at : ℕ) (ps : List Piece) (more : List Tag) (o : Open) (os : List Open) →
    HaveTags at ps (tags_of_all (bare es) o.inside ++ more) → length os + (1 + depth_of_all (bare es)) ≤ 258 →
    Runs at (within (o ∷ os)) ps (within (with_children o (bare es) ∷ os)) more
children_run [] at ps more o os h deep =
    (at, ps, h, ap (λ (z : List Element). run at (within (record { name = o.name; attributes = o.attributes; children = z; place = o.place; inside = o.inside } ∷ os)) ps) (sym (append-nil o.children)))
children_run (e ∷ es) at ps more o os h deep =
    let tags = subst (HaveTags at ps) (append_assoc (tags_of e.0 o.inside) (tags_of_all (bare es) o.inside) more) h in
    let one = e.1 at ps (tags_of_all (bare es) o.inside ++ more) (o ∷ os) tags (omega arith) in
    let rest = children_run es one.0 one.1 more (with_child o e.0) os one.2 (omega arith) in (
      rest.0,
      rest.1,
      rest.2,
      one.3 ∙ rest.3
          ∙ ap (λ (z : List Element). run rest.0 (within (record { name = o.name; attributes = o.attributes; children = z; place = o.place; inside = o.inside } ∷ os)) rest.1) (append_assoc o.children (e.0 ∷ []) (bare es)),
    )

-- an element's tags begin with a beginning
tags_begin : (e : Element) (b : Bool) (more : List Tag) (c : Bool) (name : List ℕ) (rest : List Tag) → tags_of e b ++ more ≡ Ending c name ∷ rest → ⊥
tags_begin e b more c name rest h =
    let is = ap (λ (t : Bool → List Tag). t b) (fold_out-Element (Bool → List Tag) tags_step e) in
    let k = sym (ap (λ (z : List Tag). z ++ more) is) ∙ h in
    cc

-- an element from its parts, with what is known of its children
abbrev parts : Element-F ((e : Element) × Runs_of e) → Element-F Element
parts y = record { name = y.name; attributes = y.attributes; children = bare y.children; place = y.place }

few_open : (n d : ℕ) → n + (1 + d) ≤ 258 → nat_lt n 258 ≡ true
few_open n d h = test_from_few n (omega arith)

may_begin : (stack : List Open) (place : ℕ) (o : Front) → no_name_twice o.attributes ≡ true → nat_lt (length stack) 258 ≡ true → begun (within stack) place o ≡ Ok (opened stack place o)
may_begin stack place o single few = rw (single, few) refl

start_runs : (y : Element-F ((e : Element) × Runs_of e)) (at : ℕ) (p : Piece) (ps : List Piece) (more : List Tag) (stack : List Open) (o : Opening) →
    length stack + (1 + depth_of_all (bare y.children)) ≤ 258 → p.mark ≡ Start o → is_single p.mark ≡ true → at + length p.text ≡ y.place → o.name ≡ y.name → pairs_of o.attributes ≡ y.attributes →
    (inside_of stack || list_all is_white p.text) ≡ true →
    HaveTags (at + length (piece_written p)) ps ((tags_of_all (bare y.children) (inside_of stack || is_models y.name) ++ Ending (inside_of stack || is_models y.name) y.name ∷ []) ++ more) →
    Runs at (within stack) (p ∷ ps) (attach (roll-Element (parts y)) stack) more
start_runs y at p ps more stack o deep is single place name attributes text h =
    let below = inside_of stack || is_models y.name in
    let first : Open = record { name = y.name; attributes = y.attributes; children = []; place = y.place; inside = below } in
    let is_first : opened stack (at + length p.text) (front_said o) ≡ first =
    ap (λ (z : List ℕ). let x : Open = record { name = z; attributes = pairs_of o.attributes; children = []; place = at + length p.text; inside = inside_of stack || is_models z } in x) name
    ∙ ap (λ (z : List (List ℕ × List ℕ)). let x : Open = record { name = y.name; attributes = z; children = []; place = at + length p.text; inside = below } in x) attributes
    ∙ ap (λ (z : ℕ). let x : Open = record { name = y.name; attributes = y.attributes; children = []; place = z; inside = below } in x) place in
    let begins = may_begin stack (at + length p.text) (front_said o) (sym (ap is_single is) ∙ single) (few_open (length stack) (depth_of_all (bare y.children)) deep) in
    let taken : step (within stack) (at + length p.text) (read.Start (front_said o)) ≡ Ok (within (first ∷ stack)) =
    ap (λ (r : Result Open ElementFault). r >=> λ x. Ok (within (x ∷ stack))) begins ∙ ap (λ (z : Open). Ok (within (z ∷ stack))) is_first in
    let tags = subst (HaveTags (at + length (piece_written p)) ps) (append_assoc (tags_of_all (bare y.children) below) (Ending below y.name ∷ []) more) h in
    let inner = children_run y.children (at + length (piece_written p)) ps (Ending below y.name ∷ more) first stack tags deep in
    let last = end_runs inner.0 inner.1 more (with_children first (bare y.children)) stack inner.2 in
    (last.0, last.1, last.2, run_one at (within stack) p ps (read.Start (front_said o)) (within (first ∷ stack)) text (ap said is) taken ∙ inner.3 ∙ last.3)

no_children : (es : List ((e : Element) × Runs_of e)) (b : Bool) (t : Tag) (more : List Tag) (c : Bool) (name : List ℕ) (rest : List Tag) →
    (tags_of_all (bare es) b ++ t ∷ []) ++ more ≡ Ending c name ∷ rest → (bare es ≡ []) × (t ∷ more ≡ Ending c name ∷ rest)
no_children [] b t more c name rest h = (refl, h)
no_children (e ∷ es) b t more c name rest h =
    absurd (tags_begin e.0 b ((tags_of_all (bare es) b ++ t ∷ []) ++ more) c name rest
    (sym (append_assoc (tags_of e.0 b) (tags_of_all (bare es) b ++ t ∷ []) more)
    ∙ ap (λ (z : List Tag). z ++ more) (sym (append_assoc (tags_of e.0 b) (tags_of_all (bare es) b) (t ∷ []))) ∙ h))

empty_runs : (y : Element-F ((e : Element) × Runs_of e)) (at : ℕ) (p : Piece) (ps : List Piece) (more left : List Tag) (stack : List Open) (o : Opening) →
    length stack + (1 + depth_of_all (bare y.children)) ≤ 258 → p.mark ≡ Empty o → is_single p.mark ≡ true → at + length p.text ≡ y.place → o.name ≡ y.name → pairs_of o.attributes ≡ y.attributes →
    (inside_of stack || list_all is_white p.text) ≡ true →
    (tags_of_all (bare y.children) (inside_of stack || is_models y.name) ++ Ending (inside_of stack || is_models y.name) y.name ∷ []) ++ more ≡ Ending (inside_of stack || is_models o.name) o.name ∷ left →
    HaveTags (at + length (piece_written p)) ps left →
    Runs at (within stack) (p ∷ ps) (attach (roll-Element (parts y)) stack) more
empty_runs y at p ps more left stack o deep is single place name attributes text tags h =
    let below = inside_of stack || is_models y.name in
    let none = no_children y.children below (Ending below y.name) more (inside_of stack || is_models o.name) o.name left tags in
    let left_is : more ≡ left = let e = none.1 in cc in
    let made : element_of (opened stack (at + length p.text) (front_said o)) ≡ roll-Element (parts y) =
    ap (λ (z : List ℕ). roll-Element (record { name = z; attributes = pairs_of o.attributes; children = []; place = at + length p.text })) name
    ∙ ap (λ (z : List (List ℕ × List ℕ)). roll-Element (record { name = y.name; attributes = z; children = []; place = at + length p.text })) attributes
    ∙ ap (λ (z : ℕ). roll-Element (record { name = y.name; attributes = y.attributes; children = []; place = z })) place
    ∙ ap (λ (z : List Element). roll-Element (record { name = y.name; attributes = y.attributes; children = z; place = y.place })) (sym none.0) in
    let begins = may_begin stack (at + length p.text) (front_said o) (sym (ap is_single is) ∙ single) (few_open (length stack) (depth_of_all (bare y.children)) deep) in
    let taken : step (within stack) (at + length p.text) (read.Empty (front_said o)) ≡ Ok (attach (roll-Element (parts y)) stack) =
    ap (λ (r : Result Open ElementFault). r >=> λ x. Ok (attach (element_of x) stack)) begins ∙ ap (λ (z : Element). Ok (attach z stack)) made in (
      at + length (piece_written p),
      ps,
      subst (HaveTags (at + length (piece_written p)) ps) (sym left_is) h,
      run_one at (within stack) p ps (read.Empty (front_said o)) (attach (roll-Element (parts y)) stack) text (ap said is) taken,
    )

pieces_run : (y : Element-F ((e : Element) × Runs_of e)) (at : ℕ) (ps : List Piece) (more : List Tag) (stack : List Open) →
    HaveTags at ps (Begin (inside_of stack) y.place y.name y.attributes ∷ ((tags_of_all (bare y.children) (inside_of stack || is_models y.name) ++ Ending (inside_of stack || is_models y.name) y.name ∷ []) ++ more)) →
    length stack + (1 + depth_of_all (bare y.children)) ≤ 258 → Runs at (within stack) ps (attach (roll-Element (parts y)) stack) more
pieces_run y at [] more stack h deep = absurd (has_piece at (Begin (inside_of stack) y.place y.name y.attributes) ((tags_of_all (bare y.children) (inside_of stack || is_models y.name) ++ Ending (inside_of stack || is_models y.name) y.name ∷ []) ++ more) h)
pieces_run y at (p ∷ ps) more stack h deep =
    let below = inside_of stack || is_models y.name in
    let rest = (tags_of_all (bare y.children) below ++ Ending below y.name ∷ []) ++ more in
    let end = at + length (piece_written p) in
    first_is (inside_of stack) y.place y.name y.attributes rest (at + length p.text) p.mark h.0 h.3
    (λ o is place name attributes more_is.
    start_runs y at p ps more stack o deep is h.2 (sym place) (sym name) (sym attributes) h.1 (subst (HaveTags end ps) (sym more_is) h.4))
    (λ o is place name attributes more_is.
    empty_runs y at p ps more h.0 stack o deep is h.2 (sym place) (sym name) (sym attributes) h.1 more_is h.4)
    (λ is same.
    onward at end (within stack) (attach (roll-Element (parts y)) stack) (p ∷ ps) ps more (run_aside at (within stack) p ps h.1 is)
    (pieces_run y end ps more stack (subst (HaveTags end ps) (sym same) h.4) deep))

whole_runs : (y : Element-F ((e : Element) × Runs_of e)) → Runs_of (roll-Element (parts y))
whole_runs y at ps more stack h deep =
    let x = parts y in
    let tags = subst (λ (z : List Tag). HaveTags at ps (z ++ more)) (tags_of-roll x (inside_of stack)) h in
    let depth : length stack + (1 + depth_of_all (bare y.children)) ≤ 258 = omega (arith, deep, depth_of-roll x) in
    pieces_run y at ps more stack tags depth

-- the tags of every element are run as the element
pub element_runs : (e : Element) → Runs_of e
element_runs = ind-Element Runs_of (λ x y is. subst (λ (z : Element-F Element). Runs_of (roll-Element z)) is (whole_runs y))
