-- What is written by the grammar leads to an end.
use Rattle.std.proofs.Common.{◌≡◌, ℕ, ◌<◌, ◌≤◌, ◌+◌, Bool, true, false, List, [], ◌∷◌, ◌++◌, length, map, reverse, take, drop, get_or, Option, Some, None, refl, ap, sym, ◌∙◌, arith, append_assoc, append-nil}
use Rattle.std.specs.List.{list_all}
use Rattle.std.proofs.lemmas.List.{reverse-append, map-append, drop_more, take_more, take-append-drop, length-reverse}
use Rattle.spec_script.specs.declared.syntax.UnOp.TheVariants.{Neg, Not, Flip}
use Rattle.spec_script.specs.declared.syntax.Expr.{Expr, Expr-F, roll-Expr, map-Expr}
use Rattle.spec_script.specs.declared.syntax.Expr.TheOpen.{Num, Lit, Look, Group, Unary, Binary, Choose}
use Rattle.spec_script.specs.declared.syntax.Stmt.{Stmt}
use Rattle.spec_script.specs.declared.syntax.Stmt.TheVariants.{Create, Assign, Change, Plain}
use Rattle.spec_script.specs.declared.token.Token.{Token}
use Rattle.spec_script.specs.declared.token.Token.TheVariants.{Number, Text, Word, Operator, Bang, Tilde, Question, Colon, Open, Close, Semicolon, Creates, Assigns, Changes}
use Rattle.spec_script.specs.declared.token.Placed.{Placed}
use Rattle.spec_script.specs.declared.stage.Opened.{Opened}
use Rattle.spec_script.specs.declared.stage.Opened.TheVariants.{Paren, Choice, Whole}
use Rattle.spec_script.specs.declared.stage.Stage.{Stage}
use Rattle.spec_script.specs.declared.stage.Stage.TheVariants.{Blank, Start, Named, Before, After}
use Rattle.spec_script.specs.Grammar.{changes, spelled, spelled_stmt, spelled_slot, separated, kept, fits, fits_stmt, IsExpr, IsStmts}
use Rattle.spec_script.specs.Reading.{bare, Begins}
use Rattle.spec_script.specs.Spots.{Spot, LeadsNowhere, step, start_step, closing_step, change_step, then_spot, run, may_end, ends_at, only_whole, nothing_open}
use Rattle.spec_script.proofs.Bools.{both}
use Rattle.spec_script.proofs.Trees.{induct, spelled_is}

closing-same : (x : Opened) (stage : Stage) (opened : List Opened) → closing_step x stage (x ∷ opened) ≡ Some (stage, opened)
closing-same Paren stage opened = refl
closing-same Choice stage opened = refl
closing-same Whole stage opened = refl

-- what is innermost is closed
pub closes : (old new : List Opened) (wanted x : Opened) (stage : Stage) → old ≡ new ++ x ∷ [] → x ≡ wanted → Some (stage, reverse new) ≡ closing_step wanted stage (reverse old)
closes old new wanted x stage is same =
    sym (ap (λ (os : List Opened). closing_step wanted stage (reverse os)) is ∙ ap (closing_step wanted stage) (reverse-append new (x ∷ []))
    ∙ ap (λ (y : Opened). closing_step wanted stage (y ∷ reverse new)) same ∙ closing-same wanted stage (reverse new))

then-assoc : (o : Option Spot) (f g : Spot → Option Spot) → then_spot o (λ s. then_spot (f s) g) ≡ then_spot (then_spot o f) g
then-assoc None f g = refl
then-assoc (Some s) f g = refl

then-same : (o : Option Spot) (f g : Spot → Option Spot) → ((s : Spot) → f s ≡ g s) → then_spot o f ≡ then_spot o g
then-same None f g h = refl
then-same (Some s) f g h = h s

-- tokens that follow others lead on from where those lead
pub run-append : (ts us : List Token) (s : Spot) → run (ts ++ us) s ≡ then_spot (run ts s) (run us)
run-append [] us s = refl
run-append (t ∷ ts) us s =
    then-same (step s t) (run (ts ++ us)) (λ q. then_spot (run ts q) (run us)) (run-append ts us) ∙ then-assoc (step s t) (run ts) (run us)

-- one more token
pub run-push : (ts : List Token) (t : Token) (s at next : Spot) → run ts s ≡ Some at → step at t ≡ Some next → run (ts ++ t ∷ []) s ≡ Some next
run-push ts t s at next led is =
    run-append ts (t ∷ []) s ∙ ap (λ (o : Option Spot). then_spot o (run (t ∷ []))) led ∙ ap (λ (o : Option Spot). then_spot o (run [])) is

-- an expression leads from before an operand to after one
abbrev Runs : Expr → Type 0
Runs e = (opened : List Opened) (rest : List Token) → run (spelled e ++ rest) (Before, opened) ≡ run rest (After, opened)

runs_at : (y : Expr-F ((e : Expr) × Runs e)) → Runs (roll-Expr (map-Expr ((e : Expr) × Runs e) Expr (λ e. e.0) y))
runs_at (Num n) opened rest = ap (λ (ts : List Token). run (ts ++ rest) (Before, opened)) (spelled_is (Num n))
runs_at (Lit t) opened rest = ap (λ (ts : List Token). run (ts ++ rest) (Before, opened)) (spelled_is (Lit t))
runs_at (Look name) opened rest = ap (λ (ts : List Token). run (ts ++ rest) (Before, opened)) (spelled_is (Look name))
runs_at (Group a) opened rest =
    ap (λ (ts : List Token). run (ts ++ rest) (Before, opened)) (spelled_is (Group a.0))
    ∙ ap (λ (ts : List Token). run ts (Before, Paren ∷ opened)) (append_assoc (spelled a.0) (Close ∷ []) rest)
    ∙ a.1 (Paren ∷ opened) (Close ∷ rest)
runs_at (Unary Neg a) opened rest = ap (λ (ts : List Token). run (ts ++ rest) (Before, opened)) (spelled_is (Unary Neg a.0)) ∙ a.1 opened rest
runs_at (Unary Not a) opened rest = ap (λ (ts : List Token). run (ts ++ rest) (Before, opened)) (spelled_is (Unary Not a.0)) ∙ a.1 opened rest
runs_at (Unary Flip a) opened rest = ap (λ (ts : List Token). run (ts ++ rest) (Before, opened)) (spelled_is (Unary Flip a.0)) ∙ a.1 opened rest
runs_at (Binary op a b) opened rest =
    ap (λ (ts : List Token). run (ts ++ rest) (Before, opened)) (spelled_is (Binary op a.0 b.0))
    ∙ ap (λ (ts : List Token). run ts (Before, opened)) (append_assoc (spelled a.0) (Operator op ∷ spelled b.0) rest)
    ∙ a.1 opened (Operator op ∷ (spelled b.0 ++ rest)) ∙ b.1 opened rest
runs_at (Choose a b c) opened rest =
    ap (λ (ts : List Token). run (ts ++ rest) (Before, opened)) (spelled_is (Choose a.0 b.0 c.0))
    ∙ ap (λ (ts : List Token). run ts (Before, opened)) (append_assoc (spelled a.0) (Question ∷ (spelled b.0 ++ Colon ∷ spelled c.0)) rest)
    ∙ a.1 opened (Question ∷ ((spelled b.0 ++ Colon ∷ spelled c.0) ++ rest))
    ∙ ap (λ (ts : List Token). run ts (Before, Choice ∷ opened)) (append_assoc (spelled b.0) (Colon ∷ spelled c.0) rest)
    ∙ b.1 (Choice ∷ opened) (Colon ∷ (spelled c.0 ++ rest)) ∙ c.1 opened rest

pub runs : (e : Expr) → Runs e
runs = induct Runs runs_at

-- whether tokens lead to an end
abbrev pub fine : Option Spot → Bool
fine None = false
fine (Some s) = may_end s

named-more : (ts : List Token) → fine (run ts (After, [])) ≡ true → fine (run ts (Named, [])) ≡ true
named-more [] h = refl
named-more (Number n ∷ ts) h = h
named-more (Text t ∷ ts) h = h
named-more (Word n ∷ ts) h = h
named-more (Operator op ∷ ts) h = h
named-more (Bang ∷ ts) h = h
named-more (Tilde ∷ ts) h = h
named-more (Question ∷ ts) h = h
named-more (Colon ∷ ts) h = h
named-more (Open ∷ ts) h = h
named-more (Close ∷ ts) h = h
named-more (Semicolon ∷ ts) h = h
named-more (Creates ∷ ts) h = absurd (cc)
named-more (Assigns ∷ ts) h = absurd (cc)
named-more (Changes op ∷ ts) h = absurd (cc)

-- where tokens lead from the start of a statement
abbrev from_start : Stage → List Token → Option Spot
from_start stage [] = Some (stage, [])
from_start stage (t ∷ ts) = then_spot (start_step stage [] t) (run ts)

from_start-Start : (ts : List Token) → run ts (Start, []) ≡ from_start Start ts
from_start-Start [] = refl
from_start-Start (t ∷ ts) = refl

from_start-Blank : (ts : List Token) → run ts (Blank, []) ≡ from_start Blank ts
from_start-Blank [] = refl
from_start-Blank (t ∷ ts) = refl

start-more : (stage : Stage) (ts : List Token) → fine (run ts (Before, [])) ≡ true → fine (from_start stage ts) ≡ true
start-more stage [] h = absurd (cc)
start-more stage (Number n ∷ ts) h = h
start-more stage (Text t ∷ ts) h = h
start-more stage (Word n ∷ ts) h = named-more ts h
start-more stage (Operator op ∷ ts) h = h
start-more stage (Bang ∷ ts) h = h
start-more stage (Tilde ∷ ts) h = h
start-more stage (Question ∷ ts) h = h
start-more stage (Colon ∷ ts) h = h
start-more stage (Open ∷ ts) h = h
start-more stage (Close ∷ ts) h = h
start-more stage (Semicolon ∷ ts) h = absurd (cc)
start-more stage (Creates ∷ ts) h = h
start-more stage (Assigns ∷ ts) h = h
start-more stage (Changes op ∷ ts) h = h

expr-fine : (e : Expr) (rest : List Token) → fine (run rest (After, [])) ≡ true → fine (run (spelled e ++ rest) (Before, [])) ≡ true
expr-fine e rest h = ap fine (runs e [] rest) ∙ h

change-fine : (b : Bool) (ts : List Token) → b ≡ true → fine (run ts (Before, [])) ≡ true → fine (then_spot (change_step b []) (run ts)) ≡ true
change-fine true ts h k = k
change-fine false ts h k = absurd (cc)

stmt-fine : (stage : Stage) (s : Stmt) (rest : List Token) → fits_stmt s ≡ true → fine (run rest (After, [])) ≡ true → fine (from_start stage (spelled_stmt s ++ rest)) ≡ true
stmt-fine stage (Create name e) rest fit h = expr-fine e rest h
stmt-fine stage (Assign name e) rest fit h = expr-fine e rest h
stmt-fine stage (Change op name e) rest fit h = change-fine (changes op) (spelled e ++ rest) (both (changes op) (fits e 0) fit).0 (expr-fine e rest h)
stmt-fine stage (Plain e) rest fit h = start-more stage (spelled e ++ rest) (expr-fine e rest h)

start-fine : (s : Stmt) (rest : List Token) → fits_stmt s ≡ true → fine (run rest (After, [])) ≡ true → fine (run (spelled_stmt s ++ rest) (Start, [])) ≡ true
start-fine s rest fit h = ap fine (from_start-Start (spelled_stmt s ++ rest)) ∙ stmt-fine Start s rest fit h

blank-fine : (s : Stmt) (rest : List Token) → fits_stmt s ≡ true → fine (run rest (After, [])) ≡ true → fine (run (spelled_stmt s ++ rest) (Blank, [])) ≡ true
blank-fine s rest fit h = ap fine (from_start-Blank (spelled_stmt s ++ rest)) ∙ stmt-fine Blank s rest fit h

no-rest : (ts : List Token) (s : Spot) → fine (run (ts ++ []) s) ≡ true → fine (run ts s) ≡ true
no-rest ts s h = ap (λ (us : List Token). fine (run us s)) (sym (append-nil ts)) ∙ h

-- statements lead to an end, also where all are empty
later-fine : (slots : List (Option Stmt)) → list_all fits_stmt (kept slots) ≡ true → fine (run (separated (map spelled_slot slots)) (Start, [])) ≡ true
later-fine [] fit = refl
later-fine (None ∷ []) fit = refl
later-fine (None ∷ slot ∷ slots) fit = later-fine (slot ∷ slots) fit
later-fine (Some s ∷ []) fit = no-rest (spelled_stmt s) (Start, []) (start-fine s [] (both (fits_stmt s) true fit).0 refl)
later-fine (Some s ∷ slot ∷ slots) fit =
    let p = both (fits_stmt s) (list_all fits_stmt (kept (slot ∷ slots))) fit in
    start-fine s (Semicolon ∷ separated (map spelled_slot (slot ∷ slots))) p.0 (later-fine (slot ∷ slots) p.1)

script-fine : (slots : List (Option Stmt)) → list_all fits_stmt (kept slots) ≡ true → 0 < length (kept slots) → fine (run (separated (map spelled_slot slots)) (Blank, [])) ≡ true
script-fine [] fit some = absurd (omega arith)
script-fine (None ∷ []) fit some = absurd (omega arith)
script-fine (None ∷ slot ∷ slots) fit some = script-fine (slot ∷ slots) fit some
script-fine (Some s ∷ []) fit some = no-rest (spelled_stmt s) (Blank, []) (blank-fine s [] (both (fits_stmt s) true fit).0 refl)
script-fine (Some s ∷ slot ∷ slots) fit some =
    let p = both (fits_stmt s) (list_all fits_stmt (kept (slot ∷ slots))) fit in
    blank-fine s (Semicolon ∷ separated (map spelled_slot (slot ∷ slots))) p.0 (later-fine (slot ∷ slots) p.1)

-- a script leads to an end
pub stmts-fine : (ts : List Token) (slots : List (Option Stmt)) → IsStmts ts slots → fine (run ts (Blank, [])) ≡ true
stmts-fine ts slots is = ap (λ (us : List Token). fine (run us (Blank, []))) is.written ∙ script-fine slots is.fit is.some

-- an expression alone leads to an end
pub alone-fine : (ts : List Token) (e : Expr) → IsExpr ts e → fine (run ts (Before, Whole ∷ [])) ≡ true
alone-fine ts e is = ap (λ (us : List Token). fine (run us (Before, Whole ∷ []))) (is.written ∙ sym (append-nil (spelled e))) ∙ ap fine (runs e (Whole ∷ []) [])

-- with a token that leads nowhere nothing begins
pub nothing-begins : {X : Type 0} (Is : List Token → X → Type 0) (start spot : Spot) (front : List Token) (t : Token) →
    ((ts : List Token) (x : X) → Is ts x → fine (run ts start) ≡ true) →
    run front start ≡ Some spot → step spot t ≡ None → Begins Is (front ++ t ∷ []) → ⊥
nothing-begins Is start spot front t all led stuck b =
    let one : run (front ++ t ∷ []) start ≡ None = run-append front (t ∷ []) start ∙ ap (λ (o : Option Spot). then_spot o (run (t ∷ []))) led ∙ ap (λ (o : Option Spot). then_spot o (run [])) stuck in
    let whole : run ((front ++ t ∷ []) ++ b.following) start ≡ None = run-append (front ++ t ∷ []) b.following start ∙ ap (λ (o : Option Spot). then_spot o (run b.following)) one in
    let e : false ≡ true = ap fine (sym whole) ∙ all ((front ++ t ∷ []) ++ b.following) b.whole b.is in
    cc

placed-at : (ts : List Placed) (i : ℕ) (p : Placed) → i < length ts → p ≡ get_or ts i p → drop i ts ≡ p ∷ drop (i + 1) ts
placed-at ts i p within is = drop_more ts i p within ∙ ap (λ (q : Placed). q ∷ drop (i + 1) ts) (sym is)

-- the spot after one more token
pub run-next : (ts : List Placed) (i : ℕ) (p : Placed) (start at next : Spot) → i < length ts → p ≡ get_or ts i p →
    run (bare (take i ts)) start ≡ Some at → step at p.token ≡ Some next → run (bare (take (i + 1) ts)) start ≡ Some next
run-next ts i p start at next within is led go =
    let e : bare (take (i + 1) ts) ≡ bare (take i ts) ++ p.token ∷ [] =
    ap bare (take_more ts i p within ∙ ap (λ (q : Placed). take i ts ++ q ∷ []) (sym is)) ∙ map-append (λ (q : Placed). q.token) (take i ts) (p ∷ []) in
    ap (λ (us : List Token). run us start) e ∙ run-push (bare (take i ts)) p.token start at next led go

-- the first token that leads nowhere
pub stuck-at : (ts : List Placed) (i : ℕ) (p : Placed) (start at : Spot) → i < length ts → p ≡ get_or ts i p →
    run (bare (take i ts)) start ≡ Some at → step at p.token ≡ None → LeadsNowhere start ts p.place
stuck-at ts i p start at within is led stop = record {
  front = take i ts;
  token = p.token;
  rest = drop (i + 1) ts;
  spot = at;
  at = sym (take-append-drop i ts) ∙ ap (λ (us : List Placed). take i ts ++ us) (placed-at ts i p within is);
  led = led;
  stuck = stop;
}

long-only : (os : List Opened) → 2 ≤ length os → only_whole os ≡ false
long-only [] h = absurd (omega arith)
long-only (x ∷ []) h = absurd (omega arith)
long-only (Paren ∷ y ∷ os) h = refl
long-only (Choice ∷ y ∷ os) h = refl
long-only (Whole ∷ y ∷ os) h = refl

long-nothing : (os : List Opened) → 2 ≤ length os → nothing_open os ≡ false
long-nothing [] h = absurd (omega arith)
long-nothing (x ∷ os) h = refl

only-reverse : (os : List Opened) → only_whole (reverse os) ≡ only_whole os
only-reverse [] = refl
only-reverse (x ∷ []) = refl
only-reverse (x ∷ y ∷ os) =
    let two : 2 ≤ length (x ∷ y ∷ os) = omega arith in
    let far : 2 ≤ length (reverse (x ∷ y ∷ os)) = omega (arith, length-reverse (x ∷ y ∷ os)) in
    long-only (reverse (x ∷ y ∷ os)) far ∙ sym (long-only (x ∷ y ∷ os) two)

nothing-reverse : (os : List Opened) → nothing_open (reverse os) ≡ nothing_open os
nothing-reverse [] = refl
nothing-reverse (x ∷ []) = refl
nothing-reverse (x ∷ y ∷ os) =
    let far : 2 ≤ length (reverse (x ∷ y ∷ os)) = omega (arith, length-reverse (x ∷ y ∷ os)) in
    long-nothing (reverse (x ∷ y ∷ os)) far

-- the order of what is open says nothing of an end
pub ends-reverse : (stage : Stage) (os : List Opened) → ends_at stage (reverse os) ≡ ends_at stage os
ends-reverse Blank os = refl
ends-reverse Start os = nothing-reverse os
ends-reverse Named os = nothing-reverse os
ends-reverse Before os = refl
ends-reverse After os = only-reverse os
