-- Tokens of scripts that lead somewhere begin a script, and those that may end are one.
use Rattle.std.proofs.Common.{◌≡◌, ℕ, ◌<◌, Bool, true, false, List, [], ◌∷◌, ◌++◌, length, map, Option, Some, None, refl, ap, sym, ◌∙◌, subst, arith, append_assoc, append-nil}
use Rattle.std.specs.List.{list_all}
use Rattle.std.proofs.lemmas.List.{length-append}
use Rattle.std.proofs.lemmas.List.Folds.{list_all-append}
use Rattle.spec_script.specs.declared.syntax.BinOp.{BinOp}
use Rattle.spec_script.specs.declared.syntax.Expr.{Expr}
use Rattle.spec_script.specs.declared.syntax.Stmt.{Stmt}
use Rattle.spec_script.specs.declared.syntax.Stmt.TheVariants.{Create, Assign, Change, Plain}
use Rattle.spec_script.specs.declared.token.Token.{Token}
use Rattle.spec_script.specs.declared.token.Token.TheVariants.{Number, Text, Word, Operator, Bang, Tilde, Question, Colon, Open, Close, Semicolon, Creates, Assigns, Changes}
use Rattle.spec_script.specs.declared.stage.Opened.{Opened}
use Rattle.spec_script.specs.declared.stage.Opened.TheVariants.{Paren, Choice, Whole}
use Rattle.spec_script.specs.declared.stage.Stage.{Stage}
use Rattle.spec_script.specs.declared.stage.Stage.TheVariants.{Blank, Start, Named, Before, After}
use Rattle.spec_script.specs.Grammar.{changes, spelled, spelled_stmt, spelled_slot, separated, kept, fits, fits_stmt, IsExpr, IsStmts}
use Rattle.spec_script.specs.Reading.{Begins}
use Rattle.spec_script.specs.Spots.{Spot, change_step, operand_step, stage_step, only_whole, run, may_end, ends_at}
use Rattle.std.specs.Cmp.Derive.{both_true}
use Rattle.spec_script.proofs.Complete

abbrev Slots : Type 0
Slots = List (Option Stmt)

-- a further slot after some
sep-last : (slots : Slots) (x : Option Stmt) → separated (map spelled_slot (slots ++ x ∷ [])) ≡ separated (map spelled_slot (slots ++ None ∷ [])) ++ spelled_slot x
sep-last [] x = refl
sep-last (s ∷ []) x = sym (append_assoc (spelled_slot s) (Semicolon ∷ []) (spelled_slot x))
sep-last (s ∷ t ∷ slots) x =
    ap (λ (ts : List Token). spelled_slot s ++ Semicolon ∷ ts) (sep-last (t ∷ slots) x)
    ∙ sym (append_assoc (spelled_slot s) (Semicolon ∷ separated (map spelled_slot (t ∷ slots ++ None ∷ []))) (spelled_slot x))

-- an empty slot after some
sep-semicolon : (s : Option Stmt) (slots : Slots) → separated (map spelled_slot (s ∷ slots ++ None ∷ [])) ≡ separated (map spelled_slot (s ∷ slots)) ++ Semicolon ∷ []
sep-semicolon s [] = refl
sep-semicolon s (t ∷ slots) =
    ap (λ (ts : List Token). spelled_slot s ++ Semicolon ∷ ts) (sep-semicolon t slots)
    ∙ sym (append_assoc (spelled_slot s) (Semicolon ∷ separated (map spelled_slot (t ∷ slots))) (Semicolon ∷ []))

kept-append : (xs ys : Slots) → kept (xs ++ ys) ≡ kept xs ++ kept ys
kept-append [] ys = refl
kept-append (None ∷ xs) ys = kept-append xs ys
kept-append (Some s ∷ xs) ys = ap (λ (ss : List Stmt). s ∷ ss) (kept-append xs ys)

kept-none : (slots : Slots) → kept (slots ++ None ∷ []) ≡ kept slots
kept-none slots = kept-append slots (None ∷ []) ∙ append-nil (kept slots)

-- statements, each with its semicolon
record Opening (ts : List Token) : Type 0 where
  slots : Slots
  is : ts ≡ separated (map spelled_slot (slots ++ None ∷ []))
  fit : list_all fits_stmt (kept slots) ≡ true

record Later (ts : List Token) : Type 0 where
  opening : Opening ts
  some : 0 < length (kept opening.slots)

record NamedAt (ts : List Token) : Type 0 where
  before : List Token
  name : List ℕ
  is : ts ≡ before ++ Word name ∷ []
  opening : Opening before

-- after a statement's beginning any expression ends a script
head-of : (before head : List Token) → Opening before → (make : Expr → Stmt) →
    ((e : Expr) → spelled_stmt (make e) ≡ head ++ spelled e) → ((e : Expr) → fits e 0 ≡ true → fits_stmt (make e) ≡ true) →
    Complete.Head Slots IsStmts (Unit {0}) (before ++ head)
head-of before head o make spell fit e h =
    let slots = o.slots ++ Some (make e) ∷ [] in
    let ks : kept slots ≡ kept o.slots ++ make e ∷ [] = kept-append o.slots (Some (make e) ∷ []) in
    let written : (before ++ head) ++ spelled e ≡ separated (map spelled_slot slots) =
    append_assoc before head (spelled e) ∙ ap (λ (ts : List Token). before ++ ts) (sym (spell e)) ∙ ap (λ (ts : List Token). ts ++ spelled_stmt (make e)) o.is ∙ sym (sep-last o.slots (Some (make e))) in
    let all : list_all fits_stmt (kept slots) ≡ true =
    ap (λ (ss : List Stmt). list_all fits_stmt ss) ks ∙ list_all-append fits_stmt (kept o.slots) (make e ∷ []) ∙ both_true o.fit (both_true (fit e h) refl) in
    let some : 0 < length (kept slots) = omega (arith, ap (λ (ss : List Stmt). length ss) ks, length-append (kept o.slots) (make e ∷ [])) in
    (slots, record { written = written; fit = all; some = some })

inside-of : (before head : List Token) → Opening before → (make : Expr → Stmt) →
    ((e : Expr) → spelled_stmt (make e) ≡ head ++ spelled e) → ((e : Expr) → fits e 0 ≡ true → fits_stmt (make e) ≡ true) →
    Complete.Inside Slots IsStmts (Unit {0}) [] (before ++ head)
inside-of before head o make spell fit =
    (tt, record { head = before ++ head; tail = []; is = sym (append-nil (before ++ head)); ends = head-of before head o make spell fit; opens = Complete.opens-nil })

-- at the start of a statement an expression may stand
plain-inside : (ts : List Token) → Opening ts → Complete.Inside Slots IsStmts (Unit {0}) [] ts
plain-inside ts o = subst (Complete.Inside Slots IsStmts (Unit {0}) []) (append-nil ts) (inside-of ts [] o Plain (λ e. refl) (λ e h. h))

-- a name at the start of a statement is an operand
named-past : (ts : List Token) → NamedAt ts → Complete.Past Slots IsStmts (Unit {0}) [] ts
named-past ts n = subst (Complete.Past Slots IsStmts (Unit {0}) []) (sym n.is) (Complete.name-past Slots IsStmts (Unit {0}) [] n.before n.name (plain-inside n.before n.opening))

-- a semicolon after whole statements
later-whole : (ts : List Token) (slots : Slots) → IsStmts ts slots → Later (ts ++ Semicolon ∷ [])
later-whole ts [] w = let h = w.some in absurd (omega arith)
later-whole ts (s ∷ slots) w = record {
  opening = record { slots = s ∷ slots; is = ap (λ (us : List Token). us ++ Semicolon ∷ []) w.written ∙ sym (sep-semicolon s slots); fit = w.fit };
  some = w.some;
}

later-of : (ts : List Token) → Complete.Past Slots IsStmts (Unit {0}) [] ts → Later (ts ++ Semicolon ∷ [])
later-of ts p = let w = Complete.past-whole Slots IsStmts (Unit {0}) ts p in later-whole ts w.0 w.1

sep-none : (slots : Slots) → separated (map spelled_slot ((slots ++ None ∷ []) ++ None ∷ [])) ≡ separated (map spelled_slot (slots ++ None ∷ [])) ++ Semicolon ∷ []
sep-none [] = refl
sep-none (s ∷ slots) = sep-semicolon s (slots ++ None ∷ [])

-- a semicolon at the start of a statement
opening-more : (ts : List Token) → Opening ts → Opening (ts ++ Semicolon ∷ [])
opening-more ts o = record {
  slots = o.slots ++ None ∷ [];
  is = ap (λ (us : List Token). us ++ Semicolon ∷ []) o.is ∙ sym (sep-none o.slots);
  fit = ap (λ (ss : List Stmt). list_all fits_stmt ss) (kept-none o.slots) ∙ o.fit;
}

later-more : (ts : List Token) → Later ts → Later (ts ++ Semicolon ∷ [])
unfolding opening-more
later-more ts l = record {
  opening = opening-more ts l.opening;
  some = subst (λ (ss : List Stmt). 0 < length ss) (sym (kept-none l.opening.slots)) l.some;
}

abbrev AtScript : Stage → List Opened → List Token → Type 0
AtScript = Complete.At Slots IsStmts (Unit {0}) Opening Later NamedAt

abbrev MovesScript : Option Spot → List Token → Type 0
MovesScript = Complete.Moves Slots IsStmts (Unit {0}) Opening Later NamedAt

named-at : (ts : List Token) → Opening ts → (name : List ℕ) → NamedAt (ts ++ Word name ∷ [])
named-at ts o name = record { before = ts; name = name; is = refl; opening = o }

-- a token at the start of a statement that is no semicolon
operand-start : (ts : List Token) (t : Token) → Opening ts → MovesScript (operand_step Named [] t) (ts ++ t ∷ [])
operand-start ts t o = Complete.operand-moves Slots IsStmts (Unit {0}) Opening Later NamedAt Named [] ts t (plain-inside ts o) (λ name e. (refl, named-at ts o name))

blank-moves : (ts : List Token) (t : Token) → Opening ts → MovesScript (stage_step Blank [] t) (ts ++ t ∷ [])
blank-moves ts Semicolon o = (refl, opening-more ts o)
blank-moves ts (Number n) o = operand-start ts (Number n) o
blank-moves ts (Text n) o = operand-start ts (Text n) o
blank-moves ts (Word n) o = operand-start ts (Word n) o
blank-moves ts (Operator op) o = operand-start ts (Operator op) o
blank-moves ts Bang o = operand-start ts Bang o
blank-moves ts Tilde o = operand-start ts Tilde o
blank-moves ts Question o = operand-start ts Question o
blank-moves ts Colon o = operand-start ts Colon o
blank-moves ts Open o = operand-start ts Open o
blank-moves ts Close o = operand-start ts Close o
blank-moves ts Creates o = operand-start ts Creates o
blank-moves ts Assigns o = operand-start ts Assigns o
blank-moves ts (Changes op) o = operand-start ts (Changes op) o

start-moves : (ts : List Token) (t : Token) → Later ts → MovesScript (stage_step Start [] t) (ts ++ t ∷ [])
start-moves ts Semicolon l = (refl, later-more ts l)
start-moves ts (Number n) l = operand-start ts (Number n) l.opening
start-moves ts (Text n) l = operand-start ts (Text n) l.opening
start-moves ts (Word n) l = operand-start ts (Word n) l.opening
start-moves ts (Operator op) l = operand-start ts (Operator op) l.opening
start-moves ts Bang l = operand-start ts Bang l.opening
start-moves ts Tilde l = operand-start ts Tilde l.opening
start-moves ts Question l = operand-start ts Question l.opening
start-moves ts Colon l = operand-start ts Colon l.opening
start-moves ts Open l = operand-start ts Open l.opening
start-moves ts Close l = operand-start ts Close l.opening
start-moves ts Creates l = operand-start ts Creates l.opening
start-moves ts Assigns l = operand-start ts Assigns l.opening
start-moves ts (Changes op) l = operand-start ts (Changes op) l.opening

-- a sign after the name with which a statement begins
sign-inside : (ts : List Token) (t : Token) (n : NamedAt ts) (make : Expr → Stmt) →
    ((e : Expr) → spelled_stmt (make e) ≡ Word n.name ∷ t ∷ spelled e) → ((e : Expr) → fits e 0 ≡ true → fits_stmt (make e) ≡ true) →
    Complete.Inside Slots IsStmts (Unit {0}) [] (ts ++ t ∷ [])
sign-inside ts t n make spell fit =
    subst (Complete.Inside Slots IsStmts (Unit {0}) []) (sym (ap (λ (us : List Token). us ++ t ∷ []) n.is ∙ append_assoc n.before (Word n.name ∷ []) (t ∷ [])))
    (inside-of n.before (Word n.name ∷ t ∷ []) n.opening make spell fit)

change-moves : (ts : List Token) (op : BinOp) (b : Bool) → changes op ≡ b → NamedAt ts → MovesScript (change_step b []) (ts ++ Changes op ∷ [])
change-moves ts op true is n = sign-inside ts (Changes op) n (Change op n.name) (λ e. refl) (λ e h. both_true is h)
change-moves ts op false is n = tt

following-script : (os : List Opened) (ts : List Token) (t : Token) → Complete.Past Slots IsStmts (Unit {0}) os ts → MovesScript (stage_step After os t) (ts ++ t ∷ [])
following-script os ts t p = Complete.following-moves Slots IsStmts (Unit {0}) Opening Later NamedAt os ts t later-of p

named-moves : (ts : List Token) (t : Token) → NamedAt ts → MovesScript (stage_step Named [] t) (ts ++ t ∷ [])
named-moves ts Creates n = sign-inside ts Creates n (Create n.name) (λ e. refl) (λ e h. h)
named-moves ts Assigns n = sign-inside ts Assigns n (Assign n.name) (λ e. refl) (λ e h. h)
named-moves ts (Changes op) n = change-moves ts op (changes op) refl n
named-moves ts (Number m) n = following-script [] ts (Number m) (named-past ts n)
named-moves ts (Text m) n = following-script [] ts (Text m) (named-past ts n)
named-moves ts (Word m) n = following-script [] ts (Word m) (named-past ts n)
named-moves ts (Operator op) n = following-script [] ts (Operator op) (named-past ts n)
named-moves ts Bang n = following-script [] ts Bang (named-past ts n)
named-moves ts Tilde n = following-script [] ts Tilde (named-past ts n)
named-moves ts Question n = following-script [] ts Question (named-past ts n)
named-moves ts Colon n = following-script [] ts Colon (named-past ts n)
named-moves ts Open n = following-script [] ts Open (named-past ts n)
named-moves ts Close n = following-script [] ts Close (named-past ts n)
named-moves ts Semicolon n = following-script [] ts Semicolon (named-past ts n)

stage-moves : (stage : Stage) (os : List Opened) (ts : List Token) (t : Token) → AtScript stage os ts → MovesScript (stage_step stage os t) (ts ++ t ∷ [])
stage-moves Blank os ts t a = subst (λ (us : List Opened). MovesScript (stage_step Blank us t) (ts ++ t ∷ [])) (sym a.0) (blank-moves ts t a.1)
stage-moves Start os ts t a = subst (λ (us : List Opened). MovesScript (stage_step Start us t) (ts ++ t ∷ [])) (sym a.0) (start-moves ts t a.1)
stage-moves Named os ts t a = subst (λ (us : List Opened). MovesScript (stage_step Named us t) (ts ++ t ∷ [])) (sym a.0) (named-moves ts t a.1)
stage-moves Before os ts t a = Complete.operand-moves Slots IsStmts (Unit {0}) Opening Later NamedAt After os ts t a (λ name e. Complete.name-past Slots IsStmts (Unit {0}) os ts name a)
stage-moves After os ts t a = following-script os ts t a

at-begins : (stage : Stage) (os : List Opened) (ts : List Token) → AtScript stage os ts → Begins IsStmts ts
at-begins Blank os ts a = Complete.inside-begins Slots IsStmts (Unit {0}) [] ts (plain-inside ts a.1)
at-begins Start os ts a = Complete.inside-begins Slots IsStmts (Unit {0}) [] ts (plain-inside ts a.1.opening)
at-begins Named os ts a = Complete.past-begins Slots IsStmts (Unit {0}) [] ts (named-past ts a.1)
at-begins Before os ts a = Complete.inside-begins Slots IsStmts (Unit {0}) os ts a
at-begins After os ts a = Complete.past-begins Slots IsStmts (Unit {0}) os ts a

later-script : (ts : List Token) → Later ts → (slots : Slots) × IsStmts ts slots
later-script ts l = (
  l.opening.slots ++ None ∷ [],
  record {
    written = l.opening.is;
    fit = ap (λ (ss : List Stmt). list_all fits_stmt ss) (kept-none l.opening.slots) ∙ l.opening.fit;
    some = subst (λ (ss : List Stmt). 0 < length ss) (sym (kept-none l.opening.slots)) l.some;
  },
)

following-whole : (os : List Opened) (ts : List Token) → Complete.Past Slots IsStmts (Unit {0}) os ts → only_whole os ≡ true → (slots : Slots) × IsStmts ts slots
following-whole [] ts p h = Complete.past-whole Slots IsStmts (Unit {0}) ts p
following-whole (Whole ∷ os) ts p h = Complete.alone-whole Slots IsStmts (Unit {0}) os ts p
following-whole (Paren ∷ os) ts p h = absurd (cc)
following-whole (Choice ∷ os) ts p h = absurd (cc)

at-whole : (stage : Stage) (os : List Opened) (ts : List Token) → AtScript stage os ts → ends_at stage os ≡ true → (slots : Slots) × IsStmts ts slots
at-whole Blank os ts a h = absurd (cc)
at-whole Start os ts a h = later-script ts a.1
at-whole Named os ts a h = Complete.past-whole Slots IsStmts (Unit {0}) ts (named-past ts a.1)
at-whole Before os ts a h = absurd (cc)
at-whole After os ts a h = following-whole os ts a h

script-at : (ts : List Token) (spot : Spot) → run ts (Blank, []) ≡ Some spot → AtScript spot.0 spot.1 ts
script-at ts spot led = Complete.led-at Slots IsStmts (Unit {0}) Opening Later NamedAt (λ s us t a. stage-moves s.0 s.1 us t a) (Blank, []) spot ts (refl, record { slots = []; is = refl; fit = refl }) led

-- tokens that lead somewhere begin a script
pub script-begins : (ts : List Token) (spot : Spot) → run ts (Blank, []) ≡ Some spot → Begins IsStmts ts
script-begins ts spot led = at-begins spot.0 spot.1 ts (script-at ts spot led)

-- tokens that lead to where a text may end are a script
pub script-whole : (ts : List Token) (spot : Spot) → run ts (Blank, []) ≡ Some spot → may_end spot ≡ true → (slots : Slots) × IsStmts ts slots
script-whole ts spot led end = at-whole spot.0 spot.1 ts (script-at ts spot led) end

-- What tokens of an expression alone are that lead to a spot.
abbrev AtExpr : Stage → List Opened → List Token → Type 0
AtExpr = Complete.At Expr IsExpr ⊥ (λ ts. ⊥) (λ ts. ⊥) (λ ts. ⊥)

abbrev MovesExpr : Option Spot → List Token → Type 0
MovesExpr = Complete.Moves Expr IsExpr ⊥ (λ ts. ⊥) (λ ts. ⊥) (λ ts. ⊥)

expr-moves : (stage : Stage) (os : List Opened) (ts : List Token) (t : Token) → AtExpr stage os ts → MovesExpr (stage_step stage os t) (ts ++ t ∷ [])
expr-moves Blank os ts t a = absurd a.1
expr-moves Start os ts t a = absurd a.1
expr-moves Named os ts t a = absurd a.1
expr-moves Before os ts t a = Complete.operand-moves Expr IsExpr ⊥ (λ us. ⊥) (λ us. ⊥) (λ us. ⊥) After os ts t a (λ name e. Complete.name-past Expr IsExpr ⊥ os ts name a)
expr-moves After os ts t a = Complete.following-moves Expr IsExpr ⊥ (λ us. ⊥) (λ us. ⊥) (λ us. ⊥) os ts t (λ us p. p.inner.0) a

expr-at : (ts : List Token) (spot : Spot) → run ts (Before, Whole ∷ []) ≡ Some spot → AtExpr spot.0 spot.1 ts
expr-at ts spot led =
    let base : Complete.Base Expr IsExpr ⊥ [] = record { head = []; tail = []; is = refl; ends = λ e h. (e, record { written = refl; fit = h }); opens = Complete.opens-nil } in
    Complete.led-at Expr IsExpr ⊥ (λ us. ⊥) (λ us. ⊥) (λ us. ⊥) (λ s us t a. expr-moves s.0 s.1 us t a) (Before, Whole ∷ []) spot ts base led

expr-begins-at : (stage : Stage) (os : List Opened) (ts : List Token) → AtExpr stage os ts → Begins IsExpr ts
expr-begins-at Blank os ts a = absurd a.1
expr-begins-at Start os ts a = absurd a.1
expr-begins-at Named os ts a = absurd a.1
expr-begins-at Before os ts a = Complete.inside-begins Expr IsExpr ⊥ os ts a
expr-begins-at After os ts a = Complete.past-begins Expr IsExpr ⊥ os ts a

expr-following : (os : List Opened) (ts : List Token) → Complete.Past Expr IsExpr ⊥ os ts → only_whole os ≡ true → (e : Expr) × IsExpr ts e
expr-following [] ts p h = Complete.past-whole Expr IsExpr ⊥ ts p
expr-following (Whole ∷ os) ts p h = Complete.alone-whole Expr IsExpr ⊥ os ts p
expr-following (Paren ∷ os) ts p h = absurd (cc)
expr-following (Choice ∷ os) ts p h = absurd (cc)

expr-whole-at : (stage : Stage) (os : List Opened) (ts : List Token) → AtExpr stage os ts → ends_at stage os ≡ true → (e : Expr) × IsExpr ts e
expr-whole-at Blank os ts a h = absurd a.1
expr-whole-at Start os ts a h = absurd a.1
expr-whole-at Named os ts a h = absurd a.1
expr-whole-at Before os ts a h = absurd (cc)
expr-whole-at After os ts a h = expr-following os ts a h

-- tokens that lead somewhere begin an expression
pub expr-begins : (ts : List Token) (spot : Spot) → run ts (Before, Whole ∷ []) ≡ Some spot → Begins IsExpr ts
expr-begins ts spot led = expr-begins-at spot.0 spot.1 ts (expr-at ts spot led)

-- tokens that lead to where a text may end are an expression
pub expr-whole : (ts : List Token) (spot : Spot) → run ts (Before, Whole ∷ []) ≡ Some spot → may_end spot ≡ true → (e : Expr) × IsExpr ts e
expr-whole ts spot led end = expr-whole-at spot.0 spot.1 ts (expr-at ts spot led) end
