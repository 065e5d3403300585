-- Statements are written with tokens of their own.
use Rattle.std.proofs.Common.{◌≡◌, ℕ, zero, suc, ◌<◌, ◌≤◌, Bool, true, ◌&&◌, cond, List, [], ◌∷◌, ◌++◌, map, Option, Some, None, refl, ap, sym, ◌∙◌, subst, arith, append-nil, ◌⊎◌, inl, inr}
use Rattle.std.specs.List.{list_all}
use Rattle.spec_script.specs.declared.syntax.BinOp.{BinOp}
use Rattle.spec_script.specs.declared.syntax.Expr.{Expr, roll-Expr}
use Rattle.spec_script.specs.declared.syntax.Expr.TheOpen.{Look}
use Rattle.spec_script.specs.declared.syntax.Stmt.{Stmt}
use Rattle.spec_script.specs.declared.syntax.Stmt.TheVariants.{Create, Assign, Change, Plain}
use Rattle.spec_script.specs.declared.token.Token.{Token}
use Rattle.spec_script.specs.declared.token.Token.TheVariants.{Number, Text, Word, Operator, Bang, Tilde, Question, Colon, Open, Close, Semicolon, Creates, Assigns, Changes}
use Rattle.spec_script.specs.Grammar.{changes, spelled, spelled_stmt, spelled_slot, separated, kept, fits, fits_stmt, height, IsStmts}
use Rattle.script_reader.specs.Climb.{Found, climb}
use Rattle.spec_script.proofs.Bools.{both}
use Rattle.script_reader.proofs.Climbing.{Stops, finds, finds-alone, height_some, more-stops, found-same}
use Rattle.spec_script.proofs.Levels.{le-yes}

-- what may follow a statement
abbrev pub Rests : List Token → Type 0
Rests [] = Unit {0}
Rests (Semicolon ∷ ts) = Unit {0}
Rests (t ∷ ts) = ⊥

rests-are : (ts : List Token) → Rests ts → (ts ≡ []) ⊎ ((us : List Token) × (ts ≡ Semicolon ∷ us))
rests-are [] h = inl refl
rests-are (Number n ∷ ts) h = absurd h
rests-are (Text t ∷ ts) h = absurd h
rests-are (Word n ∷ ts) h = absurd h
rests-are (Operator op ∷ ts) h = absurd h
rests-are (Bang ∷ ts) h = absurd h
rests-are (Tilde ∷ ts) h = absurd h
rests-are (Question ∷ ts) h = absurd h
rests-are (Colon ∷ ts) h = absurd h
rests-are (Open ∷ ts) h = absurd h
rests-are (Close ∷ ts) h = absurd h
rests-are (Semicolon ∷ ts) h = inr (ts, refl)
rests-are (Creates ∷ ts) h = absurd h
rests-are (Assigns ∷ ts) h = absurd h
rests-are (Changes op ∷ ts) h = absurd h

pub stops-from_rests : (ts : List Token) → Rests ts → Stops 0 ts
stops-from_rests ts h =
    elim (rests-are ts h) [
      | inl none ↦ subst (Stops 0) (sym none) tt
      | inr some ↦ subst (Stops 0) (sym some.1) tt
    ]

-- an expression is found, however high it is
found-whole : (e : Expr) (rest : List Token) → fits e 0 ≡ true → Rests rest → climb (height e) 0 (spelled e ++ rest) ≡ Some (e, rest)
found-whole e rest fit r =
    let le : height e ≤ height e = omega arith in
    finds e (height e) 0 rest fit (stops-from_rests rest r) ∙ ap (λ (b : Bool). cond b (Some (e, rest)) None) (le-yes (height e) (height e) le)

-- a name is found alone before a sign that takes in no expression
word-alone : (limit : ℕ) (name : List ℕ) (ts : List Token) → 0 < limit → Stops 0 ts → climb limit 0 (Word name ∷ ts) ≡ Some (roll-Expr (Look name), ts)
word-alone zero name ts some stop = absurd (omega arith)
word-alone (suc left) name ts some stop = more-stops (climb left) left left 0 (roll-Expr (Look name)) ts stop

same-rest : {X : Type 0} (a b : X) (us vs : List Token) → ◌≡◌ {A = Option (X × List Token)} (Some (a, us)) (Some (b, vs)) → us ≡ vs
same-rest {X} a b us vs h = ap (λ (p : X × List Token). p.1) (found-same {X = X × List Token} (a, us) (b, vs) h)

-- no expression is written with a name and the sign of an assignment
pub expr-not_sign : (e : Expr) (rest : List Token) (name : List ℕ) (t : Token) (ts : List Token) →
    fits e 0 ≡ true → Rests rest → (Rests (t ∷ ts) → ⊥) → Stops 0 (t ∷ ts) → spelled e ++ rest ≡ Word name ∷ t ∷ ts → ⊥
expr-not_sign e rest name t ts fit r not_end stop same =
    let h = sym (found-whole e rest fit r) ∙ ap (λ (us : List Token). climb (height e) 0 us) same ∙ word-alone (height e) name (t ∷ ts) (height_some e) stop in
    not_end (subst Rests (same-rest e (roll-Expr (Look name)) rest (t ∷ ts) h) r)

not-found : (limit : ℕ) (ts : List Token) → Rests ts → climb limit 0 ts ≡ None
not-found zero ts r = refl
not-found (suc left) ts r =
    elim (rests-are ts r) [
      | inl none ↦ ap (climb (suc left) 0) none
      | inr some ↦ ap (climb (suc left) 0) some.1
    ]

word-not_rest : (ts us : List Token) (name : List ℕ) → Rests ts → ts ≡ Word name ∷ us → ⊥
word-not_rest ts us name r same = subst Rests same r

none-some : {X : Type 0} (o : Option X) (x : X) → o ≡ None → o ≡ Some x → ⊥
none-some o x h k = cc

-- a statement is not nothing
pub stmt-not_rest : (s : Stmt) (rest ts : List Token) → fits_stmt s ≡ true → Rests rest → Rests ts → ts ≡ spelled_stmt s ++ rest → ⊥
stmt-not_rest (Create name e) rest ts fit r h same = word-not_rest ts (Creates ∷ (spelled e ++ rest)) name h same
stmt-not_rest (Assign name e) rest ts fit r h same = word-not_rest ts (Assigns ∷ (spelled e ++ rest)) name h same
stmt-not_rest (Change op name e) rest ts fit r h same = word-not_rest ts (Changes op ∷ (spelled e ++ rest)) name h same
stmt-not_rest (Plain e) rest ts fit r h same =
    none-some {X = Found} (climb (height e) 0 ts) (e, rest) (not-found (height e) ts h) (ap (λ (us : List Token). climb (height e) 0 us) same ∙ found-whole e rest fit r)

heads : (name other : List ℕ) (t u : Token) (ts us : List Token) → Word name ∷ t ∷ ts ≡ Word other ∷ u ∷ us → (name ≡ other) × (t ≡ u) × (ts ≡ us)
heads name other t u ts us h = (cc, cc, cc)

assigned : (e f : Expr) (rest more_rest : List Token) → fits e 0 ≡ true → fits f 0 ≡ true → Rests rest → Rests more_rest →
    spelled e ++ rest ≡ spelled f ++ more_rest → (e ≡ f) × (rest ≡ more_rest)
assigned e f rest more_rest fit_e fit_f r q same = finds-alone e f rest more_rest fit_e fit_f (stops-from_rests rest r) (stops-from_rests more_rest q) same

sign-parts : (op : BinOp) (e : Expr) → (changes op && fits e 0) ≡ true → fits e 0 ≡ true
sign-parts op e h = (both (changes op) (fits e 0) h).1

-- a statement with its end has tokens of its own
pub stmt-alone : (s t : Stmt) (rest more_rest : List Token) → fits_stmt s ≡ true → fits_stmt t ≡ true → Rests rest → Rests more_rest →
    spelled_stmt s ++ rest ≡ spelled_stmt t ++ more_rest → (s ≡ t) × (rest ≡ more_rest)
stmt-alone (Create n e) (Create m f) rest more_rest p q r k same =
    let h = heads n m Creates Creates (spelled e ++ rest) (spelled f ++ more_rest) same in
    let i = assigned e f rest more_rest p q r k h.2 in (λ j. Create (h.0 j) (i.0 j), i.1)
stmt-alone (Create n e) (Assign m f) rest more_rest p q r k same = absurd (cc ((heads n m Creates Assigns (spelled e ++ rest) (spelled f ++ more_rest) same).1))
stmt-alone (Create n e) (Change op m f) rest more_rest p q r k same = absurd (cc ((heads n m Creates (Changes op) (spelled e ++ rest) (spelled f ++ more_rest) same).1))
stmt-alone (Create n e) (Plain f) rest more_rest p q r k same = absurd (expr-not_sign f more_rest n Creates (spelled e ++ rest) q k (λ x. x) tt (sym same))
stmt-alone (Assign n e) (Create m f) rest more_rest p q r k same = absurd (cc ((heads n m Assigns Creates (spelled e ++ rest) (spelled f ++ more_rest) same).1))
stmt-alone (Assign n e) (Assign m f) rest more_rest p q r k same =
    let h = heads n m Assigns Assigns (spelled e ++ rest) (spelled f ++ more_rest) same in
    let i = assigned e f rest more_rest p q r k h.2 in (λ j. Assign (h.0 j) (i.0 j), i.1)
stmt-alone (Assign n e) (Change op m f) rest more_rest p q r k same = absurd (cc ((heads n m Assigns (Changes op) (spelled e ++ rest) (spelled f ++ more_rest) same).1))
stmt-alone (Assign n e) (Plain f) rest more_rest p q r k same = absurd (expr-not_sign f more_rest n Assigns (spelled e ++ rest) q k (λ x. x) tt (sym same))
stmt-alone (Change op n e) (Create m f) rest more_rest p q r k same = absurd (cc ((heads n m (Changes op) Creates (spelled e ++ rest) (spelled f ++ more_rest) same).1))
stmt-alone (Change op n e) (Assign m f) rest more_rest p q r k same = absurd (cc ((heads n m (Changes op) Assigns (spelled e ++ rest) (spelled f ++ more_rest) same).1))
stmt-alone (Change op n e) (Change sign m f) rest more_rest p q r k same =
    let h = heads n m (Changes op) (Changes sign) (spelled e ++ rest) (spelled f ++ more_rest) same in
    let i = assigned e f rest more_rest (sign-parts op e p) (sign-parts sign f q) r k h.2 in
    let o : op ≡ sign = cc in (λ j. Change (o j) (h.0 j) (i.0 j), i.1)
stmt-alone (Change op n e) (Plain f) rest more_rest p q r k same = absurd (expr-not_sign f more_rest n (Changes op) (spelled e ++ rest) q k (λ x. x) tt (sym same))
stmt-alone (Plain e) (Create m f) rest more_rest p q r k same = absurd (expr-not_sign e rest m Creates (spelled f ++ more_rest) p r (λ x. x) tt same)
stmt-alone (Plain e) (Assign m f) rest more_rest p q r k same = absurd (expr-not_sign e rest m Assigns (spelled f ++ more_rest) p r (λ x. x) tt same)
stmt-alone (Plain e) (Change op m f) rest more_rest p q r k same = absurd (expr-not_sign e rest m (Changes op) (spelled f ++ more_rest) p r (λ x. x) tt same)
stmt-alone (Plain e) (Plain f) rest more_rest p q r k same =
    let i = assigned e f rest more_rest p q r k same in (λ j. Plain (i.0 j), i.1)

-- what follows the first of some statements
abbrev pub rest_of : List (Option Stmt) → List Token
rest_of [] = []
rest_of (x ∷ xs) = Semicolon ∷ separated (map spelled_slot (x ∷ xs))

pub rests-rest_of : (xs : List (Option Stmt)) → Rests (rest_of xs)
rests-rest_of [] = tt
rests-rest_of (x ∷ xs) = tt

pub separated-first : (x : Option Stmt) (xs : List (Option Stmt)) → separated (map spelled_slot (x ∷ xs)) ≡ spelled_slot x ++ rest_of xs
separated-first x [] = sym (append-nil (spelled_slot x))
separated-first x (y ∷ ys) = refl

abbrev Fit : List (Option Stmt) → Type 0
Fit xs = list_all fits_stmt (kept xs) ≡ true

pub fit-first : (s : Stmt) (xs : List (Option Stmt)) → Fit (Some s ∷ xs) → (fits_stmt s ≡ true) × Fit xs
fit-first s xs h = both (fits_stmt s) (list_all fits_stmt (kept xs)) h

pub tails : (t u : Token) (ts us : List Token) → t ∷ ts ≡ u ∷ us → ts ≡ us
tails t u ts us h = cc

-- the first of some statements, and those after it
slot-alone : (x y : Option Stmt) (xs ys : List (Option Stmt)) → Fit (x ∷ xs) → Fit (y ∷ ys) →
    spelled_slot x ++ rest_of xs ≡ spelled_slot y ++ rest_of ys → (x ≡ y) × (rest_of xs ≡ rest_of ys) × Fit xs × Fit ys
slot-alone None None xs ys p q same = (refl, same, p, q)
slot-alone None (Some t) xs ys p q same = absurd (stmt-not_rest t (rest_of ys) (rest_of xs) (fit-first t ys q).0 (rests-rest_of ys) (rests-rest_of xs) same)
slot-alone (Some s) None xs ys p q same = absurd (stmt-not_rest s (rest_of xs) (rest_of ys) (fit-first s xs p).0 (rests-rest_of xs) (rests-rest_of ys) (sym same))
slot-alone (Some s) (Some t) xs ys p q same =
    let f = fit-first s xs p in
    let g = fit-first t ys q in
    let h = stmt-alone s t (rest_of xs) (rest_of ys) f.0 g.0 (rests-rest_of xs) (rests-rest_of ys) same in
    (ap (λ (z : Stmt). Some z) h.0, h.1, f.1, g.1)

slots-alone : (x y : Option Stmt) (xs ys : List (Option Stmt)) → Fit (x ∷ xs) → Fit (y ∷ ys) →
    spelled_slot x ++ rest_of xs ≡ spelled_slot y ++ rest_of ys → x ∷ xs ≡ y ∷ ys
slots-alone x y [] [] p q same = ap (λ (z : Option Stmt). z ∷ []) (slot-alone x y [] [] p q same).0
slots-alone x y [] (z ∷ zs) p q same = let h = (slot-alone x y [] (z ∷ zs) p q same).1 in absurd (cc)
slots-alone x y (w ∷ ws) [] p q same = let h = (slot-alone x y (w ∷ ws) [] p q same).1 in absurd (cc)
slots-alone x y (w ∷ ws) (z ∷ zs) p q same =
    let h = slot-alone x y (w ∷ ws) (z ∷ zs) p q same in
    let t = tails Semicolon Semicolon (separated (map spelled_slot (w ∷ ws))) (separated (map spelled_slot (z ∷ zs))) h.1 in
    let i = slots-alone w z ws zs h.2 h.3 (sym (separated-first w ws) ∙ t ∙ separated-first z zs) in
    λ j. h.0 j ∷ i j

-- a script is written with tokens of its own
pub stmts-alone : (ts : List Token) (xs ys : List (Option Stmt)) → IsStmts ts xs → IsStmts ts ys → xs ≡ ys
stmts-alone ts [] ys p q = let h = p.some in absurd (omega arith)
stmts-alone ts (x ∷ xs) [] p q = let h = q.some in absurd (omega arith)
stmts-alone ts (x ∷ xs) (y ∷ ys) p q =
    slots-alone x y xs ys p.fit q.fit (sym (separated-first x xs) ∙ sym p.written ∙ q.written ∙ separated-first y ys)
