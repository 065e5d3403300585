-- The statements of a script are found one by one.
use Rattle.std.proofs.Common.{◌≡◌, ℕ, ◌<◌, ◌≤◌, ◌+◌, ◌-◌, Bool, true, false, cond, List, [], ◌∷◌, ◌++◌, length, get_or, map, drop, Option, Some, None, refl, ap, sym, ◌∙◌, subst, arith, append_assoc, append-nil}
use Rattle.std.specs.Prelude.{nat_le}
use Rattle.std.specs.List.{list_all}
use Rattle.std.proofs.lemmas.List.{drop_more, drop-drop, drop_all, length-drop, length-append, length-map}
use Rattle.spec_script.specs.declared.syntax.Expr.{Expr}
use Rattle.spec_script.specs.declared.syntax.Stmt.{Stmt}
use Rattle.spec_script.specs.declared.syntax.Stmt.TheVariants.{Create, Assign, Change, Plain}
use Rattle.spec_script.specs.declared.token.Token.{Token}
use Rattle.spec_script.specs.declared.token.Token.TheVariants.{Number, Text, Word, Operator, Bang, Tilde, Question, Colon, Open, Close, Semicolon, Creates, Assigns, Changes}
use Rattle.spec_script.specs.declared.token.Placed.{Placed}
use Rattle.spec_script.specs.Grammar.{changes, spelled, spelled_stmt, spelled_slot, separated, kept, fits, fits_stmt, expr_of, height, IsExpr, IsStmts}
use Rattle.spec_script.specs.Reading.{bare, high_expr, high_stmt, first_place}
use Rattle.script_reader.specs.Climb.{Found, climb, whole_expr, from_token, Evaluated, beginning, assigned_by, begun, as_stmt, statement_at}
use Rattle.spec_script.proofs.Bools.{both}
use Rattle.script_reader.proofs.Climbing.{finds, found-same}
use Rattle.script_reader.proofs.Alone.{Rests, stops-from_rests, expr-not_sign, stmt-not_rest, rest_of, rests-rest_of, separated-first, fit-first, tails}
use Rattle.script_reader.proofs.Building.{first-at}

abbrev Slots : Type 0
Slots = List (Option Stmt)

abbrev FoundStmt : Type 0
FoundStmt = Stmt × List Token

as-low : (b : Bool) (make : Expr → Stmt) (e : Expr) (rest : List Token) → as_stmt make (cond b (Some (e, rest)) None) ≡ cond b (Some (make e, rest)) None
as-low true make e rest = refl
as-low false make e rest = refl

by-name : (e : Expr) (rest : List Token) (name : List ℕ) (ts : List Token) → fits e 0 ≡ true → Rests rest → spelled e ++ rest ≡ Word name ∷ ts → assigned_by name ts ≡ Evaluated
by-name e rest name [] fit r h = refl
by-name e rest name (Creates ∷ ts) fit r h = absurd (expr-not_sign e rest name Creates ts fit r (λ x. x) tt h)
by-name e rest name (Assigns ∷ ts) fit r h = absurd (expr-not_sign e rest name Assigns ts fit r (λ x. x) tt h)
by-name e rest name (Changes op ∷ ts) fit r h = absurd (expr-not_sign e rest name (Changes op) ts fit r (λ x. x) tt h)
by-name e rest name (Number n ∷ ts) fit r h = refl
by-name e rest name (Text n ∷ ts) fit r h = refl
by-name e rest name (Word n ∷ ts) fit r h = refl
by-name e rest name (Operator op ∷ ts) fit r h = refl
by-name e rest name (Bang ∷ ts) fit r h = refl
by-name e rest name (Tilde ∷ ts) fit r h = refl
by-name e rest name (Question ∷ ts) fit r h = refl
by-name e rest name (Colon ∷ ts) fit r h = refl
by-name e rest name (Open ∷ ts) fit r h = refl
by-name e rest name (Close ∷ ts) fit r h = refl
by-name e rest name (Semicolon ∷ ts) fit r h = refl

-- an expression is no assignment
plain-beginning : (e : Expr) (rest ts : List Token) → fits e 0 ≡ true → Rests rest → spelled e ++ rest ≡ ts → beginning ts ≡ Evaluated
plain-beginning e rest [] fit r h = refl
plain-beginning e rest (Word name ∷ ts) fit r h = by-name e rest name ts fit r h
plain-beginning e rest (Number n ∷ ts) fit r h = refl
plain-beginning e rest (Text n ∷ ts) fit r h = refl
plain-beginning e rest (Operator op ∷ ts) fit r h = refl
plain-beginning e rest (Bang ∷ ts) fit r h = refl
plain-beginning e rest (Tilde ∷ ts) fit r h = refl
plain-beginning e rest (Question ∷ ts) fit r h = refl
plain-beginning e rest (Colon ∷ ts) fit r h = refl
plain-beginning e rest (Open ∷ ts) fit r h = refl
plain-beginning e rest (Close ∷ ts) fit r h = refl
plain-beginning e rest (Semicolon ∷ ts) fit r h = refl
plain-beginning e rest (Creates ∷ ts) fit r h = refl
plain-beginning e rest (Assigns ∷ ts) fit r h = refl
plain-beginning e rest (Changes op ∷ ts) fit r h = refl

made-stmt : (make : Expr → Stmt) (e : Expr) (rest : List Token) → fits e 0 ≡ true → Rests rest → as_stmt make (whole_expr (spelled e ++ rest)) ≡ cond (nat_le (height e) 64) (Some (make e, rest)) None
unfolding whole_expr
made-stmt make e rest fit r = ap (as_stmt make) (finds e 64 0 rest fit (stops-from_rests rest r)) ∙ as-low (nat_le (height e) 64) make e rest

-- a statement of the grammar is found, if it is not too high
finds-stmt : (s : Stmt) (rest : List Token) → fits_stmt s ≡ true → Rests rest → statement_at (spelled_stmt s ++ rest) ≡ cond (nat_le (height (expr_of s)) 64) (Some (s, rest)) None
finds-stmt (Create n e) rest fit r = made-stmt (Create n) e rest fit r
finds-stmt (Assign n e) rest fit r = made-stmt (Assign n) e rest fit r
finds-stmt (Change op n e) rest fit r = made-stmt (Change op n) e rest (both (changes op) (fits e 0) fit).1 r
finds-stmt (Plain e) rest fit r =
    ap (begun (spelled e ++ rest)) (plain-beginning e rest (spelled e ++ rest) fit r refl) ∙ made-stmt Plain e rest fit r

-- the statements so far, and those that are left
pub record Progress (ts : List Placed) (done : List Stmt) (at : ℕ) : Type 0 where
  pub all : Slots
  pub rest : Slots
  pub is : IsStmts (bare ts) all
  pub written : from_token ts at ≡ separated (map spelled_slot rest)
  pub fit : list_all fits_stmt (kept rest) ≡ true
  pub so_far : done ++ kept rest ≡ kept all
  pub high : high_stmt rest (drop at ts) ≡ high_stmt all ts
  pub within : at ≤ length ts

pub progress-start : (ts : List Placed) (all : Slots) → IsStmts (bare ts) all → Progress ts [] 0
progress-start ts all is = record { all = all; rest = all; is = is; written = is.written; fit = is.fit; so_far = refl; high = refl; within = omega arith }

-- what stands before a semicolon is empty
semicolon-first : (us : List Token) (rest : Slots) → list_all fits_stmt (kept rest) ≡ true → Semicolon ∷ us ≡ separated (map spelled_slot rest) →
    (new : Slots) × (rest ≡ None ∷ new) × (us ≡ separated (map spelled_slot new))
semicolon-first us [] fit h = absurd (cc)
semicolon-first us (None ∷ []) fit h = absurd (cc)
semicolon-first us (None ∷ s ∷ ss) fit h = (s ∷ ss, refl, tails Semicolon Semicolon us (separated (map spelled_slot (s ∷ ss))) h)
semicolon-first us (Some s ∷ ss) fit h = absurd (stmt-not_rest s (rest_of ss) (Semicolon ∷ us) (fit-first s ss fit).0 (rests-rest_of ss) tt (h ∙ separated-first (Some s) ss))

pub progress-semicolon : (ts : List Placed) (done : List Stmt) (at : ℕ) (p : Placed) → Progress ts done at → at < length ts → p ≡ get_or ts at p → p.token ≡ Semicolon → Progress ts done (at + 1)
progress-semicolon ts done at p g inside is t =
    let first = ap (λ (u : Token). u ∷ from_token ts (at + 1)) (sym t) ∙ sym (first-at ts at p inside is) in
    let h = semicolon-first (from_token ts (at + 1)) g.rest g.fit (first ∙ g.written) in
    record {
      all = g.all;
      rest = h.0;
      is = g.is;
      written = h.2;
      fit = subst (λ (xs : Slots). list_all fits_stmt (kept xs) ≡ true) h.1 g.fit;
      so_far = ap (λ (xs : Slots). done ++ kept xs) (sym h.1) ∙ g.so_far;
      high = ap (λ (us : List Placed). high_stmt h.0 us) (sym (drop-drop 1 at ts)) ∙ ap (λ (xs : Slots). high_stmt xs (drop at ts)) (sym h.1) ∙ g.high;
      within = omega arith;
    }

-- what stands before another token is a statement
stmt-first : (t : Token) (us : List Token) (rest : Slots) → (t ≡ Semicolon → ⊥) → t ∷ us ≡ separated (map spelled_slot rest) → (s : Stmt) × (new : Slots) × (rest ≡ Some s ∷ new)
stmt-first t us [] other h = absurd (cc)
stmt-first t us (None ∷ []) other h = absurd (cc)
stmt-first t us (None ∷ s ∷ ss) other h = let e : t ≡ Semicolon = cc in absurd (other e)
stmt-first t us (Some s ∷ ss) other h = (s, ss, refl)

rest-none : (new : Slots) → separated (map spelled_slot (None ∷ new)) ≡ rest_of new
rest-none [] = refl
rest-none (x ∷ xs) = refl

some-same : {p q : FoundStmt} → ◌≡◌ {A = Option FoundStmt} (Some p) (Some q) → p ≡ q
some-same {p} {q} h = found-same p q h

longer : (ts : List Token) → (ts ≡ [] → ⊥) → 0 < length ts
longer [] h = absurd (h refl)
longer (t ∷ ts) h = omega arith

-- a statement is written with some tokens
stmt-some : (s : Stmt) → fits_stmt s ≡ true → 0 < length (spelled_stmt s)
stmt-some s fit = longer (spelled_stmt s) (λ h. stmt-not_rest s [] [] fit tt tt (sym h ∙ sym (append-nil (spelled_stmt s))))

low-found : (b : Bool) (s stmt : Stmt) (us vs : List Token) → ◌≡◌ {A = Option FoundStmt} (cond b (Some (s, us)) None) (Some (stmt, vs)) → (b ≡ true) × (stmt ≡ s) × (vs ≡ us)
low-found true s stmt us vs h = (refl, sym (ap (λ (p : FoundStmt). p.0) (some-same h)), sym (ap (λ (p : FoundStmt). p.1) (some-same h)))
low-found false s stmt us vs h = absurd (cc)

high-found : (b : Bool) (s : Stmt) (us : List Token) → ◌≡◌ {A = Option FoundStmt} (cond b (Some (s, us)) None) None → b ≡ false
high-found true s us h = absurd (cc)
high-found false s us h = refl

-- the first statement that is left
record Left (ts : List Placed) (done : List Stmt) (at : ℕ) (g : Progress ts done at) : Type 0 where
  stmt : Stmt
  new : Slots
  is : g.rest ≡ Some stmt ∷ new
  fit : fits_stmt stmt ≡ true
  fit_rest : list_all fits_stmt (kept new) ≡ true
  written : from_token ts at ≡ spelled_stmt stmt ++ rest_of new
  found : statement_at (from_token ts at) ≡ cond (nat_le (height (expr_of stmt)) 64) (Some (stmt, rest_of new)) None

left-at : (ts : List Placed) (done : List Stmt) (at : ℕ) (p : Placed) (g : Progress ts done at) → at < length ts → p ≡ get_or ts at p → (p.token ≡ Semicolon → ⊥) → Left ts done at g
left-at ts done at p g inside is other =
    let h = stmt-first p.token (from_token ts (at + 1)) g.rest other (sym (first-at ts at p inside is) ∙ g.written) in
    let f = fit-first h.0 h.1 (subst (λ (xs : Slots). list_all fits_stmt (kept xs) ≡ true) h.2 g.fit) in
    let w : from_token ts at ≡ spelled_stmt h.0 ++ rest_of h.1 = g.written ∙ ap (λ (xs : Slots). separated (map spelled_slot xs)) h.2 ∙ separated-first (Some h.0) h.1 in
    record { stmt = h.0; new = h.1; is = h.2; fit = f.0; fit_rest = f.1; written = w; found = ap statement_at w ∙ finds-stmt h.0 (rest_of h.1) f.0 (rests-rest_of h.1) }

bare-length : (ts : List Placed) (k : ℕ) → length (from_token ts k) ≡ length ts - k
bare-length ts k = length-drop k (bare ts) ∙ ap (λ (n : ℕ). n - k) (length-map ts (λ (q : Placed). q.token))

pub progress-stmt : (ts : List Placed) (done more : List Stmt) (at next : ℕ) (p : Placed) (stmt : Stmt) → Progress ts done at → at < length ts → p ≡ get_or ts at p → (p.token ≡ Semicolon → ⊥) →
    ◌≡◌ {A = Option FoundStmt} (Some (stmt, from_token ts next)) (statement_at (from_token ts at)) → next ≤ length ts → more ≡ done ++ stmt ∷ [] → (at < next) × Progress ts more next
progress-stmt ts done more at next p stmt g inside is other found end grown =
    let l = left-at ts done at p g inside is other in
    let k = low-found (nat_le (height (expr_of l.stmt)) 64) l.stmt stmt (rest_of l.new) (from_token ts next) (sym l.found ∙ sym found) in
    let sizes : length ts - at ≡ length (spelled_stmt l.stmt) + (length ts - next) =
    sym (bare-length ts at) ∙ ap (λ (us : List Token). length us) l.written ∙ length-append (spelled_stmt l.stmt) (rest_of l.new)
    ∙ ap (λ (n : ℕ). length (spelled_stmt l.stmt) + n) (ap (λ (us : List Token). length us) (sym k.2) ∙ bare-length ts next) in
    let some = stmt-some l.stmt l.fit in
    let forth : next ≡ at + length (spelled_stmt l.stmt) = omega arith in
    let far : next + 1 ≡ at + (length (spelled_stmt l.stmt) + 1) = omega arith in
    let less : at < next = omega arith in (
      less,
      record {
        all = g.all;
        rest = None ∷ l.new;
        is = g.is;
        written = k.2 ∙ sym (rest-none l.new);
        fit = l.fit_rest;
        so_far = ap (λ (ss : List Stmt). ss ++ kept l.new) grown ∙ append_assoc done (stmt ∷ []) (kept l.new) ∙ ap (λ (s : Stmt). done ++ s ∷ kept l.new) k.1
            ∙ ap (λ (xs : Slots). done ++ kept xs) (sym l.is) ∙ g.so_far;
        high = ap (high_stmt l.new) (drop-drop 1 next ts ∙ ap (λ (n : ℕ). drop n ts) far ∙ sym (drop-drop (length (spelled_stmt l.stmt) + 1) at ts))
            ∙ sym (ap (λ (b : Bool). cond b (high_stmt l.new (drop (length (spelled_stmt l.stmt) + 1) (drop at ts))) (first_place (drop at ts))) k.0)
            ∙ ap (λ (xs : Slots). high_stmt xs (drop at ts)) (sym l.is) ∙ g.high;
        within = end;
      },
    )

-- the first statement that is too high
pub progress-high : (ts : List Placed) (done : List Stmt) (at : ℕ) (p : Placed) → Progress ts done at → at < length ts → p ≡ get_or ts at p → (p.token ≡ Semicolon → ⊥) →
    ◌≡◌ {A = Option FoundStmt} None (statement_at (from_token ts at)) → (all : Slots) × IsStmts (bare ts) all × (high_stmt all ts ≡ Some p.place)
progress-high ts done at p g inside is other found =
    let l = left-at ts done at p g inside is other in
    let k = high-found (nat_le (height (expr_of l.stmt)) 64) l.stmt (rest_of l.new) (sym l.found ∙ sym found) in (
      g.all,
      g.is,
      sym g.high ∙ ap (λ (xs : Slots). high_stmt xs (drop at ts)) l.is
          ∙ ap (λ (b : Bool). cond b (high_stmt l.new (drop (length (spelled_stmt l.stmt) + 1) (drop at ts))) (first_place (drop at ts))) k
          ∙ ap first_place (drop_more ts at p inside) ∙ ap (λ (q : Placed). Some q.place) (sym is),
    )

-- nothing is left
nothing-left : (rest : Slots) (us : List Placed) → list_all fits_stmt (kept rest) ≡ true → [] ≡ separated (map spelled_slot rest) → (kept rest ≡ []) × (high_stmt rest us ≡ None)
nothing-left [] us fit h = (refl, refl)
nothing-left (None ∷ []) us fit h = (refl, refl)
nothing-left (None ∷ s ∷ ss) us fit h = absurd (cc)
nothing-left (Some s ∷ ss) us fit h = absurd (stmt-not_rest s (rest_of ss) [] (fit-first s ss fit).0 (rests-rest_of ss) tt (h ∙ separated-first (Some s) ss))

pub progress-end : (ts : List Placed) (done : List Stmt) (at : ℕ) → Progress ts done at → length ts ≤ at → (all : Slots) × IsStmts (bare ts) all × (done ≡ kept all) × (high_stmt all ts ≡ None)
progress-end ts done at g end =
    let far : length (bare ts) ≤ at = omega (arith, length-map ts (λ (q : Placed). q.token)) in
    let n = nothing-left g.rest (drop at ts) g.fit (sym (drop_all at (bare ts) far) ∙ g.written) in
    (g.all, g.is, sym (append-nil done) ∙ ap (λ (ss : List Stmt). done ++ ss) (sym n.0) ∙ g.so_far, sym g.high ∙ n.1)

high-alone : (b : Bool) (e : Expr) (us : List Token) → ◌≡◌ {A = Option Found} (cond b (Some (e, us)) None) None → b ≡ false
high-alone true e us h = absurd (cc)
high-alone false e us h = refl

low-alone : (b : Bool) (e f : Expr) (us vs : List Token) → ◌≡◌ {A = Option Found} (cond b (Some (e, us)) None) (Some (f, vs)) → (b ≡ true) × (f ≡ e)
low-alone true e f us vs h = (refl, sym (ap (λ (p : Found). p.0) (found-same {X = Found} (e, us) (f, vs) h)))
low-alone false e f us vs h = absurd (cc)

found-alone : (ts : List Placed) (e : Expr) → IsExpr (bare ts) e → whole_expr (from_token ts 0) ≡ cond (nat_le (height e) 64) (Some (e, [])) None
unfolding whole_expr
found-alone ts e is = ap (λ (us : List Token). climb 64 0 us) (is.written ∙ sym (append-nil (spelled e))) ∙ finds e 64 0 [] is.fit tt

-- an expression alone is written with some tokens
pub alone-some : (ts : List Placed) (e : Expr) → IsExpr (bare ts) e → 0 < length ts
alone-some ts e is =
    let some = stmt-some (Plain e) is.fit in
    omega (arith, some, ap (λ (us : List Token). length us) is.written, length-map ts (λ (q : Placed). q.token))

pub alone-low : (ts : List Placed) (e f : Expr) (us : List Token) → IsExpr (bare ts) e → ◌≡◌ {A = Option Found} (Some (f, us)) (whole_expr (from_token ts 0)) → IsExpr (bare ts) f × (high_expr f ts ≡ None)
alone-low ts e f us is h =
    let k = low-alone (nat_le (height e) 64) e f [] us (sym (found-alone ts e is) ∙ sym h) in
    (subst (λ (x : Expr). IsExpr (bare ts) x) (sym k.1) is, ap (λ (x : Expr). high_expr x ts) k.1 ∙ ap (λ (b : Bool). cond b None (first_place ts)) k.0)

pub alone-high : (ts : List Placed) (e : Expr) (p : Placed) → IsExpr (bare ts) e → 0 < length ts → p ≡ get_or ts 0 p → ◌≡◌ {A = Option Found} None (whole_expr (from_token ts 0)) → (x : Expr) × IsExpr (bare ts) x × (high_expr x ts ≡ Some p.place)
alone-high ts e p is some first h =
    let k = high-alone (nat_le (height e) 64) e [] (sym (found-alone ts e is) ∙ sym h) in
    (e, is, ap (λ (b : Bool). cond b None (first_place ts)) k ∙ ap first_place (drop_more ts 0 p some) ∙ ap (λ (q : Placed). Some q.place) (sym first))
