-- A text reads as one thing or has one fault.
use Rattle.std.proofs.Common.{◌≡◌, ℕ, ◌<◌, ◌≤◌, List, [], ◌∷◌, ◌++◌, length, Option, Some, None, refl, ap, sym, ◌∙◌, subst, arith, append_assoc, append-nil, inl, inr}
use Rattle.std.proofs.lemmas.List.{map-append}
use Rattle.spec_script.specs.declared.fault.ScriptFault.{ScriptFault}
use Rattle.spec_script.specs.declared.fault.ScriptFault.TheVariants.{TooLong, Syntax, RealNumber, NumberTooWide, TooNested}
use Rattle.spec_script.specs.declared.syntax.Expr.{Expr}
use Rattle.spec_script.specs.declared.syntax.Stmt.{Stmt}
use Rattle.spec_script.specs.declared.syntax.Script.{Script}
use Rattle.spec_script.specs.declared.token.Token.{Token}
use Rattle.spec_script.specs.declared.token.Placed.{Placed}
use Rattle.spec_script.specs.Grammar.{kept, IsExpr, IsStmts}
use Rattle.spec_script.specs.Reading.{bare, tokens_of, token_fault, high_expr, high_stmt, Begins, StuckAt, Unfinished, FaultAfter, Faulty, Reads, Nested, ReadsExpr, ReadsScript, StmtsFault}
use Rattle.spec_script.specs.ExprFaults.{ExprFault}
use Rattle.script_reader.proofs.Climbing.{finds-alone}
use Rattle.script_reader.proofs.Alone.{stmts-alone}
use Rattle.spec_script.proofs.Complete.{begins-fewer, begins-whole}

some-same : {X : Type 0} (x y : X) → ◌≡◌ {A = Option X} (Some x) (Some y) → x ≡ y
some-same x y h = cc

head-same : (p q : Placed) (ps qs : List Placed) → p ∷ ps ≡ q ∷ qs → p ≡ q
head-same p q ps qs h = cc

tail-same : (p q : Placed) (ps qs : List Placed) → p ∷ ps ≡ q ∷ qs → ps ≡ qs
tail-same p q ps qs h = cc

module _ (X : Type 0) (Is : List Token → X → Type 0) (high : X → List Placed → Option ℕ) (unique : (ts : List Token) (x y : X) → Is ts x → Is ts y → x ≡ y) where
  -- there is one first token with which nothing goes on
  same-stuck : (before : List Token) (f g : List Placed) (p q : Placed) (ps qs : List Placed) → f ++ p ∷ ps ≡ g ++ q ∷ qs →
      Begins Is (before ++ bare f) → (Begins Is ((before ++ bare f) ++ p.token ∷ []) → ⊥) → Begins Is (before ++ bare g) → (Begins Is ((before ++ bare g) ++ q.token ∷ []) → ⊥) → p ≡ q
  same-stuck before [] [] p q ps qs same bf sf bg sg = head-same p q ps qs same
  same-stuck before [] (r ∷ rs) p q ps qs same bf sf bg sg =
      let e = head-same p r ps (rs ++ q ∷ qs) same in
      let b = begins-fewer X Is (before ++ r.token ∷ []) (bare rs) (subst (Begins Is) (sym (append_assoc before (r.token ∷ []) (bare rs))) bg) in
      absurd (sf (subst (Begins Is) (ap (λ (x : Placed). before ++ x.token ∷ []) (sym e) ∙ ap (λ (ts : List Token). ts ++ p.token ∷ []) (sym (append-nil before))) b))
  same-stuck before (r ∷ rs) [] p q ps qs same bf sf bg sg =
      let e = head-same r q (rs ++ p ∷ ps) qs same in
      let b = begins-fewer X Is (before ++ r.token ∷ []) (bare rs) (subst (Begins Is) (sym (append_assoc before (r.token ∷ []) (bare rs))) bf) in
      absurd (sg (subst (Begins Is) (ap (λ (x : Placed). before ++ x.token ∷ []) e ∙ ap (λ (ts : List Token). ts ++ q.token ∷ []) (sym (append-nil before))) b))
  same-stuck before (r ∷ rs) (s ∷ ss) p q ps qs same bf sf bg sg =
      let e = head-same r s (rs ++ p ∷ ps) (ss ++ q ∷ qs) same in
      let move_f : before ++ r.token ∷ bare rs ≡ (before ++ r.token ∷ []) ++ bare rs = sym (append_assoc before (r.token ∷ []) (bare rs)) in
      let move_g : before ++ s.token ∷ bare ss ≡ (before ++ r.token ∷ []) ++ bare ss = sym (append_assoc before (s.token ∷ []) (bare ss)) ∙ ap (λ (x : Placed). (before ++ x.token ∷ []) ++ bare ss) (sym e) in
      same-stuck (before ++ r.token ∷ []) rs ss p q ps qs (tail-same r s (rs ++ p ∷ ps) (ss ++ q ∷ qs) same)
      (subst (Begins Is) move_f bf) (λ b. sf (subst (λ (ts : List Token). Begins Is (ts ++ p.token ∷ [])) (sym move_f) b))
      (subst (Begins Is) move_g bg) (λ b. sg (subst (λ (ts : List Token). Begins Is (ts ++ q.token ∷ [])) (sym move_g) b))

  -- no token is stuck where the tokens with it begin something
  not-stuck : (ts : List Placed) (place : ℕ) → Begins Is (bare ts) → StuckAt Is ts place → ⊥
  not-stuck ts place b s =
      let p : Placed = record { token = s.token; place = place } in
      let e : bare ts ≡ (bare s.front ++ s.token ∷ []) ++ bare s.rest =
      ap bare s.at ∙ map-append (λ (q : Placed). q.token) s.front (p ∷ s.rest) ∙ sym (append_assoc (bare s.front) (s.token ∷ []) (bare s.rest)) in
      s.stuck (begins-fewer X Is (bare s.front ++ s.token ∷ []) (bare s.rest) (subst (Begins Is) e b))

  two-stuck : (ts : List Placed) (p q : ℕ) → StuckAt Is ts p → StuckAt Is ts q → p ≡ q
  two-stuck ts p q s t =
      let x : Placed = record { token = s.token; place = p } in
      let y : Placed = record { token = t.token; place = q } in
      ap (λ (z : Placed). z.place) (same-stuck [] s.front t.front x y s.rest t.rest (sym s.at ∙ t.at) s.begins s.stuck t.begins t.stuck)

  data Kind (text : List ℕ) (fault : ScriptFault) : Type 0 where
    long : 4096 < length text → fault ≡ TooLong → Kind text fault
    token : length text ≤ 4096 → FaultAfter Is text fault → Kind text fault
    stuck : (place : ℕ) → length text ≤ 4096 → fault ≡ Syntax place → StuckAt Is (tokens_of text) place → Kind text fault
    end : (place : ℕ) → length text ≤ 4096 → fault ≡ Syntax place → token_fault text ≡ None → Unfinished Is (tokens_of text) → place ≡ length text → Kind text fault
    nested : (place : ℕ) → length text ≤ 4096 → fault ≡ TooNested place → Nested Is high text place → Kind text fault

  kind-of : (text : List ℕ) (fault : ScriptFault) → Faulty Is high text fault → Kind text fault
  kind-of text TooLong h = long h refl
  kind-of text (Syntax place) (short, inl h) = token short h
  kind-of text (Syntax place) (short, inr (inl h)) = stuck place short refl h
  kind-of text (Syntax place) (short, inr (inr h)) = end place short refl h.0 h.1 h.2
  kind-of text (RealNumber place) h = token h.0 h.1
  kind-of text (NumberTooWide place) h = token h.0 h.1
  kind-of text (TooNested place) h = nested place h.0 refl h.1

  whole-begins : (text : List ℕ) (place : ℕ) → Nested Is high text place → Begins Is (bare (tokens_of text))
  whole-begins text place n = begins-whole X Is (bare (tokens_of text)) n.whole n.is

  same-kind : (text : List ℕ) (f g : ScriptFault) → Kind text f → Kind text g → f ≡ g
  same-kind text f g (long h e) (long k i) = e ∙ sym i
  same-kind text f g (long h e) (token k b) = absurd (omega arith)
  same-kind text f g (long h e) (stuck q k i s) = absurd (omega arith)
  same-kind text f g (long h e) (end q k i n u l) = absurd (omega arith)
  same-kind text f g (long h e) (nested q k i n) = absurd (omega arith)
  same-kind text f g (token h a) (long k i) = absurd (omega arith)
  same-kind text f g (token h a) (token k b) = some-same f g (sym a.found ∙ b.found)
  same-kind text f g (token h a) (stuck q k i s) = absurd (not-stuck (tokens_of text) q a.begins s)
  same-kind text f g (token h a) (end q k i n u l) = let e = sym a.found ∙ n in absurd (cc)
  same-kind text f g (token h a) (nested q k i n) = let e = sym a.found ∙ n.clean in absurd (cc)
  same-kind text f g (stuck p h e s) (long k i) = absurd (omega arith)
  same-kind text f g (stuck p h e s) (token k b) = absurd (not-stuck (tokens_of text) p b.begins s)
  same-kind text f g (stuck p h e s) (stuck q k i t) = e ∙ ap (λ (n : ℕ). Syntax n) (two-stuck (tokens_of text) p q s t) ∙ sym i
  same-kind text f g (stuck p h e s) (end q k i n u l) = absurd (not-stuck (tokens_of text) p u.begins s)
  same-kind text f g (stuck p h e s) (nested q k i n) = absurd (not-stuck (tokens_of text) p (whole-begins text q n) s)
  same-kind text f g (end p h e m u l) (long k i) = absurd (omega arith)
  same-kind text f g (end p h e m u l) (token k b) = let x = sym b.found ∙ m in absurd (cc)
  same-kind text f g (end p h e m u l) (stuck q k i s) = absurd (not-stuck (tokens_of text) q u.begins s)
  same-kind text f g (end p h e m u l) (end q k i n v r) = e ∙ ap (λ (n : ℕ). Syntax n) (l ∙ sym r) ∙ sym i
  same-kind text f g (end p h e m u l) (nested q k i n) = absurd (u.open_end n.whole n.is)
  same-kind text f g (nested p h e n) (long k i) = absurd (omega arith)
  same-kind text f g (nested p h e n) (token k b) = let x = sym b.found ∙ n.clean in absurd (cc)
  same-kind text f g (nested p h e n) (stuck q k i s) = absurd (not-stuck (tokens_of text) q (whole-begins text p n) s)
  same-kind text f g (nested p h e n) (end q k i m u l) = absurd (u.open_end n.whole n.is)
  same-kind text f g (nested p h e n) (nested q k i m) =
      e ∙ ap (λ (n : ℕ). TooNested n) (some-same p q (sym n.high_at ∙ ap (λ (x : X). high x (tokens_of text)) (unique (bare (tokens_of text)) n.whole m.whole n.is m.is) ∙ m.high_at)) ∙ sym i

  -- a text has one fault
  pub one-fault : (text : List ℕ) (f g : ScriptFault) → Faulty Is high text f → Faulty Is high text g → f ≡ g
  one-fault text f g h k = same-kind text f g (kind-of text f h) (kind-of text g k)

  no-kind : (text : List ℕ) (x : X) (f : ScriptFault) → Reads Is high text x → Kind text f → ⊥
  no-kind text x f r (long h e) = let s = r.short in omega arith
  no-kind text x f r (token h a) = let e = sym a.found ∙ r.clean in cc
  no-kind text x f r (stuck p h e s) = not-stuck (tokens_of text) p (begins-whole X Is (bare (tokens_of text)) x r.is) s
  no-kind text x f r (end p h e m u l) = u.open_end x r.is
  no-kind text x f r (nested p h e n) =
      let e = sym r.low ∙ ap (λ (y : X). high y (tokens_of text)) (unique (bare (tokens_of text)) x n.whole r.is n.is) ∙ n.high_at in cc

  -- what reads has no fault
  pub no-fault : (text : List ℕ) (x : X) (f : ScriptFault) → Reads Is high text x → Faulty Is high text f → ⊥
  no-fault text x f r h = no-kind text x f r (kind-of text f h)

pub expr-unique : (ts : List Token) (e f : Expr) → IsExpr ts e → IsExpr ts f → e ≡ f
expr-unique ts e f is_e is_f = (finds-alone e f [] [] is_e.fit is_f.fit tt tt (ap (λ (us : List Token). us ++ []) (sym is_e.written ∙ is_f.written))).0

pub one-expr : (text : List ℕ) (e f : Expr) → ReadsExpr text e → ReadsExpr text f → e ≡ f
one-expr text e f r s = expr-unique (bare (tokens_of text)) e f r.is s.is

pub one-expr_fault : (text : List ℕ) (f g : ScriptFault) → ExprFault text f → ExprFault text g → f ≡ g
one-expr_fault = one-fault Expr IsExpr high_expr expr-unique

pub no-expr_fault : (text : List ℕ) (e : Expr) (f : ScriptFault) → ReadsExpr text e → ExprFault text f → ⊥
no-expr_fault = no-fault Expr IsExpr high_expr expr-unique

pub one-script : (text : List ℕ) (s t : Script) → ReadsScript text s → ReadsScript text t → s ≡ t
one-script text s t r q =
    let slots = stmts-alone (bare (tokens_of text)) r.1.0 q.1.0 r.1.1.is q.1.1.is in
    let texts = r.0 ∙ sym q.0 in
    let stmts = r.1.2 ∙ ap kept slots ∙ sym q.1.2 in
    λ i. record { text = texts i; stmts = stmts i }

pub one-stmts_fault : (text : List ℕ) (f g : ScriptFault) → StmtsFault text f → StmtsFault text g → f ≡ g
one-stmts_fault = one-fault (List (Option Stmt)) IsStmts high_stmt stmts-alone

pub no-stmts_fault : (text : List ℕ) (s : Script) (f : ScriptFault) → ReadsScript text s → StmtsFault text f → ⊥
no-stmts_fault text s f r h = no-fault (List (Option Stmt)) IsStmts high_stmt stmts-alone text r.1.0 f r.1.1 h
