-- Tokens that lead somewhere begin something.
use Rattle.std.proofs.Common.{◌≡◌, ℕ, ◌<◌, ◌≤◌, ◌+◌, ℤ, pos, Bool, true, false, ◌&&◌, ◌==◌, List, [], ◌∷◌, ◌++◌, Option, Some, None, refl, ap, sym, ◌∙◌, subst, arith, append_assoc, append-nil, ◌⊎◌, inl, inr}
use Rattle.std.specs.Prelude.{nat_le}
use Rattle.spec_script.specs.declared.syntax.BinOp.{BinOp}
use Rattle.spec_script.specs.declared.syntax.BinOp.TheVariants.{Add, Sub, Mul, Div, And, Or, BitAnd, BitOr, BitXor, Compare}
use Rattle.spec_script.specs.declared.syntax.UnOp.{UnOp}
use Rattle.spec_script.specs.declared.syntax.UnOp.TheVariants.{Neg, Not, Flip}
use Rattle.spec_script.specs.declared.syntax.Expr.{Expr, Expr-F, roll-Expr, map-Expr}
use Rattle.spec_script.specs.declared.syntax.Expr.TheOpen.{Num, Lit, Look, Group, Unary, Binary, Choose}
use Rattle.spec_script.specs.declared.token.Token.{Token}
use Rattle.spec_script.specs.declared.token.Token.TheVariants.{Number, Text, Word, Operator, Bang, Tilde, Question, Colon, Open, Close, Semicolon, Creates, Assigns, Changes}
use Rattle.spec_script.specs.declared.stage.Opened.{Opened}
use Rattle.spec_script.specs.declared.stage.Opened.TheVariants.{Paren, Choice, Whole}
use Rattle.spec_script.specs.declared.stage.Stage.{Stage}
use Rattle.spec_script.specs.declared.stage.Stage.TheVariants.{Blank, Start, Named, Before, After}
use Rattle.spec_script.specs.Grammar.{level, unary_sign, spelled, fits}
use Rattle.spec_script.specs.Reading.{Begins}
use Rattle.spec_script.specs.Spots.{Spot, after_minus, operand_step, closing_step, semicolon_step, after_step, then_spot, run, step}
use Rattle.std.proofs.lemmas.Bool.Decides.{nat_tests}
use Rattle.std.specs.Cmp.Derive.{both_true}
use Rattle.spec_script.proofs.Bools.{both}
use Rattle.spec_script.proofs.Trees.{induct, spelled_is, fits_is}
use Rattle.spec_script.proofs.Levels.{le-yes, le-from, eq-from, level_some}

fits-binary : (op : BinOp) (a b : Expr) (place : ℕ) → place ≤ level op → fits a (level op) ≡ true → fits b (level op + 1) ≡ true → fits (roll-Expr (Binary op a b)) place ≡ true
fits-binary op a b place le h k = ap (λ (f : ℕ → Bool). f place) (fits_is (Binary op a b)) ∙ both_true (le-yes place (level op) le) (both_true h k)

fits-choose : (a b c : Expr) → fits a 1 ≡ true → fits b 0 ≡ true → fits c 0 ≡ true → fits (roll-Expr (Choose a b c)) 0 ≡ true
fits-choose a b c h k l = ap (λ (f : ℕ → Bool). f 0) (fits_is (Choose a b c)) ∙ both_true h (both_true k l)

binary-parts : (op : BinOp) (a b : Expr) (place : ℕ) → fits (roll-Expr (Binary op a b)) place ≡ true → (place ≤ level op) × (fits a (level op) ≡ true) × (fits b (level op + 1) ≡ true)
binary-parts op a b place h =
    let p = both (nat_le place (level op)) (fits a (level op) && fits b (level op + 1)) (sym (ap (λ (f : ℕ → Bool). f place) (fits_is (Binary op a b))) ∙ h) in
    let q = both (fits a (level op)) (fits b (level op + 1)) p.1 in
    (le-from place (level op) p.0, q.0, q.1)

choose-parts : (a b c : Expr) (place : ℕ) → fits (roll-Expr (Choose a b c)) place ≡ true → (place ≡ 0) × (fits a 1 ≡ true) × (fits b 0 ≡ true) × (fits c 0 ≡ true)
choose-parts a b c place h =
    let p = both (place == 0) (fits a 1 && (fits b 0 && fits c 0)) (sym (ap (λ (f : ℕ → Bool). f place) (fits_is (Choose a b c))) ∙ h) in
    let q = both (fits a 1) (fits b 0 && fits c 0) p.1 in
    let r = both (fits b 0) (fits c 0) q.1 in
    (eq-from place 0 p.0, q.0, r.0, r.1)

-- An expression after one sign is an expression.
abbrev Signs : UnOp → Expr → Type 0
Signs op x = (place : ℕ) → fits x place ≡ true → (y : Expr) × (fits y place ≡ true) × (spelled y ≡ unary_sign op ∷ spelled x)

signs-leaf : (op : UnOp) (x : Expr) → ((p q : ℕ) → fits x p ≡ fits x q) → Signs op x
signs-leaf op x same place fit = (roll-Expr (Unary op x), ap (λ (f : ℕ → Bool). f place) (fits_is (Unary op x)) ∙ same 10 place ∙ fit, spelled_is (Unary op x))

signs_at : (op : UnOp) (y : Expr-F ((e : Expr) × Signs op e)) → Signs op (roll-Expr (map-Expr ((e : Expr) × Signs op e) Expr (λ e. e.0) y))
signs_at op (Num n) place fit = signs-leaf op (roll-Expr (Num n)) (λ p q. ap (λ (f : ℕ → Bool). f p) (fits_is (Num n)) ∙ sym (ap (λ (f : ℕ → Bool). f q) (fits_is (Num n)))) place fit
signs_at op (Lit t) place fit = signs-leaf op (roll-Expr (Lit t)) (λ p q. ap (λ (f : ℕ → Bool). f p) (fits_is (Lit t)) ∙ sym (ap (λ (f : ℕ → Bool). f q) (fits_is (Lit t)))) place fit
signs_at op (Look n) place fit = signs-leaf op (roll-Expr (Look n)) (λ p q. ap (λ (f : ℕ → Bool). f p) (fits_is (Look n)) ∙ sym (ap (λ (f : ℕ → Bool). f q) (fits_is (Look n)))) place fit
signs_at op (Group a) place fit = signs-leaf op (roll-Expr (Group a.0)) (λ p q. ap (λ (f : ℕ → Bool). f p) (fits_is (Group a.0)) ∙ sym (ap (λ (f : ℕ → Bool). f q) (fits_is (Group a.0)))) place fit
signs_at op (Unary sign a) place fit = signs-leaf op (roll-Expr (Unary sign a.0)) (λ p q. ap (λ (f : ℕ → Bool). f p) (fits_is (Unary sign a.0)) ∙ sym (ap (λ (f : ℕ → Bool). f q) (fits_is (Unary sign a.0)))) place fit
signs_at op (Binary o a b) place fit =
    let p = binary-parts o a.0 b.0 place fit in
    let y = a.1 (level o) p.1 in
    (roll-Expr (Binary o y.0 b.0), fits-binary o y.0 b.0 place p.0 y.1 p.2, spelled_is (Binary o y.0 b.0) ∙ ap (λ (ts : List Token). ts ++ Operator o ∷ spelled b.0) y.2 ∙ ap (λ (ts : List Token). unary_sign op ∷ ts) (sym (spelled_is (Binary o a.0 b.0))))
signs_at op (Choose a b c) place fit =
    let p = choose-parts a.0 b.0 c.0 place fit in
    let y = a.1 1 p.1 in (
      roll-Expr (Choose y.0 b.0 c.0),
      subst (λ (n : ℕ). fits (roll-Expr (Choose y.0 b.0 c.0)) n ≡ true) (sym p.0) (fits-choose y.0 b.0 c.0 y.1 p.2 p.3),
      spelled_is (Choose y.0 b.0 c.0) ∙ ap (λ (ts : List Token). ts ++ Question ∷ (spelled b.0 ++ Colon ∷ spelled c.0)) y.2 ∙ ap (λ (ts : List Token). unary_sign op ∷ ts) (sym (spelled_is (Choose a.0 b.0 c.0))),
    )

signs : (op : UnOp) (x : Expr) → Signs op x
signs op = induct (Signs op) (signs_at op)

-- An operand may stand anywhere.
abbrev pub Operand : Expr → Type 0
Operand x = (place : ℕ) → fits x place ≡ true

-- An expression after an operand and the sign of an operator is an expression.
abbrev Joins : BinOp → Expr → Expr → Type 0
Joins op x z = (place : ℕ) → place ≤ level op → fits z place ≡ true → (y : Expr) × (fits y place ≡ true) × (spelled y ≡ spelled x ++ Operator op ∷ spelled z)

joins-leaf : (op : BinOp) (x z : Expr) → Operand x → (place : ℕ) → place ≤ level op → fits z (level op + 1) ≡ true → (y : Expr) × (fits y place ≡ true) × (spelled y ≡ spelled x ++ Operator op ∷ spelled z)
joins-leaf op x z operand place le fit = (roll-Expr (Binary op x z), fits-binary op x z place le (operand (level op)) fit, spelled_is (Binary op x z))

order : (a b : ℕ) → (a ≤ b) ⊎ (b < a)
order a b = elim (nat_le a b) as (λ v. nat_le a b ≡ v → (a ≤ b) ⊎ (b < a)) [ true ↦ λ h. inl (le-from a b h) | false ↦ λ h. inr (grind (arith, nat_tests)) ] refl

joins_at : (op : BinOp) (x : Expr) → Operand x → (y : Expr-F ((e : Expr) × Joins op x e)) → Joins op x (roll-Expr (map-Expr ((e : Expr) × Joins op x e) Expr (λ e. e.0) y))
joins_at op x operand (Num n) place le fit = joins-leaf op x (roll-Expr (Num n)) operand place le (ap (λ (f : ℕ → Bool). f (level op + 1)) (fits_is (Num n)))
joins_at op x operand (Lit t) place le fit = joins-leaf op x (roll-Expr (Lit t)) operand place le (ap (λ (f : ℕ → Bool). f (level op + 1)) (fits_is (Lit t)))
joins_at op x operand (Look n) place le fit = joins-leaf op x (roll-Expr (Look n)) operand place le (ap (λ (f : ℕ → Bool). f (level op + 1)) (fits_is (Look n)))
joins_at op x operand (Group a) place le fit = joins-leaf op x (roll-Expr (Group a.0)) operand place le (ap (λ (f : ℕ → Bool). f (level op + 1)) (fits_is (Group a.0)) ∙ sym (ap (λ (f : ℕ → Bool). f place) (fits_is (Group a.0))) ∙ fit)
joins_at op x operand (Unary sign a) place le fit = joins-leaf op x (roll-Expr (Unary sign a.0)) operand place le (ap (λ (f : ℕ → Bool). f (level op + 1)) (fits_is (Unary sign a.0)) ∙ sym (ap (λ (f : ℕ → Bool). f place) (fits_is (Unary sign a.0))) ∙ fit)
joins_at op x operand (Binary o a b) place le fit =
    let p = binary-parts o a.0 b.0 place fit in
    elim (order (level o) (level op)) [
      | inl h ↦
          (let y = a.1 (level o) h p.1 in (
            roll-Expr (Binary o y.0 b.0),
            fits-binary o y.0 b.0 place p.0 y.1 p.2,
            spelled_is (Binary o y.0 b.0) ∙ ap (λ (ts : List Token). ts ++ Operator o ∷ spelled b.0) y.2 ∙ append_assoc (spelled x) (Operator op ∷ spelled a.0) (Operator o ∷ spelled b.0)
                ∙ ap (λ (ts : List Token). spelled x ++ Operator op ∷ ts) (sym (spelled_is (Binary o a.0 b.0))),
          ))
      | inr h ↦
          (let tight : level op + 1 ≤ level o = omega arith in
          joins-leaf op x (roll-Expr (Binary o a.0 b.0)) operand place le (fits-binary o a.0 b.0 (level op + 1) tight p.1 p.2))
    ]
joins_at op x operand (Choose a b c) place le fit =
    let p = choose-parts a.0 b.0 c.0 place fit in
    let some = (level_some op).0 in
    let one : 1 ≤ level op = omega arith in
    let y = a.1 1 one p.1 in (
      roll-Expr (Choose y.0 b.0 c.0),
      subst (λ (n : ℕ). fits (roll-Expr (Choose y.0 b.0 c.0)) n ≡ true) (sym p.0) (fits-choose y.0 b.0 c.0 y.1 p.2 p.3),
      spelled_is (Choose y.0 b.0 c.0) ∙ ap (λ (ts : List Token). ts ++ Question ∷ (spelled b.0 ++ Colon ∷ spelled c.0)) y.2 ∙ append_assoc (spelled x) (Operator op ∷ spelled a.0) (Question ∷ (spelled b.0 ++ Colon ∷ spelled c.0))
          ∙ ap (λ (ts : List Token). spelled x ++ Operator op ∷ ts) (sym (spelled_is (Choose a.0 b.0 c.0))),
    )

joins : (op : BinOp) (x : Expr) → Operand x → (z : Expr) → Joins op x z
joins op x operand = induct (Joins op x) (joins_at op x operand)

-- any expression may follow these tokens
abbrev pub Opens : List Token → Type 0
Opens ts = (x : Expr) → fits x 0 ≡ true → (y : Expr) × (fits y 0 ≡ true) × (spelled y ≡ ts ++ spelled x)

pub opens-nil : Opens []
opens-nil x fit = (x, fit, refl)

opens-append : (ts us : List Token) → Opens ts → Opens us → Opens (ts ++ us)
opens-append ts us o p x fit =
    let y = p x fit in
    let z = o y.0 y.1 in
    (z.0, z.1, z.2 ∙ ap (λ (vs : List Token). ts ++ vs) y.2 ∙ sym (append_assoc ts us (spelled x)))

opens-sign : (op : UnOp) → Opens (unary_sign op ∷ [])
opens-sign op x fit = signs op x 0 fit

opens-operator : (op : BinOp) (x : Expr) → Operand x → Opens (spelled x ++ Operator op ∷ [])
opens-operator op x operand z fit =
    let le : 0 ≤ level op = omega arith in
    let y = joins op x operand z 0 le fit in
    (y.0, y.1, y.2 ∙ sym (append_assoc (spelled x) (Operator op ∷ []) (spelled z)))

opens-colon : (a b : Expr) → fits a 1 ≡ true → fits b 0 ≡ true → Opens (spelled a ++ Question ∷ (spelled b ++ Colon ∷ []))
opens-colon a b h k c fit = (
  roll-Expr (Choose a b c),
  fits-choose a b c h k fit,
  spelled_is (Choose a b c) ∙ sym (append_assoc (spelled a) (Question ∷ (spelled b ++ Colon ∷ [])) (spelled c) ∙ ap (λ (ts : List Token). spelled a ++ Question ∷ ts) (append_assoc (spelled b) (Colon ∷ []) (spelled c))),
)

operand-number : (n : ℤ) → Operand (roll-Expr (Num n))
operand-number n place = ap (λ (f : ℕ → Bool). f place) (fits_is (Num n))

operand-text : (t : List ℕ) → Operand (roll-Expr (Lit t))
operand-text t place = ap (λ (f : ℕ → Bool). f place) (fits_is (Lit t))

pub operand-name : (n : List ℕ) → Operand (roll-Expr (Look n))
operand-name n place = ap (λ (f : ℕ → Bool). f place) (fits_is (Look n))

operand-group : (a : Expr) → fits a 0 ≡ true → Operand (roll-Expr (Group a))
operand-group a fit place = ap (λ (f : ℕ → Bool). f place) (fits_is (Group a)) ∙ fit

-- a prefix of what begins it begins it too
pub begins-fewer : (X : Type 0) (Is : List Token → X → Type 0) (ts us : List Token) → Begins Is (ts ++ us) → Begins Is ts
begins-fewer X Is ts us b = record { following = us ++ b.following; whole = b.whole; is = subst (λ (vs : List Token). Is vs b.whole) (append_assoc ts us b.following) b.is }

-- whole tokens begin themselves
pub begins-whole : (X : Type 0) (Is : List Token → X → Type 0) (ts : List Token) (x : X) → Is ts x → Begins Is ts
begins-whole X Is ts x is = record { following = []; whole = x; is = subst (λ (vs : List Token). Is vs x) (sym (append-nil ts)) is }

module _ (X : Type 0) (Is : List Token → X → Type 0) (Bare : Type 0) where
  -- after these tokens any expression ends the whole
  abbrev pub Head : List Token → Type 0
  Head ts = (e : Expr) → fits e 0 ≡ true → (x : X) × Is (ts ++ spelled e) x

  pub record Base (ts : List Token) : Type 0 where
    pub head : List Token
    pub tail : List Token
    pub is : ts ≡ head ++ tail
    pub ends : Head head
    pub opens : Opens tail

  pub record InParen (In : List Token → Type 0) (ts : List Token) : Type 0 where
    pub before : List Token
    pub tail : List Token
    pub is : ts ≡ before ++ Open ∷ tail
    pub inner : In before
    pub opens : Opens tail

  pub record InChoice (In : List Token → Type 0) (ts : List Token) : Type 0 where
    pub before : List Token
    pub test : Expr
    pub tail : List Token
    pub is : ts ≡ before ++ (spelled test ++ Question ∷ tail)
    pub inner : In before
    pub fit : fits test 1 ≡ true
    pub opens : Opens tail

  -- tokens that an expression may follow, within what is open
  abbrev pub Inside : List Opened → List Token → Type 0
  Inside [] ts = Bare × Base ts
  Inside (Whole ∷ os) ts = Base ts
  Inside (Paren ∷ os) ts = InParen (Inside os) ts
  Inside (Choice ∷ os) ts = InChoice (Inside os) ts

  pub record Past (os : List Opened) (ts : List Token) : Type 0 where
    pub before : List Token
    pub last : Expr
    pub is : ts ≡ before ++ spelled last
    pub inner : Inside os before
    pub operand : Operand last

  extend-base : (ts us : List Token) → Base ts → Opens us → Base (ts ++ us)
  extend-base ts us b o = record { head = b.head; tail = b.tail ++ us; is = ap (λ (vs : List Token). vs ++ us) b.is ∙ append_assoc b.head b.tail us; ends = b.ends; opens = opens-append b.tail us b.opens o }

  extend : (os : List Opened) (ts us : List Token) → Inside os ts → Opens us → Inside os (ts ++ us)
  extend [] ts us i o = (i.0, extend-base ts us i.1 o)
  extend (Whole ∷ os) ts us i o = extend-base ts us i o
  extend (Paren ∷ os) ts us i o = record { before = i.before; tail = i.tail ++ us; is = ap (λ (vs : List Token). vs ++ us) i.is ∙ append_assoc i.before (Open ∷ i.tail) us; inner = i.inner; opens = opens-append i.tail us i.opens o }
  extend (Choice ∷ os) ts us i o = record {
    before = i.before;
    test = i.test;
    tail = i.tail ++ us;
    is = ap (λ (vs : List Token). vs ++ us) i.is ∙ append_assoc i.before (spelled i.test ++ Question ∷ i.tail) us ∙ ap (λ (vs : List Token). i.before ++ vs) (append_assoc (spelled i.test) (Question ∷ i.tail) us);
    inner = i.inner;
    fit = i.fit;
    opens = opens-append i.tail us i.opens o;
  }

  -- an operand after tokens that an expression may follow
  past-operand : (os : List Opened) (ts : List Token) (x : Expr) (t : Token) → Inside os ts → Operand x → spelled x ≡ t ∷ [] → Past os (ts ++ t ∷ [])
  past-operand os ts x t i operand is = record { before = ts; last = x; is = ap (λ (vs : List Token). ts ++ vs) (sym is); inner = i; operand = operand }

  open-paren : (os : List Opened) (ts : List Token) → Inside os ts → Inside (Paren ∷ os) (ts ++ Open ∷ [])
  open-paren os ts i = record { before = ts; tail = []; is = refl; inner = i; opens = opens-nil }

  past-operator : (os : List Opened) (ts : List Token) (op : BinOp) → Past os ts → Inside os (ts ++ Operator op ∷ [])
  past-operator os ts op p =
      subst (Inside os) (sym (append_assoc p.before (spelled p.last) (Operator op ∷ [])) ∙ ap (λ (vs : List Token). vs ++ Operator op ∷ []) (sym p.is))
      (extend os p.before (spelled p.last ++ Operator op ∷ []) p.inner (opens-operator op p.last p.operand))

  past-question : (os : List Opened) (ts : List Token) → Past os ts → Inside (Choice ∷ os) (ts ++ Question ∷ [])
  past-question os ts p = record { before = p.before; test = p.last; tail = []; is = ap (λ (vs : List Token). vs ++ Question ∷ []) p.is ∙ append_assoc p.before (spelled p.last) (Question ∷ []); inner = p.inner; fit = p.operand 1; opens = opens-nil }

  past-colon : (os : List Opened) (ts : List Token) → Past (Choice ∷ os) ts → Inside os (ts ++ Colon ∷ [])
  past-colon os ts p =
      let i = p.inner in
      let y = i.opens p.last (p.operand 0) in
      let grown = extend os i.before (spelled i.test ++ Question ∷ (spelled y.0 ++ Colon ∷ [])) i.inner (opens-colon i.test y.0 i.fit y.1) in
      let e : i.before ++ (spelled i.test ++ Question ∷ (spelled y.0 ++ Colon ∷ [])) ≡ ts ++ Colon ∷ [] =
      ap (λ (vs : List Token). i.before ++ (spelled i.test ++ Question ∷ (vs ++ Colon ∷ []))) y.2
      ∙ sym (ap (λ (vs : List Token). vs ++ Colon ∷ []) (p.is ∙ ap (λ (vs : List Token). vs ++ spelled p.last) i.is) ∙ simp append_assoc refl) in
      subst (Inside os) e grown

  past-close : (os : List Opened) (ts : List Token) → Past (Paren ∷ os) ts → Past os (ts ++ Close ∷ [])
  past-close os ts p =
      let i = p.inner in
      let y = i.opens p.last (p.operand 0) in
      record {
        before = i.before;
        last = roll-Expr (Group y.0);
        is = ap (λ (vs : List Token). vs ++ Close ∷ []) (p.is ∙ ap (λ (vs : List Token). vs ++ spelled p.last) i.is)
            ∙ append_assoc (i.before ++ Open ∷ i.tail) (spelled p.last) (Close ∷ []) ∙ append_assoc i.before (Open ∷ i.tail) (spelled p.last ++ Close ∷ [])
            ∙ ap (λ (vs : List Token). i.before ++ Open ∷ vs) (sym (append_assoc i.tail (spelled p.last) (Close ∷ [])) ∙ ap (λ (vs : List Token). vs ++ Close ∷ []) (sym y.2))
            ∙ ap (λ (vs : List Token). i.before ++ vs) (sym (spelled_is (Group y.0)));
        inner = i.inner;
        operand = operand-group y.0 y.1;
      }

  whole-base : (ts before : List Token) (x : Expr) → ts ≡ before ++ spelled x → Base before → Operand x → (w : X) × Is ts w
  whole-base ts before x is b operand =
      let y = b.opens x (operand 0) in
      let w = b.ends y.0 y.1 in
      (w.0, subst (λ (vs : List Token). Is vs w.0) (ap (λ (vs : List Token). b.head ++ vs) y.2 ∙ sym (append_assoc b.head b.tail (spelled x)) ∙ ap (λ (vs : List Token). vs ++ spelled x) (sym b.is) ∙ sym is) w.1)

  -- after an operand with nothing open the tokens are whole
  pub past-whole : (ts : List Token) → Past [] ts → (w : X) × Is ts w
  past-whole ts p = whole-base ts p.before p.last p.is p.inner.1 p.operand

  pub alone-whole : (os : List Opened) (ts : List Token) → Past (Whole ∷ os) ts → (w : X) × Is ts w
  alone-whole os ts p = whole-base ts p.before p.last p.is p.inner p.operand

  -- what is open can be closed
  pub past-begins : (os : List Opened) (ts : List Token) → Past os ts → Begins Is ts
  past-begins [] ts p = let w = past-whole ts p in begins-whole X Is ts w.0 w.1
  past-begins (Whole ∷ os) ts p = let w = alone-whole os ts p in begins-whole X Is ts w.0 w.1
  past-begins (Paren ∷ os) ts p = begins-fewer X Is ts (Close ∷ []) (past-begins os (ts ++ Close ∷ []) (past-close os ts p))
  past-begins (Choice ∷ os) ts p =
      begins-fewer X Is ts (Colon ∷ []) (begins-fewer X Is (ts ++ Colon ∷ []) (Number (pos 0) ∷ [])
      (past-begins os ((ts ++ Colon ∷ []) ++ Number (pos 0) ∷ []) (past-operand os (ts ++ Colon ∷ []) (roll-Expr (Num (pos 0))) (Number (pos 0)) (past-colon os ts p) (operand-number (pos 0)) (spelled_is (Num (pos 0))))))

  pub inside-begins : (os : List Opened) (ts : List Token) → Inside os ts → Begins Is ts
  inside-begins os ts i =
      begins-fewer X Is ts (Number (pos 0) ∷ [])
      (past-begins os (ts ++ Number (pos 0) ∷ []) (past-operand os ts (roll-Expr (Num (pos 0))) (Number (pos 0)) i (operand-number (pos 0)) (spelled_is (Num (pos 0)))))

  pub name-past : (os : List Opened) (ts : List Token) (name : List ℕ) → Inside os ts → Past os (ts ++ Word name ∷ [])
  name-past os ts name i = past-operand os ts (roll-Expr (Look name)) (Word name) i (operand-name name) (spelled_is (Look name))

  module _ (Opening : List Token → Type 0) (Later : List Token → Type 0) (Named_at : List Token → Type 0) where
    -- what the tokens are that lead to a spot
    abbrev pub At : Stage → List Opened → List Token → Type 0
    At Blank os ts = (os ≡ []) × Opening ts
    At Start os ts = (os ≡ []) × Later ts
    At Named os ts = (os ≡ []) × Named_at ts
    At Before os ts = Inside os ts
    At After os ts = Past os ts

    abbrev pub Moves : Option Spot → List Token → Type 0
    Moves None ts = Unit {0}
    Moves (Some s) ts = At s.0 s.1 ts

    minus-moves : (op : BinOp) (os : List Opened) (ts : List Token) → Inside os ts → Moves (after_minus op (Some (Before, os))) (ts ++ Operator op ∷ [])
    minus-moves Sub os ts i = extend os ts (Operator Sub ∷ []) i (opens-sign Neg)
    minus-moves Add os ts i = tt
    minus-moves Mul os ts i = tt
    minus-moves Div os ts i = tt
    minus-moves And os ts i = tt
    minus-moves Or os ts i = tt
    minus-moves BitAnd os ts i = tt
    minus-moves BitOr os ts i = tt
    minus-moves BitXor os ts i = tt
    minus-moves (Compare c) os ts i = tt

    -- a token where an operand may stand
    pub operand-moves : (stage : Stage) (os : List Opened) (ts : List Token) (t : Token) → Inside os ts → ((name : List ℕ) → t ≡ Word name → At stage os (ts ++ Word name ∷ [])) → Moves (operand_step stage os t) (ts ++ t ∷ [])
    operand-moves stage os ts (Number n) i w = past-operand os ts (roll-Expr (Num n)) (Number n) i (operand-number n) (spelled_is (Num n))
    operand-moves stage os ts (Text n) i w = past-operand os ts (roll-Expr (Lit n)) (Text n) i (operand-text n) (spelled_is (Lit n))
    operand-moves stage os ts (Word name) i w = w name refl
    operand-moves stage os ts (Operator op) i w = minus-moves op os ts i
    operand-moves stage os ts Bang i w = extend os ts (Bang ∷ []) i (opens-sign Not)
    operand-moves stage os ts Tilde i w = extend os ts (Tilde ∷ []) i (opens-sign Flip)
    operand-moves stage os ts Question i w = tt
    operand-moves stage os ts Colon i w = tt
    operand-moves stage os ts Open i w = open-paren os ts i
    operand-moves stage os ts Close i w = tt
    operand-moves stage os ts Semicolon i w = tt
    operand-moves stage os ts Creates i w = tt
    operand-moves stage os ts Assigns i w = tt
    operand-moves stage os ts (Changes op) i w = tt

    colon-moves : (os : List Opened) (ts : List Token) → Past os ts → Moves (closing_step Choice Before os) (ts ++ Colon ∷ [])
    colon-moves [] ts p = tt
    colon-moves (Whole ∷ os) ts p = tt
    colon-moves (Paren ∷ os) ts p = tt
    colon-moves (Choice ∷ os) ts p = past-colon os ts p

    close-moves : (os : List Opened) (ts : List Token) → Past os ts → Moves (closing_step Paren After os) (ts ++ Close ∷ [])
    close-moves [] ts p = tt
    close-moves (Whole ∷ os) ts p = tt
    close-moves (Paren ∷ os) ts p = past-close os ts p
    close-moves (Choice ∷ os) ts p = tt

    semicolon-moves : (os : List Opened) (ts : List Token) → ((us : List Token) → Past [] us → Later (us ++ Semicolon ∷ [])) → Past os ts → Moves (semicolon_step os) (ts ++ Semicolon ∷ [])
    semicolon-moves [] ts ends p = (refl, ends ts p)
    semicolon-moves (o ∷ os) ts ends p = tt

    -- a token after an operand
    pub following-moves : (os : List Opened) (ts : List Token) (t : Token) → ((us : List Token) → Past [] us → Later (us ++ Semicolon ∷ [])) → Past os ts → Moves (after_step os t) (ts ++ t ∷ [])
    following-moves os ts (Number n) ends p = tt
    following-moves os ts (Text n) ends p = tt
    following-moves os ts (Word name) ends p = tt
    following-moves os ts (Operator op) ends p = past-operator os ts op p
    following-moves os ts Bang ends p = tt
    following-moves os ts Tilde ends p = tt
    following-moves os ts Question ends p = past-question os ts p
    following-moves os ts Colon ends p = colon-moves os ts p
    following-moves os ts Open ends p = tt
    following-moves os ts Close ends p = close-moves os ts p
    following-moves os ts Semicolon ends p = semicolon-moves os ts ends p
    following-moves os ts Creates ends p = tt
    following-moves os ts Assigns ends p = tt
    following-moves os ts (Changes op) ends p = tt

    moves-run : ((s : Spot) (ts : List Token) (t : Token) → At s.0 s.1 ts → Moves (step s t) (ts ++ t ∷ [])) →
        (o : Option Spot) (front ts : List Token) → Moves o front → Moves (then_spot o (run ts)) (front ++ ts)
    moves-run go None front ts m = tt
    moves-run go (Some s) front [] m = subst (At s.0 s.1) (sym (append-nil front)) m
    moves-run go (Some s) front (t ∷ ts) m =
        subst (Moves (then_spot (step s t) (run ts))) (append_assoc front (t ∷ []) ts) (moves-run go (step s t) (front ++ t ∷ []) ts (go s front t m))

    -- where tokens lead they are what the spot says
    pub led-at : ((s : Spot) (ts : List Token) (t : Token) → At s.0 s.1 ts → Moves (step s t) (ts ++ t ∷ [])) →
        (start spot : Spot) (ts : List Token) → At start.0 start.1 [] → run ts start ≡ Some spot → At spot.0 spot.1 ts
    led-at go start spot ts begin led = subst (λ (o : Option Spot). Moves o ts) led (moves-run go (Some start) [] ts begin)
