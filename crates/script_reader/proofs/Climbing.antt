-- Climbing finds exactly the expressions of the grammar.
use Rattle.std.proofs.Common.{◌≡◌, ℕ, zero, suc, ◌<◌, ◌≤◌, ◌+◌, max, Bool, true, false, ◌&&◌, ◌==◌, cond, List, [], ◌∷◌, ◌++◌, Option, Some, None, refl, ap, sym, ◌∙◌, subst, arith, append_assoc, ◌⊎◌, inl, inr}
use Rattle.std.specs.Prelude.{nat_le}
use Rattle.std.proofs.lemmas.Bool.Decides.{nat_tests}
use Rattle.spec_script.specs.declared.syntax.BinOp.{BinOp}
use Rattle.spec_script.specs.declared.syntax.UnOp.{UnOp}
use Rattle.spec_script.specs.declared.syntax.UnOp.TheVariants.{Neg, Not, Flip}
use Rattle.spec_script.specs.declared.syntax.Expr.{Expr, Expr-F, roll-Expr, map-Expr}
use Rattle.spec_script.specs.declared.syntax.Expr.TheOpen.{Num, Lit, Look, Group, Unary, Binary, Choose}
use Rattle.spec_script.specs.declared.token.Token.{Token}
use Rattle.spec_script.specs.declared.token.Token.TheVariants.{Number, Text, Word, Operator, Bang, Tilde, Question, Colon, Open, Close, Semicolon, Creates, Assigns, Changes}
use Rattle.spec_script.specs.Grammar.{level, unary_sign, spelled, fits, height}
use Rattle.script_reader.specs.Climb.{Found, then_found, closed, negated, first, Next, Ends, Infix, Asks, next_of, last_part, go_on, more, climb}
use Rattle.spec_script.proofs.Bools.{both}
use Rattle.spec_script.proofs.Trees.{induct, spelled_is, fits_is, height_is}
use Rattle.spec_script.proofs.Levels.{level_some, le-yes, le-from, eq-from}

-- the sign in front that may follow an expression and take it in, with its level
pub data Front : Type 0 where
  Sign : BinOp → Front
  Mark : Front
  Other : Front

abbrev pub front_of : List Token → Front
front_of [] = Other
front_of (Operator op ∷ ts) = Sign op
front_of (Question ∷ ts) = Mark
front_of (t ∷ ts) = Other

abbrev pub stops_before : ℕ → Front → Type 0
stops_before place (Sign op) = level op < place
stops_before place Mark = 0 < place
stops_before place Other = Unit {0}

abbrev pub ends_before : ℕ → Front → Type 0
ends_before place (Sign op) = level op ≤ place
ends_before place Mark = 0 < place
ends_before place Other = Unit {0}

-- no sign of this level or a tighter one stands in front
abbrev pub Stops : ℕ → List Token → Type 0
Stops place ts = stops_before place (front_of ts)

-- what stands in front may take in an expression of this level as a whole
abbrev pub Ends_at : ℕ → List Token → Type 0
Ends_at place ts = ends_before place (front_of ts)

pub le-no : (a b : ℕ) → b < a → nat_le a b ≡ false
le-no a b h = grind (arith, nat_tests)

pub eq-no : (a : ℕ) → 0 < a → (a == 0) ≡ false
eq-no a h = grind (arith, nat_tests)

-- where no sign stands in front, nothing is next
pub next-stops : (place : ℕ) (ts : List Token) → Stops place ts → next_of place ts ≡ Ends
next-stops place [] h = refl
next-stops place (Operator op ∷ ts) h = ap (λ (b : Bool). cond b (Infix op ts) Ends) (le-no place (level op) h)
next-stops place (Question ∷ ts) h = ap (λ (b : Bool). cond b (Asks ts) Ends) (eq-no place h)
next-stops place (Number n ∷ ts) h = refl
next-stops place (Text n ∷ ts) h = refl
next-stops place (Word n ∷ ts) h = refl
next-stops place (Bang ∷ ts) h = refl
next-stops place (Tilde ∷ ts) h = refl
next-stops place (Colon ∷ ts) h = refl
next-stops place (Open ∷ ts) h = refl
next-stops place (Close ∷ ts) h = refl
next-stops place (Semicolon ∷ ts) h = refl
next-stops place (Creates ∷ ts) h = refl
next-stops place (Assigns ∷ ts) h = refl
next-stops place (Changes op ∷ ts) h = refl

stops-ten : (f : Front) → stops_before 10 f
stops-ten (Sign op) = (level_some op).1
stops-ten Mark = omega arith
stops-ten Other = tt

pub Stops-ten : (ts : List Token) → Stops 10 ts
Stops-ten ts = stops-ten (front_of ts)

ends-from_stops : (place : ℕ) (f : Front) → stops_before place f → ends_before place f
ends-from_stops place (Sign op) h = omega arith
ends-from_stops place Mark h = h
ends-from_stops place Other h = tt

Ends-from_stops : (place : ℕ) (ts : List Token) → Stops place ts → Ends_at place ts
Ends-from_stops place ts = ends-from_stops place (front_of ts)

stops-tighter : (place tight : ℕ) (f : Front) → place < tight → ends_before place f → stops_before tight f
stops-tighter place tight (Sign op) less h = omega arith
stops-tighter place tight Mark less h = omega arith
stops-tighter place tight Other less h = tt

-- after a part of a tighter level
Stops-tighter : (place tight : ℕ) (ts : List Token) → place < tight → Ends_at place ts → Stops tight ts
Stops-tighter place tight ts = stops-tighter place tight (front_of ts)

stops-zero : (f : Front) → ends_before 0 f → stops_before 0 f
stops-zero (Sign op) h = let some = (level_some op).0 in absurd (omega arith)
stops-zero Mark h = absurd (omega arith)
stops-zero Other h = tt

-- after the last part of a choice
Stops-zero : (ts : List Token) → Ends_at 0 ts → Stops 0 ts
Stops-zero ts = stops-zero (front_of ts)

-- the expression where it is no higher than this
abbrev pub low : ℕ → Expr → List Token → Option Found
low left e rest = cond (nat_le (height e) left) (Some (e, rest)) None

-- What follows an expression takes it in after enough turns.
abbrev GoesOn : Expr → Type 0
GoesOn e = (left place tight : ℕ) (rest : List Token) → place ≤ tight → fits e tight ≡ true → Ends_at tight rest →
    (turns : ℕ) × (left < turns + height e) × (climb (suc left) place (spelled e ++ rest) ≡ cond (nat_le (height e) (suc left)) (more (climb left) left turns place e rest) None)

-- An expression is found with what follows it and does not take it in, if it is not too high.
abbrev pub Finds : Expr → Type 0
Finds e = (limit place : ℕ) (rest : List Token) → fits e place ≡ true → Stops place rest → climb limit place (spelled e ++ rest) ≡ low limit e rest

height_some_at : (y : Expr-F ((e : Expr) × (0 < height e))) → 0 < height (roll-Expr (map-Expr ((e : Expr) × (0 < height e)) Expr (λ e. e.0) y))
height_some_at (Num n) = omega (arith, height_is (Num n))
height_some_at (Lit t) = omega (arith, height_is (Lit t))
height_some_at (Look name) = omega (arith, height_is (Look name))
height_some_at (Group a) = omega (arith, height_is (Group a.0))
height_some_at (Unary op a) = omega (arith, height_is (Unary op a.0))
height_some_at (Binary op a b) = omega (arith, height_is (Binary op a.0 b.0))
height_some_at (Choose a b c) = omega (arith, height_is (Choose a.0 b.0 c.0))

pub height_some : (e : Expr) → 0 < height e
height_some = induct (λ e. 0 < height e) height_some_at

pub more-stops : (lower : ℕ → List Token → Option Found) (left turns place : ℕ) (e : Expr) (rest : List Token) → Stops place rest → more lower left turns place e rest ≡ Some (e, rest)
more-stops lower left zero place e rest h = ap (λ (n : Next). go_on (λ f r. None) lower left e rest n) (next-stops place rest h)
more-stops lower left (suc turns) place e rest h = ap (λ (n : Next). go_on (more lower left turns place) lower left e rest n) (next-stops place rest h)

finds-from_goes_on : (e : Expr) → GoesOn e → Finds e
finds-from_goes_on e g zero place rest fit stop = sym (ap (λ (b : Bool). cond b (Some (e, rest)) None) (le-no (height e) 0 (height_some e)))
finds-from_goes_on e g (suc left) place rest fit stop =
    let same : place ≤ place = omega arith in
    let h = g left place place rest same fit (Ends-from_stops place rest stop) in
    h.2 ∙ ap (λ (o : Option Found). cond (nat_le (height e) (suc left)) o None) (more-stops (climb left) left h.0 place e rest stop)

then-cond : (b : Bool) (e : Expr) (rest : List Token) (next : Expr → List Token → Option Found) → then_found (cond b (Some (e, rest)) None) next ≡ cond b (next e rest) None
then-cond true e rest next = refl
then-cond false e rest next = refl

cond-none : (b : Bool) → cond {A = Option Found} b None None ≡ None
cond-none true = refl
cond-none false = refl

order : (a b : ℕ) → (a ≤ b) ⊎ (b < a)
order a b = elim (nat_le a b) as (λ v. nat_le a b ≡ v → (a ≤ b) ⊎ (b < a)) [ true ↦ λ h. inl (le-from a b h) | false ↦ λ h. inr (grind (arith, nat_tests)) ] refl

le-suc : (a b : ℕ) → nat_le (1 + a) (suc b) ≡ nat_le a b
le-suc a b = elim (order a b) [ inl h ↦ le-yes (1 + a) (suc b) (omega arith) ∙ sym (le-yes a b h) | inr h ↦ le-no (1 + a) (suc b) (omega arith) ∙ sym (le-no a b h) ]

-- both parts are low where the higher one is
two-low : (a b left : ℕ) (m : Option Found) → cond (nat_le a left) (cond (nat_le b left) m None) None ≡ cond (nat_le (max a b) left) m None
two-low a b left m =
    elim (order a left) [
      | inl h ↦ elim (order b left) [
        | inl k ↦ ap (λ (t : Bool). cond t (cond (nat_le b left) m None) None) (le-yes a left h) ∙ ap (λ (t : Bool). cond t m None) (le-yes b left k ∙ sym (le-yes (max a b) left (omega arith)))
        | inr k ↦ ap (λ (t : Bool). cond t (cond (nat_le b left) m None) None) (le-yes a left h) ∙ ap (λ (t : Bool). cond t m None) (le-no b left k ∙ sym (le-no (max a b) left (omega arith)))
      ]
      | inr h ↦ ap (λ (t : Bool). cond t (cond (nat_le b left) m None) None) (le-no a left h) ∙ sym (ap (λ (t : Bool). cond t m None) (le-no (max a b) left (omega arith)))
    ]

-- a part that is low enough for one level more
wide-low : (a left : ℕ) (m : Option Found) → cond (nat_le a (suc left)) (cond (nat_le a left) m None) None ≡ cond (nat_le a left) m None
wide-low a left m =
    elim (order a left) [
      | inl h ↦ ap (λ (t : Bool). cond t (cond (nat_le a left) m None) None) (le-yes a (suc left) (omega arith))
      | inr h ↦ ap (λ (o : Option Found). cond (nat_le a (suc left)) o None) (ap (λ (t : Bool). cond t m None) (le-no a left h)) ∙ cond-none (nat_le a (suc left)) ∙ sym (ap (λ (t : Bool). cond t m None) (le-no a left h))
    ]

-- an operand goes on where it is found
operand : (e : Expr) → ((left tight : ℕ) (rest : List Token) → fits e tight ≡ true → first (climb left) (spelled e ++ rest) ≡ low (suc left) e rest) → GoesOn e
operand e found left place tight rest le fit ends =
    let some = height_some e in
    let enough : left < left + height e = omega arith in
    (left, enough, ap (λ (o : Option Found). then_found o (more (climb left) left left place)) (found left tight rest fit) ∙ then-cond (nat_le (height e) (suc left)) e rest (more (climb left) left left place))

-- the height of an operation, by its parts
low-by_parts : (e : Expr) (n left : ℕ) (m : Option Found) → height e ≡ 1 + n → cond (nat_le n left) m None ≡ cond (nat_le (height e) (suc left)) m None
low-by_parts e n left m h = ap (λ (b : Bool). cond b m None) (sym (le-suc n left) ∙ ap (λ (k : ℕ). nat_le k (suc left)) (sym h))

-- the right part of a binary operation, after its left part and its sign
infix-step : (op : BinOp) (a b : Expr) (left place tight : ℕ) (rest : List Token) (again : Expr → List Token → Option Found) →
    Finds b → place ≤ tight → tight ≤ level op → fits b (level op + 1) ≡ true → Ends_at tight rest →
    cond (nat_le (height a) (suc left)) (go_on again (climb left) left a (Operator op ∷ (spelled b ++ rest)) (next_of place (Operator op ∷ (spelled b ++ rest)))) None
    ≡ cond (nat_le (height (roll-Expr (Binary op a b))) (suc left)) (again (roll-Expr (Binary op a b)) rest) None
infix-step op a b left place tight rest again fb le tl fit ends =
    let ts = spelled b ++ rest in
    let next : next_of place (Operator op ∷ ts) ≡ Infix op ts = ap (λ (t : Bool). cond t (Infix op ts) Ends) (le-yes place (level op) (omega arith)) in
    let following : tight < level op + 1 = omega arith in
    ap (λ (n : Next). cond (nat_le (height a) (suc left)) (go_on again (climb left) left a (Operator op ∷ ts) n) None) next
    ∙ wide-low (height a) left (then_found (climb left (level op + 1) ts) (λ x. again (roll-Expr (Binary op a x))))
    ∙ ap (λ (o : Option Found). cond (nat_le (height a) left) (then_found o (λ x. again (roll-Expr (Binary op a x)))) None) (fb left (level op + 1) rest fit (Stops-tighter tight (level op + 1) rest following ends))
    ∙ ap (λ (o : Option Found). cond (nat_le (height a) left) o None) (then-cond (nat_le (height b) left) b rest (λ x. again (roll-Expr (Binary op a x))))
    ∙ two-low (height a) (height b) left (again (roll-Expr (Binary op a b)) rest)
    ∙ low-by_parts (roll-Expr (Binary op a b)) (max (height a) (height b)) left (again (roll-Expr (Binary op a b)) rest) (height_is (Binary op a b))

binary-turns : (op : BinOp) (a b : Expr) (left place tight : ℕ) (rest : List Token) →
    Finds b → place ≤ tight → tight ≤ level op → fits b (level op + 1) ≡ true → Ends_at tight rest →
    (turns : ℕ) → left < turns + height a →
    climb (suc left) place (spelled a ++ Operator op ∷ (spelled b ++ rest)) ≡ cond (nat_le (height a) (suc left)) (more (climb left) left turns place a (Operator op ∷ (spelled b ++ rest))) None →
    (more_turns : ℕ) × (left < more_turns + height (roll-Expr (Binary op a b)))
    × (climb (suc left) place (spelled (roll-Expr (Binary op a b)) ++ rest) ≡ cond (nat_le (height (roll-Expr (Binary op a b))) (suc left)) (more (climb left) left more_turns place (roll-Expr (Binary op a b)) rest) None)
binary-turns op a b left place tight rest fb le tl fit ends zero enough is =
    let e = roll-Expr (Binary op a b) in
    let tall = height_is (Binary op a b) in
    let spell = ap (λ (ts : List Token). ts ++ rest) (spelled_is (Binary op a b)) ∙ append_assoc (spelled a) (Operator op ∷ spelled b) rest in
    let big : suc left < height e = omega (arith, tall) in
    let some : left < 0 + height e = omega arith in (
      0,
      some,
      ap (λ (ts : List Token). climb (suc left) place ts) spell ∙ is
          ∙ infix-step op a b left place tight rest (λ f r. None) fb le tl fit ends
          ∙ cond-none (nat_le (height e) (suc left)) ∙ sym (ap (λ (t : Bool). cond t (more (climb left) left 0 place e rest) None) (le-no (height e) (suc left) big)),
    )
binary-turns op a b left place tight rest fb le tl fit ends (suc turns) enough is =
    let e = roll-Expr (Binary op a b) in
    let tall = height_is (Binary op a b) in
    let spell = ap (λ (ts : List Token). ts ++ rest) (spelled_is (Binary op a b)) ∙ append_assoc (spelled a) (Operator op ∷ spelled b) rest in
    let some : left < turns + height e = omega (arith, tall) in (
      turns,
      some,
      ap (λ (ts : List Token). climb (suc left) place ts) spell ∙ is
          ∙ infix-step op a b left place tight rest (more (climb left) left turns place) fb le tl fit ends,
    )

-- a binary operation goes on where its left part does
binary : (op : BinOp) (a b : Expr) → GoesOn a → GoesOn b → GoesOn (roll-Expr (Binary op a b))
binary op a b ga gb left place tight rest le fit ends =
    let parts = sym (ap (λ (f : ℕ → Bool). f tight) (fits_is (Binary op a b))) ∙ fit in
    let p = both (nat_le tight (level op)) (fits a (level op) && fits b (level op + 1)) parts in
    let q = both (fits a (level op)) (fits b (level op + 1)) p.1 in
    let tl = le-from tight (level op) p.0 in
    let same : level op ≤ level op = omega arith in
    let below : place ≤ level op = omega arith in
    let g = ga left place (level op) (Operator op ∷ (spelled b ++ rest)) below q.0 same in
    binary-turns op a b left place tight rest (finds-from_goes_on b gb) le tl q.1 ends g.0 g.1 g.2

-- the parts of a choice after its test
asks-step : (a b c : Expr) (left : ℕ) (rest : List Token) (again : Expr → List Token → Option Found) →
    Finds b → Finds c → fits b 0 ≡ true → fits c 0 ≡ true → Stops 0 rest →
    cond (nat_le (height a) (suc left)) (go_on again (climb left) left a (Question ∷ (spelled b ++ Colon ∷ (spelled c ++ rest))) (next_of 0 (Question ∷ (spelled b ++ Colon ∷ (spelled c ++ rest))))) None
    ≡ cond (nat_le (height (roll-Expr (Choose a b c))) (suc left)) (Some (roll-Expr (Choose a b c), rest)) None
asks-step a b c left rest again fb fc fit_b fit_c stop =
    let ts = spelled c ++ rest in
    let e = roll-Expr (Choose a b c) in
    let end : Expr → List Token → Option Found = λ x r. Some (roll-Expr (Choose a b x), r) in
    wide-low (height a) left (then_found (climb left 0 (spelled b ++ Colon ∷ ts)) (last_part (climb left) a))
    ∙ ap (λ (o : Option Found). cond (nat_le (height a) left) (then_found o (last_part (climb left) a)) None) (fb left 0 (Colon ∷ ts) fit_b tt)
    ∙ ap (λ (o : Option Found). cond (nat_le (height a) left) o None) (then-cond (nat_le (height b) left) b (Colon ∷ ts) (last_part (climb left) a))
    ∙ ap (λ (o : Option Found). cond (nat_le (height a) left) (cond (nat_le (height b) left) (then_found o end) None) None) (fc left 0 rest fit_c stop)
    ∙ ap (λ (o : Option Found). cond (nat_le (height a) left) (cond (nat_le (height b) left) o None) None) (then-cond (nat_le (height c) left) c rest end)
    ∙ ap (λ (o : Option Found). cond (nat_le (height a) left) o None) (two-low (height b) (height c) left (Some (e, rest)))
    ∙ two-low (height a) (max (height b) (height c)) left (Some (e, rest))
    ∙ low-by_parts e (max (height a) (max (height b) (height c))) left (Some (e, rest)) (height_is (Choose a b c))

choice-turns : (a b c : Expr) (left : ℕ) (rest : List Token) →
    Finds b → Finds c → fits b 0 ≡ true → fits c 0 ≡ true → Stops 0 rest → (turns : ℕ) →
    cond (nat_le (height a) (suc left)) (more (climb left) left turns 0 a (Question ∷ (spelled b ++ Colon ∷ (spelled c ++ rest)))) None
    ≡ cond (nat_le (height (roll-Expr (Choose a b c))) (suc left)) (Some (roll-Expr (Choose a b c), rest)) None
choice-turns a b c left rest fb fc fit_b fit_c stop zero = asks-step a b c left rest (λ f r. None) fb fc fit_b fit_c stop
choice-turns a b c left rest fb fc fit_b fit_c stop (suc turns) = asks-step a b c left rest (more (climb left) left turns 0) fb fc fit_b fit_c stop

choice-loose : (a b c : Expr) → GoesOn a → Finds b → Finds c → (left : ℕ) (rest : List Token) →
    fits a 1 ≡ true → fits b 0 ≡ true → fits c 0 ≡ true → Stops 0 rest →
    climb (suc left) 0 (spelled (roll-Expr (Choose a b c)) ++ rest) ≡ cond (nat_le (height (roll-Expr (Choose a b c))) (suc left)) (Some (roll-Expr (Choose a b c), rest)) None
choice-loose a b c ga fb fc left rest fit_a fit_b fit_c stop =
    let zero_one : 0 ≤ 1 = omega arith in
    let some : 0 < 1 = omega arith in
    let g = ga left 0 1 (Question ∷ (spelled b ++ Colon ∷ (spelled c ++ rest))) zero_one fit_a some in
    let spell = ap (λ (ts : List Token). ts ++ rest) (spelled_is (Choose a b c)) ∙ append_assoc (spelled a) (Question ∷ (spelled b ++ Colon ∷ spelled c)) rest
    ∙ ap (λ (ts : List Token). spelled a ++ Question ∷ ts) (append_assoc (spelled b) (Colon ∷ spelled c) rest) in
    ap (λ (ts : List Token). climb (suc left) 0 ts) spell ∙ g.2 ∙ choice-turns a b c left rest fb fc fit_b fit_c stop g.0

-- a choice goes on where its test does
choice : (a b c : Expr) → GoesOn a → GoesOn b → GoesOn c → GoesOn (roll-Expr (Choose a b c))
choice a b c ga gb gc left place tight rest le fit ends =
    let e = roll-Expr (Choose a b c) in
    let parts = sym (ap (λ (f : ℕ → Bool). f tight) (fits_is (Choose a b c))) ∙ fit in
    let p = both (tight == 0) (fits a 1 && (fits b 0 && fits c 0)) parts in
    let q = both (fits a 1) (fits b 0 && fits c 0) p.1 in
    let r = both (fits b 0) (fits c 0) q.1 in
    let none : tight ≡ 0 = eq-from tight 0 p.0 in
    let none_here : place ≡ 0 = omega arith in
    let stop = Stops-zero rest (subst (λ (n : ℕ). Ends_at n rest) none ends) in
    let tall = height_some e in
    let enough : left < left + height e = omega arith in (
      left,
      enough,
      subst (λ (n : ℕ). climb (suc left) n (spelled e ++ rest) ≡ cond (nat_le (height e) (suc left)) (more (climb left) left left n e rest) None) (sym none_here)
          (choice-loose a b c ga (finds-from_goes_on b gb) (finds-from_goes_on c gc) left rest q.0 r.0 r.1 stop
          ∙ sym (ap (λ (o : Option Found). cond (nat_le (height e) (suc left)) o None) (more-stops (climb left) left left 0 e rest stop))),
    )

one : (e : Expr) (t : Token) (next : Expr) → spelled e ≡ t ∷ [] → height e ≡ 1 → ((lower : ℕ → List Token → Option Found) (rest : List Token) → first lower (t ∷ rest) ≡ Some (e, rest)) → GoesOn e
one e t next is tall found =
    operand e (λ left tight rest fit.
    ap (λ (ts : List Token). first (climb left) (ts ++ rest)) is ∙ found (climb left) rest
    ∙ sym (ap (λ (b : Bool). cond b (Some (e, rest)) None) (le-yes (height e) (suc left) (omega arith))))

unary : (op : UnOp) (a : Expr) → GoesOn a → ((lower : ℕ → List Token → Option Found) (ts : List Token) → first lower (unary_sign op ∷ ts) ≡ then_found (lower 10 ts) (negated op)) → GoesOn (roll-Expr (Unary op a))
unary op a ga sign =
    operand (roll-Expr (Unary op a)) (λ left tight rest fit.
    let inner : fits a 10 ≡ true = sym (ap (λ (f : ℕ → Bool). f tight) (fits_is (Unary op a))) ∙ fit in
    ap (λ (ts : List Token). first (climb left) (ts ++ rest)) (spelled_is (Unary op a)) ∙ sign (climb left) (spelled a ++ rest)
    ∙ ap (λ (o : Option Found). then_found o (negated op)) (finds-from_goes_on a ga left 10 rest inner (Stops-ten rest))
    ∙ then-cond (nat_le (height a) left) a rest (negated op)
    ∙ ap (λ (b : Bool). cond b (Some (roll-Expr (Unary op a), rest)) None) (sym (le-suc (height a) left) ∙ ap (λ (n : ℕ). nat_le n (suc left)) (sym (height_is (Unary op a)))))

group : (a : Expr) → GoesOn a → GoesOn (roll-Expr (Group a))
group a ga =
    operand (roll-Expr (Group a)) (λ left tight rest fit.
    let inner : fits a 0 ≡ true = sym (ap (λ (f : ℕ → Bool). f tight) (fits_is (Group a))) ∙ fit in
    ap (λ (ts : List Token). first (climb left) (ts ++ rest)) (spelled_is (Group a))
    ∙ ap (λ (ts : List Token). then_found (climb left 0 ts) closed) (append_assoc (spelled a) (Close ∷ []) rest)
    ∙ ap (λ (o : Option Found). then_found o closed) (finds-from_goes_on a ga left 0 (Close ∷ rest) inner tt)
    ∙ then-cond (nat_le (height a) left) a (Close ∷ rest) closed
    ∙ ap (λ (b : Bool). cond b (Some (roll-Expr (Group a), rest)) None) (sym (le-suc (height a) left) ∙ ap (λ (n : ℕ). nat_le n (suc left)) (sym (height_is (Group a)))))

goes_on_at : (y : Expr-F ((e : Expr) × GoesOn e)) → GoesOn (roll-Expr (map-Expr ((e : Expr) × GoesOn e) Expr (λ e. e.0) y))
goes_on_at (Num n) = one (roll-Expr (Num n)) (Number n) (roll-Expr (Num n)) (spelled_is (Num n)) (height_is (Num n)) (λ lower rest. refl)
goes_on_at (Lit t) = one (roll-Expr (Lit t)) (Text t) (roll-Expr (Lit t)) (spelled_is (Lit t)) (height_is (Lit t)) (λ lower rest. refl)
goes_on_at (Look name) = one (roll-Expr (Look name)) (Word name) (roll-Expr (Look name)) (spelled_is (Look name)) (height_is (Look name)) (λ lower rest. refl)
goes_on_at (Group a) = group a.0 a.1
goes_on_at (Unary Neg a) = unary Neg a.0 a.1 (λ lower ts. refl)
goes_on_at (Unary Not a) = unary Not a.0 a.1 (λ lower ts. refl)
goes_on_at (Unary Flip a) = unary Flip a.0 a.1 (λ lower ts. refl)
goes_on_at (Binary op a b) = binary op a.0 b.0 a.1 b.1
goes_on_at (Choose a b c) = choice a.0 b.0 c.0 a.1 b.1 c.1

-- climbing finds each expression of the grammar
pub finds : (e : Expr) → Finds e
finds e = finds-from_goes_on e (induct GoesOn goes_on_at e)

pub found-same : {X : Type 0} (x y : X) → Some x ≡ Some y → x ≡ y
found-same x y h = cc

-- an expression that is followed by what does not take it in has these tokens alone
pub finds-alone : (e f : Expr) (rest more_rest : List Token) → fits e 0 ≡ true → fits f 0 ≡ true → Stops 0 rest → Stops 0 more_rest →
    spelled e ++ rest ≡ spelled f ++ more_rest → (e ≡ f) × (rest ≡ more_rest)
finds-alone e f rest more_rest fit_e fit_f stop_e stop_f same =
    let limit = height e + height f in
    let le : height e ≤ limit = omega arith in
    let lf : height f ≤ limit = omega arith in
    let x = finds e limit 0 rest fit_e stop_e ∙ ap (λ (b : Bool). cond b (Some (e, rest)) None) (le-yes (height e) limit le) in
    let y = finds f limit 0 more_rest fit_f stop_f ∙ ap (λ (b : Bool). cond b (Some (f, more_rest)) None) (le-yes (height f) limit lf) in
    let z = found-same {X = Found} (e, rest) (f, more_rest) (sym x ∙ ap (λ (ts : List Token). climb limit 0 ts) same ∙ y) in
    (ap (λ (p : Found). p.0) z, ap (λ (p : Found). p.1) z)
