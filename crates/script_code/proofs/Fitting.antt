-- A stack has room for the code of an expression that is no higher.
use Rattle.std.proofs.Common.{◌≡◌, ℕ, ◌+◌, ◌-◌, ◌≤◌, max, ℤ, Bool, true, ◌&&◌, List, [], ◌∷◌, ◌++◌, length, refl, sym, ap, ◌∙◌, subst, arith, append_assoc, append-nil, lt-ltb, le-leb, ltb, leb}
use Rattle.std.proofs.lemmas.Bool.{and_from}
use Rattle.spec_script.specs.declared.syntax.BinOp.{BinOp}
use Rattle.spec_script.specs.declared.syntax.BinOp.TheVariants.{Add, Sub, Mul, Div, And, Or, BitAnd, BitOr, BitXor, Compare}
use Rattle.spec_script.specs.declared.syntax.UnOp.{UnOp}
use Rattle.spec_script.specs.declared.syntax.Expr.{Expr, ind-Expr, map-Expr, roll-Expr, fold-roll-Expr}
use Rattle.spec_script.specs.declared.syntax.Expr.TheOpen.{Expr-F, Num, Lit, Look, Group, Unary, Binary, Choose}
use Rattle.spec_script.specs.Grammar.{height_step, height}
use Rattle.script_code.specs.declared.instr.Instr.{Instr}
use Rattle.script_code.specs.declared.instr.Instr.TheVariants as instr
use Rattle.script_code.specs.Postfixes.{operator, with_number, applied, between, operation, choice_code, code_step, code_of}
use Rattle.script_code.specs.Rooms.{fits_step, fits_from, fits}
use Rattle.script_code.proofs.Standing.{following}

module _ (room : ℕ) where
  -- Above this many values, the code needs at most so many places more, and leaves one value.
  abbrev pub Needs : ℕ → List Instr → Type 0
  Needs most code = (rest : List Instr) (above : ℕ) → above + most ≤ room → fits_from room rest 0 (above + 1) ≡ true → fits_from room (code ++ rest) 0 above ≡ true

  past : (a b : List Instr) (n : ℕ) → fits_from room (a ++ b) (length a + n) ≡ fits_from room b n
  past = following (fits_step room) _ _

  -- a code at other heights that are equal
  at_height : (code : List Instr) (place a b : ℕ) → a ≡ b → fits_from room code place a ≡ true → fits_from room code place b ≡ true
  at_height code place a b same fit = subst (λ h. fits_from room code place h ≡ true) same fit

  put_needs : (above most : ℕ) (next : Bool) → above + most ≤ room → 1 ≤ most → next ≡ true → (ltb above room && next) ≡ true
  put_needs above most next le one fit = and_from _ _ (lt-ltb above room (omega arith)) fit

  one_left : (above : ℕ) (next : Bool) → next ≡ true → (ltb 0 (above + 1) && next) ≡ true
  one_left above next fit = and_from _ _ (lt-ltb 0 (above + 1) (omega arith)) fit

  -- a jump by the truth of a value that stands there
  taken : (above most : ℕ) (next : Bool) → above + most ≤ room → 1 ≤ most → next ≡ true → ((ltb 0 (above + 1) && leb (above + 1) room) && next) ≡ true
  taken above most next le one fit = and_from _ _ (and_from _ _ (lt-ltb 0 (above + 1) (omega arith)) (le-leb (above + 1) room (omega arith))) fit

  more_needs : (a b : ℕ) (code : List Instr) → a ≤ b → Needs a code → Needs b code
  more_needs a b code le needs rest above room fit = needs rest above (omega arith) fit

  -- both operands, and then the operator
  abbrev in_turn : BinOp → List Instr → List Instr → List Instr
  in_turn op a b = a ++ applied op b

  unary_needs : (op : UnOp) (n : ℕ) (a : List Instr) → Needs n a → Needs n (a ++ instr.Unary op ∷ [])
  unary_needs op n a needs rest above le fit =
      subst (λ code. fits_from room code 0 above ≡ true) (sym (append_assoc a (instr.Unary op ∷ []) rest))
      (needs (instr.Unary op ∷ rest) above le (one_left above _ fit))

  two_left : (above : ℕ) (rest : List Instr) → fits_from room rest 0 (above + 1) ≡ true → (ltb 1 (above + 1 + 1) && fits_from room rest 0 (above + 1 + 1 - 1)) ≡ true
  two_left above rest fit = let e : above + 1 ≡ above + 1 + 1 - 1 = omega arith in and_from _ _ (lt-ltb 1 (above + 1 + 1) (omega arith)) (at_height rest 0 _ _ e fit)

  operator_fits : (op : BinOp) (rest : List Instr) (above : ℕ) → fits_from room rest 0 (above + 1) ≡ true → fits_from room (operator op ∷ rest) 0 (above + 1 + 1) ≡ true
  operator_fits Add rest above fit = two_left above rest fit
  operator_fits Sub rest above fit = two_left above rest fit
  operator_fits Mul rest above fit = two_left above rest fit
  operator_fits op rest above fit = two_left above rest fit

  number_fits : (op : BinOp) (n : ℤ) (rest : List Instr) (above : ℕ) → fits_from room rest 0 (above + 1) ≡ true → fits_from room (with_number op n ∷ rest) 0 (above + 1) ≡ true
  number_fits Add n rest above fit = one_left above _ fit
  number_fits Sub n rest above fit = one_left above _ fit
  number_fits Mul n rest above fit = one_left above _ fit
  number_fits op n rest above fit = one_left above _ fit

  stacked_needs : (op : BinOp) (n : ℕ) (a b : List Instr) → Needs n a → Needs n b → Needs (1 + n) (a ++ (b ++ operator op ∷ []))
  stacked_needs op n a b na nb rest above le fit =
      subst (λ code. fits_from room code 0 above ≡ true) (sym (append_assoc a (b ++ operator op ∷ []) rest ∙ ap (λ z. a ++ z) (append_assoc b (operator op ∷ []) rest)))
      (na (b ++ operator op ∷ rest) above (omega arith)
      (nb (operator op ∷ rest) (above + 1) (omega arith) (operator_fits op rest above fit)))

  in_turn_needs : (op : BinOp) (n : ℕ) (a b : List Instr) → Needs n a → Needs n b → Needs (1 + n) (in_turn op a b)
  in_turn_needs op n a (instr.Number k ∷ []) na nb rest above le fit =
      subst (λ code. fits_from room code 0 above ≡ true) (sym (append_assoc a (with_number op k ∷ []) rest))
      (na (with_number op k ∷ rest) above (omega arith) (number_fits op k rest above fit))
  in_turn_needs op n a b na nb rest above le fit = stacked_needs op n a b na nb rest above le fit

  -- the right side of `&&` or `||`, where it is evaluated and where it is passed over
  module _ (n : ℕ) (b : List Instr) (nb : Needs n b) (rest : List Instr) (above : ℕ) (le : above + (1 + n) ≤ room) (fit : fits_from room rest 0 (above + 1) ≡ true) where
    right_needs : fits_from room (b ++ instr.Truth ∷ rest) 0 (above + 1 - 1) ≡ true
    right_needs =
        let e : above ≡ above + 1 - 1 = omega arith in
        at_height (b ++ instr.Truth ∷ rest) 0 _ _ e (nb (instr.Truth ∷ rest) above (omega arith) (taken above (1 + n) _ le (omega arith) fit))

    passed_needs : fits_from room (b ++ instr.Truth ∷ rest) (length b + 1) (above + 1) ≡ true
    passed_needs = ap (λ (f : ℕ → Bool). f (above + 1)) (past b (instr.Truth ∷ rest) 1) ∙ fit

  and_needs : (n : ℕ) (a b : List Instr) → Needs n a → Needs n b → Needs (1 + n) (between And a b)
  and_needs n a b na nb rest above le fit =
      let i = instr.AndThen (length b + 1) in
      subst (λ code. fits_from room code 0 above ≡ true) (sym (append_assoc a (i ∷ (b ++ instr.Truth ∷ [])) rest ∙ ap (λ z. a ++ i ∷ z) (append_assoc b (instr.Truth ∷ []) rest)))
      (na (i ∷ (b ++ instr.Truth ∷ rest)) above (omega arith)
      (taken above (1 + n) _ le (omega arith) (and_from _ _ (right_needs n b nb rest above le fit) (passed_needs n b nb rest above le fit))))

  or_needs : (n : ℕ) (a b : List Instr) → Needs n a → Needs n b → Needs (1 + n) (between Or a b)
  or_needs n a b na nb rest above le fit =
      let i = instr.OrElse (length b + 1) in
      subst (λ code. fits_from room code 0 above ≡ true) (sym (append_assoc a (i ∷ (b ++ instr.Truth ∷ [])) rest ∙ ap (λ z. a ++ i ∷ z) (append_assoc b (instr.Truth ∷ []) rest)))
      (na (i ∷ (b ++ instr.Truth ∷ rest)) above (omega arith)
      (taken above (1 + n) _ le (omega arith) (and_from _ _ (right_needs n b nb rest above le fit) (passed_needs n b nb rest above le fit))))

  choice_needs : (n : ℕ) (a b c : List Instr) → Needs n a → Needs n b → Needs n c → Needs n (choice_code a b c)
  choice_needs n a b c na nb nc rest above le fit =
      let i = instr.Unless (length b + 1) in
      let j = instr.Skip (length c) in
      let low : above ≡ above + 1 - 1 = omega arith in
      let over : fits_from room (c ++ rest) (length c) (above + 1) ≡ true =
      (let e : length c ≡ length c + 0 = omega arith in ap (λ n. fits_from room (c ++ rest) n (above + 1)) e ∙ ap (λ (f : ℕ → Bool). f (above + 1)) (past c rest 0) ∙ fit) in
      let first : fits_from room (b ++ j ∷ (c ++ rest)) 0 (above + 1 - 1) ≡ true = at_height (b ++ j ∷ (c ++ rest)) 0 _ _ low (nb (j ∷ (c ++ rest)) above le over) in
      let other : fits_from room (b ++ j ∷ (c ++ rest)) (length b + 1) (above + 1 - 1) ≡ true =
      ap (λ (f : ℕ → Bool). f (above + 1 - 1)) (past b (j ∷ (c ++ rest)) 1) ∙ at_height (c ++ rest) 0 _ _ low (nc rest above le fit) in
      subst (λ code. fits_from room code 0 above ≡ true) (sym (append_assoc a (i ∷ (b ++ j ∷ c)) rest ∙ ap (λ z. a ++ i ∷ z) (append_assoc b (j ∷ c) rest)))
      (na (i ∷ (b ++ j ∷ (c ++ rest))) above le (one_left above _ (and_from _ _ first other)))

  pub between_needs : (op : BinOp) (n : ℕ) (a b : List Instr) → Needs n a → Needs n b → Needs (1 + n) (between op a b)
  between_needs And n a b na nb = and_needs n a b na nb
  between_needs Or n a b na nb = or_needs n a b na nb
  between_needs Add n a b na nb = in_turn_needs Add n a b na nb
  between_needs Sub n a b na nb = in_turn_needs Sub n a b na nb
  between_needs Mul n a b na nb = in_turn_needs Mul n a b na nb
  between_needs Div n a b na nb = in_turn_needs Div n a b na nb
  between_needs BitAnd n a b na nb = in_turn_needs BitAnd n a b na nb
  between_needs BitOr n a b na nb = in_turn_needs BitOr n a b na nb
  between_needs BitXor n a b na nb = in_turn_needs BitXor n a b na nb
  between_needs (Compare c) n a b na nb = in_turn_needs (Compare c) n a b na nb

  operation_needs : (op : BinOp) (n : ℕ) (a b : List Instr) → Needs n a → Needs n b → Needs (1 + n) (operation op a b)
  operation_needs Add n (instr.Number k ∷ []) b na nb = in_turn_needs Add n b (instr.Number k ∷ []) nb na
  operation_needs Mul n (instr.Number k ∷ []) b na nb = in_turn_needs Mul n b (instr.Number k ∷ []) nb na
  operation_needs op n a b na nb = between_needs op n a b na nb

  pub slot_needs : (k : ℕ) → Needs 1 (instr.Slot k ∷ [])
  slot_needs k rest above le fit = put_needs above 1 _ le (omega arith) fit

  module _ (names : List ℕ → ℕ) where
    abbrev ExprNeeds : Expr → Type 0
    ExprNeeds e = Needs (height e) (code_of names e)

    -- a layer, where it holds of the parts
    layer_needs : (y : Expr-F ((e : Expr) × ExprNeeds e)) →
        Needs (height_step (map-Expr Expr ℕ height (map-Expr ((e : Expr) × ExprNeeds e) Expr (λ e. e.0) y)))
        (code_step names (map-Expr Expr (List Instr) (code_of names) (map-Expr ((e : Expr) × ExprNeeds e) Expr (λ e. e.0) y)))
    layer_needs (Num n) = λ rest above le fit. put_needs above 1 _ le (omega arith) fit
    layer_needs (Lit t) = λ rest above le fit. put_needs above 1 _ le (omega arith) fit
    layer_needs (Look name) = slot_needs (names name)
    layer_needs (Group a) = more_needs (height a.0) (1 + height a.0) (code_of names a.0) (omega arith) a.1
    layer_needs (Unary op a) = more_needs (height a.0) (1 + height a.0) (code_of names a.0 ++ instr.Unary op ∷ []) (omega arith) (unary_needs op (height a.0) (code_of names a.0) a.1)
    layer_needs (Binary op a b) =
        let n = max (height a.0) (height b.0) in
        operation_needs op n (code_of names a.0) (code_of names b.0) (more_needs (height a.0) n (code_of names a.0) (omega arith) a.1) (more_needs (height b.0) n (code_of names b.0) (omega arith) b.1)
    layer_needs (Choose a b c) =
        let n = max (height a.0) (max (height b.0) (height c.0)) in
        more_needs n (1 + n) (choice_code (code_of names a.0) (code_of names b.0) (code_of names c.0)) (omega arith)
        (choice_needs n (code_of names a.0) (code_of names b.0) (code_of names c.0)
        (more_needs (height a.0) n (code_of names a.0) (omega arith) a.1) (more_needs (height b.0) n (code_of names b.0) (omega arith) b.1) (more_needs (height c.0) n (code_of names c.0) (omega arith) c.1))

    -- the code of an expression needs at most as many places as its height
    pub expr_needs : (e : Expr) → ExprNeeds e
    expr_needs = ind-Expr ExprNeeds (λ x y is.
        subst (λ code. Needs (height (roll-Expr x)) code) (sym (fold-roll-Expr (List Instr) (code_step names) x))
        (subst (λ n. Needs n (code_step names (map-Expr Expr (List Instr) (code_of names) x))) (sym (fold-roll-Expr ℕ height_step x))
        (subst (λ (z : Expr-F Expr). Needs (height_step (map-Expr Expr ℕ height z)) (code_step names (map-Expr Expr (List Instr) (code_of names) z))) is (layer_needs y))))

  -- a code that needs no more than all places fits
  fits_when : (n : ℕ) (code : List Instr) → n ≤ room → Needs n code → fits room code ≡ true
  fits_when n code le needs = subst (λ z. fits_from room z 0 0 ≡ true) (append-nil code) (needs [] 0 (omega arith) refl)

  pub expr_fits : (names : List ℕ → ℕ) (e : Expr) → height e ≤ room → fits room (code_of names e) ≡ true
  expr_fits names e low = fits_when (height e) (code_of names e) low (expr_needs names e)

  -- the code of an operator between the entry of a slot and an expression
  pub change_fits : (names : List ℕ → ℕ) (op : BinOp) (k : ℕ) (e : Expr) → 2 ≤ room → height e + 1 ≤ room → fits room (between op (instr.Slot k ∷ []) (code_of names e)) ≡ true
  change_fits names op k e two low =
      let n = max 1 (height e) in
      fits_when (1 + n) (between op (instr.Slot k ∷ []) (code_of names e)) (omega arith)
      (between_needs op n (instr.Slot k ∷ []) (code_of names e) (more_needs 1 n (instr.Slot k ∷ []) (omega arith) (slot_needs k)) (more_needs (height e) n (code_of names e) (omega arith) (expr_needs names e)))
