-- The code of an expression, in front of any other code, meets a text where the evaluation of the expression does.
use Rattle.std.proofs.Common.{◌≡◌, ℕ, ◌+◌, ℤ, pos, Bool, true, false, not, ◌&&◌, ◌||◌, List, [], ◌∷◌, ◌++◌, length, refl, sym, ap, ◌∙◌, subst, arith, append_assoc, append-nil}
use Rattle.std.specs.Prelude.{Result, Ok, Err, if◌then◌else◌}
use Rattle.spec_script.specs.declared.value.Value.{Value}
use Rattle.spec_script.specs.declared.value.Value.TheVariants.{Int, Text}
use Rattle.spec_script.specs.declared.syntax.UnOp.{UnOp}
use Rattle.spec_script.specs.declared.syntax.BinOp.{BinOp}
use Rattle.spec_script.specs.declared.syntax.BinOp.TheVariants.{Add, Sub, Mul, Div, And, Or, BitAnd, BitOr, BitXor, Compare}
use Rattle.spec_script.specs.declared.syntax.Expr.{Expr, ind-Expr, map-Expr, roll-Expr, fold-roll-Expr}
use Rattle.spec_script.specs.declared.syntax.Expr.TheOpen.{Expr-F, Num, Lit, Look, Group, Unary, Binary, Choose}
use Rattle.spec_script.specs.declared.fault.ExecFault.{ExecFault}
use Rattle.spec_script.specs.Operators.{number_in, is_true, truth, unary_on, binary_on, both, either, chosen, in_order, combined}
use Rattle.base_texts.specs.Results.{◌>>=◌}
use Rattle.spec_script.specs.Evaluation.{eval_step, eval_of}
use Rattle.script_code.specs.declared.instr.Instr.{Instr}
use Rattle.script_code.specs.declared.instr.Instr.TheVariants as instr
use Rattle.script_code.specs.Meeting.{gives_text, is_ok_and, Evaluated, looked_at, goes_right, operands_meet, choice_meets, evaluated_step, evaluated, expr_meets}
use Rattle.script_code.specs.Postfixes.{operator, with_number, applied, between, operation, choice_code, code_step, code_of}
use Rattle.script_code.specs.Running.{put, binary_put, told, Step, next, either_step, meets, meets_from, code_meets}
use Rattle.script_code.proofs.Means.{Means, value_when, sum_swapped, product_swapped, expr_means}
use Rattle.script_code.proofs.Standing.{following}
use Rattle.script_code.proofs.Steps.{or_first}

or_nil : (a : Bool) → (a || false) ≡ a
or_nil true = refl
or_nil false = refl

or_assoc : (a b c : Bool) → (a || (b || c)) ≡ ((a || b) || c)
or_assoc true b c = refl
or_assoc false b c = refl

and_nil : (a : Bool) → (a && false) ≡ false
and_nil true = refl
and_nil false = refl

-- a number
abbrev lone : ℤ → Evaluated
lone n = record { value = Ok (Int n); meets = false }

-- an operator between operands that are both evaluated
abbrev in_turn : BinOp → Evaluated → Evaluated → Evaluated
in_turn op a b = record { value = in_order op a.value b.value; meets = a.meets || (is_ok_and a.value (λ _. true) && b.meets) }

abbrev operated : BinOp → Evaluated → Evaluated → Evaluated
operated op a b = record { value = combined op a.value b.value; meets = operands_meet op a b }

abbrev decided : Evaluated → Evaluated → Evaluated → Evaluated
decided a b c = record { value = chosen a.value b.value c.value; meets = choice_meets a b c }

module _ (look : ℕ → Result Value ExecFault) where
  abbrev text_from : List Instr → ℕ → List Value → Bool
  text_from = meets_from look

  -- the code, in front of any other, meets a text where the evaluation does, or else what comes after it, with the value on top
  abbrev pub Meets : List Instr → Evaluated → Type 0
  Meets code e = (rest : List Instr) (stack : List Value) → text_from (code ++ rest) 0 stack ≡ (e.meets || is_ok_and e.value (λ v. text_from rest 0 (v ∷ stack)))

  -- a place behind a code
  past : (a b : List Instr) (n : ℕ) → text_from (a ++ b) (length a + n) ≡ text_from b n
  past = following (meets look) _ _

  -- what is found is put on top
  found : (r : Result Value ExecFault) (rest : List Instr) (stack : List Value) → is_ok_and (next (put r stack)) (λ s. text_from rest s.0 s.1) ≡ is_ok_and r (λ v. text_from rest 0 (v ∷ stack))
  found (Ok v) rest stack = refl
  found (Err f) rest stack = refl

  number_meets : (n : ℤ) → Meets (instr.Number n ∷ []) (lone n)
  number_meets n rest stack = refl

  text_meets : (t : List ℕ) → Meets (instr.Text t ∷ []) (record { value = Ok (Text t); meets = true })
  text_meets t rest stack = refl

  slot_meets : (k : ℕ) → Meets (instr.Slot k ∷ []) (looked_at (look k))
  slot_meets k rest stack = ap (λ b. gives_text (look k) || b) (found (look k) rest stack)

  -- a code and what is done of its value
  in_front : (a tail : List Instr) (e : Evaluated) (more : Bool) (r : Result Value ExecFault) → Meets a e →
      ((rest : List Instr) (stack : List Value) → is_ok_and e.value (λ x. text_from (tail ++ rest) 0 (x ∷ stack)) ≡ (more || is_ok_and r (λ v. text_from rest 0 (v ∷ stack)))) →
      Meets (a ++ tail) (record { value = r; meets = e.meets || more })
  in_front a tail e more r ma goes rest stack =
      ap (λ code. text_from code 0 stack) (append_assoc a tail rest)
      ∙ ma (tail ++ rest) stack ∙ ap (λ b. e.meets || b) (goes rest stack) ∙ or_assoc e.meets more _

  unary_goes : (op : UnOp) (r : Result Value ExecFault) (rest : List Instr) (stack : List Value) →
      is_ok_and r (λ x. text_from (instr.Unary op ∷ rest) 0 (x ∷ stack)) ≡ is_ok_and (r >>= unary_on op) (λ v. text_from rest 0 (v ∷ stack))
  unary_goes op (Ok x) rest stack = found (unary_on op x) rest stack
  unary_goes op (Err f) rest stack = refl

  unary_meets : (op : UnOp) (a : List Instr) (e : Evaluated) → Meets a e → Meets (a ++ instr.Unary op ∷ []) (record { value = e.value >>= unary_on op; meets = e.meets })
  unary_meets op a e ma =
      subst (λ m. Meets (a ++ instr.Unary op ∷ []) (record { value = e.value >>= unary_on op; meets = m })) (or_nil e.meets)
      (in_front a (instr.Unary op ∷ []) e false (e.value >>= unary_on op) ma (unary_goes op e.value))

  operator_step : (op : BinOp) (rest : List Instr) (stack : List Value) → text_from (operator op ∷ rest) 0 stack ≡ is_ok_and (next (binary_put op stack)) (λ s. text_from rest s.0 s.1)
  operator_step Add rest stack = refl
  operator_step Sub rest stack = refl
  operator_step Mul rest stack = refl
  operator_step op rest stack = refl

  -- a right operand that is taken in, and one on the stack
  taken_in : (op : BinOp) (n : ℤ) (rest : List Instr) (stack : List Value) → text_from (with_number op n ∷ rest) 0 stack ≡ text_from (operator op ∷ rest) 0 (Int n ∷ stack)
  taken_in Add n rest stack = refl
  taken_in Sub n rest stack = refl
  taken_in Mul n rest stack = refl
  taken_in op n rest stack = refl

  binary_ends : (op : BinOp) (x : Value) (rb : Result Value ExecFault) (rest : List Instr) (stack : List Value) →
      is_ok_and rb (λ y. text_from (operator op ∷ rest) 0 (y ∷ x ∷ stack)) ≡ is_ok_and (in_order op (Ok x) rb) (λ v. text_from rest 0 (v ∷ stack))
  binary_ends op x (Ok y) rest stack = operator_step op rest (y ∷ x ∷ stack) ∙ found (binary_on op x y) rest stack
  binary_ends op x (Err f) rest stack = refl

  binary_goes : (op : BinOp) (b : List Instr) (f : Evaluated) (ra : Result Value ExecFault) → Meets b f → (rest : List Instr) (stack : List Value) →
      is_ok_and ra (λ x. text_from (b ++ operator op ∷ rest) 0 (x ∷ stack)) ≡ ((is_ok_and ra (λ _. true) && f.meets) || is_ok_and (in_order op ra f.value) (λ v. text_from rest 0 (v ∷ stack)))
  binary_goes op b f (Ok x) mb rest stack = mb (operator op ∷ rest) (x ∷ stack) ∙ ap (λ z. f.meets || z) (binary_ends op x f.value rest stack)
  binary_goes op b f (Err fault) mb rest stack = refl

  stacked_meets : (op : BinOp) (a b : List Instr) (e f : Evaluated) → Meets a e → Meets b f → Meets (a ++ (b ++ operator op ∷ [])) (in_turn op e f)
  stacked_meets op a b e f ma mb =
      in_front a (b ++ operator op ∷ []) e (is_ok_and e.value (λ _. true) && f.meets) (in_order op e.value f.value) ma (λ rest stack.
      ap (λ code. is_ok_and e.value (λ x. text_from code 0 (x ∷ stack))) (append_assoc b (operator op ∷ []) rest)
      ∙ binary_goes op b f e.value mb rest stack)

  number_taken : (op : BinOp) (a : List Instr) (n : ℤ) (e : Evaluated) → Meets a e → Meets (a ++ with_number op n ∷ []) (in_turn op e (lone n))
  number_taken op a n e ma =
      in_front a (with_number op n ∷ []) e (is_ok_and e.value (λ _. true) && false) (in_order op e.value (Ok (Int n))) ma (λ rest stack.
      (λ i. is_ok_and e.value (λ x. taken_in op n rest (x ∷ stack) i))
      ∙ binary_goes op (instr.Number n ∷ []) (lone n) e.value (number_meets n) rest stack)

  -- what the code of a number means
  is_lone : (n : ℤ) (e : Evaluated) → Means look (instr.Number n ∷ []) e.value → Meets (instr.Number n ∷ []) e → lone n ≡ e
  is_lone n e means ma =
      let value : Ok (Int n) ≡ e.value = value_when look (instr.Number n ∷ []) e.value means in
      let none : e.meets ≡ false = or_first e.meets _ (sym (ma [] [])) in
      λ i. record { value = value i; meets = sym none i }

  in_turn_meets : (op : BinOp) (a b : List Instr) (e f : Evaluated) → Means look b f.value → Meets a e → Meets b f → Meets (a ++ applied op b) (in_turn op e f)
  in_turn_meets op a (instr.Number n ∷ []) e f means ma mb =
      subst (λ f. Meets (a ++ with_number op n ∷ []) (in_turn op e f)) (is_lone n f means mb) (number_taken op a n e ma)
  in_turn_meets op a b e f means ma mb = stacked_meets op a b e f ma mb

  -- A jump by the truth of the topmost value
  forks : (r : Result ℤ ExecFault) (one other : List Value → Step) (code : List Instr) (stack : List Value) (yes' no' : Bool) →
      text_from code (one stack).0 (one stack).1 ≡ yes' → text_from code (other stack).0 (other stack).1 ≡ no' →
      is_ok_and (r >>= told stack >>= either_step one other) (λ s. text_from code s.0 s.1) ≡ is_ok_and r (λ x. if is_true x then yes' else no')
  forks (Err f) one other code stack yes' no' on off = refl
  forks (Ok n) one other code stack yes' no' on off =
      elim (is_true n) as (λ b. is_ok_and (either_step one other (b, stack)) (λ s. text_from code s.0 s.1) ≡ (if b then yes' else no')) [ true ↦ on | false ↦ off ]

  -- the truth of the topmost value, as a number
  truth_by : (r : Result ℤ ExecFault) (rest : List Instr) (stack : List Value) →
      is_ok_and (r >>= told stack >>= either_step (λ below. (0, Int (pos 1) ∷ below)) (λ below. (0, Int (pos 0) ∷ below))) (λ s. text_from rest s.0 s.1)
      ≡ is_ok_and (r >>= λ y. Ok (Int (truth (is_true y)))) (λ v. text_from rest 0 (v ∷ stack))
  truth_by (Err f) rest stack = refl
  truth_by (Ok n) rest stack =
      elim (is_true n) as (λ b. is_ok_and (either_step (λ below. (0, Int (pos 1) ∷ below)) (λ below. (0, Int (pos 0) ∷ below)) (b, stack)) (λ s. text_from rest s.0 s.1) ≡ text_from rest 0 (Int (truth b) ∷ stack)) [ true ↦ refl | false ↦ refl ]

  truth_ends : (rb : Result Value ExecFault) (rest : List Instr) (stack : List Value) →
      is_ok_and rb (λ y. text_from (instr.Truth ∷ rest) 0 (y ∷ stack)) ≡ is_ok_and (rb >>= number_in >>= λ y. Ok (Int (truth (is_true y)))) (λ v. text_from rest 0 (v ∷ stack))
  truth_ends (Ok y) rest stack = truth_by (number_in y) rest stack
  truth_ends (Err f) rest stack = refl

  -- what is met on either way, and what is given there
  joined : (r : Result ℤ ExecFault) (yes' no' : Evaluated) (go : Value → Bool) →
      is_ok_and r (λ x. if is_true x then (yes'.meets || is_ok_and yes'.value go) else (no'.meets || is_ok_and no'.value go))
      ≡ (is_ok_and r (λ x. if is_true x then yes'.meets else no'.meets) || is_ok_and (r >>= λ x. if is_true x then yes'.value else no'.value) go)
  joined (Err f) yes' no' go = refl
  joined (Ok n) yes' no' go =
      elim (is_true n) as (λ b. (if b then (yes'.meets || is_ok_and yes'.value go) else (no'.meets || is_ok_and no'.value go)) ≡ ((if b then yes'.meets else no'.meets) || is_ok_and (if b then yes'.value else no'.value) go)) [ true ↦ refl | false ↦ refl ]

  on_true : (r : Result ℤ ExecFault) (m : Bool) → is_ok_and r (λ x. if is_true x then m else false) ≡ (is_ok_and r is_true && m)
  on_true (Err f) m = refl
  on_true (Ok n) m = elim (is_true n) as (λ b. (if b then m else false) ≡ (b && m)) [ true ↦ refl | false ↦ refl ]

  on_false : (r : Result ℤ ExecFault) (m : Bool) → is_ok_and r (λ x. if is_true x then false else m) ≡ (is_ok_and r (λ x. not (is_true x)) && m)
  on_false (Err f) m = refl
  on_false (Ok n) m = elim (is_true n) as (λ b. (if b then false else m) ≡ (not b && m)) [ true ↦ refl | false ↦ refl ]

  module _ (b : List Instr) (f : Evaluated) (mb : Meets b f) (rest : List Instr) (stack : List Value) where
    -- the right operand as a truth
    abbrev counted : Evaluated
    counted = record { value = f.value >>= number_in >>= λ y. Ok (Int (truth (is_true y))); meets = f.meets }

    abbrev go : Value → Bool
    go v = text_from rest 0 (v ∷ stack)

    right_side : text_from (b ++ instr.Truth ∷ rest) 0 stack ≡ (f.meets || is_ok_and counted.value go)
    right_side = mb (instr.Truth ∷ rest) stack ∙ ap (λ z. f.meets || z) (truth_ends f.value rest stack)

    passed : (stack : List Value) → text_from (b ++ instr.Truth ∷ rest) (length b + 1) stack ≡ text_from rest 0 stack
    passed stack = ap (λ (t : List Value → Bool). t stack) (past b (instr.Truth ∷ rest) 1)

    and_goes : (ra : Result Value ExecFault) → is_ok_and ra (λ x. text_from (instr.AndThen (length b + 1) ∷ (b ++ instr.Truth ∷ rest)) 0 (x ∷ stack)) ≡ ((goes_right And ra && f.meets) || is_ok_and (both ra f.value) go)
    and_goes (Err fault) = refl
    and_goes (Ok x) =
        forks (number_in x) (λ below. (0, below)) (λ below. (length b + 1, Int (pos 0) ∷ below)) (b ++ instr.Truth ∷ rest) stack _ _ right_side (passed (Int (pos 0) ∷ stack))
        ∙ joined (number_in x) counted (lone (pos 0)) go
        ∙ ap (λ z. z || is_ok_and (both (Ok x) f.value) go) (on_true (number_in x) f.meets)

    or_goes : (ra : Result Value ExecFault) → is_ok_and ra (λ x. text_from (instr.OrElse (length b + 1) ∷ (b ++ instr.Truth ∷ rest)) 0 (x ∷ stack)) ≡ ((goes_right Or ra && f.meets) || is_ok_and (either ra f.value) go)
    or_goes (Err fault) = refl
    or_goes (Ok x) =
        forks (number_in x) (λ below. (length b + 1, Int (pos 1) ∷ below)) (λ below. (0, below)) (b ++ instr.Truth ∷ rest) stack _ _ (passed (Int (pos 1) ∷ stack)) right_side
        ∙ joined (number_in x) (lone (pos 1)) counted go
        ∙ ap (λ z. z || is_ok_and (either (Ok x) f.value) go) (on_false (number_in x) f.meets)

  and_meets : (a b : List Instr) (e f : Evaluated) → Meets a e → Meets b f → Meets (between And a b) (operated And e f)
  and_meets a b e f ma mb =
      let i = instr.AndThen (length b + 1) in
      in_front a (i ∷ (b ++ instr.Truth ∷ [])) e (goes_right And e.value && f.meets) (both e.value f.value) ma (λ rest stack.
      ap (λ code. is_ok_and e.value (λ x. text_from (i ∷ code) 0 (x ∷ stack))) (append_assoc b (instr.Truth ∷ []) rest)
      ∙ and_goes b f mb rest stack e.value)

  or_meets : (a b : List Instr) (e f : Evaluated) → Meets a e → Meets b f → Meets (between Or a b) (operated Or e f)
  or_meets a b e f ma mb =
      let i = instr.OrElse (length b + 1) in
      in_front a (i ∷ (b ++ instr.Truth ∷ [])) e (goes_right Or e.value && f.meets) (either e.value f.value) ma (λ rest stack.
      ap (λ code. is_ok_and e.value (λ x. text_from (i ∷ code) 0 (x ∷ stack))) (append_assoc b (instr.Truth ∷ []) rest)
      ∙ or_goes b f mb rest stack e.value)

  module _ (b c : List Instr) (f g : Evaluated) (mb : Meets b f) (mc : Meets c g) (rest : List Instr) (stack : List Value) where
    -- the part that is taken where the test is true passes over the other one
    then_side : text_from (b ++ instr.Skip (length c) ∷ (c ++ rest)) 0 stack ≡ (f.meets || is_ok_and f.value (λ v. text_from rest 0 (v ∷ stack)))
    then_side =
        let over : text_from (c ++ rest) (length c) ≡ text_from rest 0 = (let e : length c ≡ length c + 0 = omega arith in ap (text_from (c ++ rest)) e ∙ past c rest 0) in
        mb (instr.Skip (length c) ∷ (c ++ rest)) stack ∙ (λ k. f.meets || is_ok_and f.value (λ v. over k (v ∷ stack)))

    else_side : text_from (b ++ instr.Skip (length c) ∷ (c ++ rest)) (length b + 1) stack ≡ (g.meets || is_ok_and g.value (λ v. text_from rest 0 (v ∷ stack)))
    else_side = ap (λ (t : List Value → Bool). t stack) (past b (instr.Skip (length c) ∷ (c ++ rest)) 1) ∙ mc rest stack

    choice_goes : (ra : Result Value ExecFault) → is_ok_and ra (λ x. text_from (instr.Unless (length b + 1) ∷ (b ++ instr.Skip (length c) ∷ (c ++ rest))) 0 (x ∷ stack))
        ≡ (is_ok_and (ra >>= number_in) (λ x. if is_true x then f.meets else g.meets) || is_ok_and (chosen ra f.value g.value) (λ v. text_from rest 0 (v ∷ stack)))
    choice_goes (Err fault) = refl
    choice_goes (Ok x) =
        forks (number_in x) (λ below. (0, below)) (λ below. (length b + 1, below)) (b ++ instr.Skip (length c) ∷ (c ++ rest)) stack _ _ then_side else_side
        ∙ joined (number_in x) f g (λ v. text_from rest 0 (v ∷ stack))

  choice_meet : (a b c : List Instr) (e f g : Evaluated) → Meets a e → Meets b f → Meets c g → Meets (choice_code a b c) (decided e f g)
  choice_meet a b c e f g ma mb mc =
      let i = instr.Unless (length b + 1) in
      let j = instr.Skip (length c) in
      in_front a (i ∷ (b ++ j ∷ c)) e (is_ok_and (e.value >>= number_in) (λ x. if is_true x then f.meets else g.meets)) (chosen e.value f.value g.value) ma (λ rest stack.
      ap (λ code. is_ok_and e.value (λ x. text_from (i ∷ code) 0 (x ∷ stack))) (append_assoc b (j ∷ c) rest)
      ∙ choice_goes b c f g mb mc rest stack e.value)

  between_meets : (op : BinOp) (a b : List Instr) (e f : Evaluated) → Means look b f.value → Meets a e → Meets b f → Meets (between op a b) (operated op e f)
  between_meets And a b e f means ma mb = and_meets a b e f ma mb
  between_meets Or a b e f means ma mb = or_meets a b e f ma mb
  between_meets Add a b e f means ma mb = in_turn_meets Add a b e f means ma mb
  between_meets Sub a b e f means ma mb = in_turn_meets Sub a b e f means ma mb
  between_meets Mul a b e f means ma mb = in_turn_meets Mul a b e f means ma mb
  between_meets Div a b e f means ma mb = in_turn_meets Div a b e f means ma mb
  between_meets BitAnd a b e f means ma mb = in_turn_meets BitAnd a b e f means ma mb
  between_meets BitOr a b e f means ma mb = in_turn_meets BitOr a b e f means ma mb
  between_meets BitXor a b e f means ma mb = in_turn_meets BitXor a b e f means ma mb
  between_meets (Compare c) a b e f means ma mb = in_turn_meets (Compare c) a b e f means ma mb

  -- a number on the left and on the right of an operator
  same_met : (r : Result Value ExecFault) (m : Bool) → (m || (is_ok_and r (λ _. true) && false)) ≡ m
  same_met r m = ap (λ z. m || z) (and_nil (is_ok_and r (λ _. true))) ∙ or_nil m

  sum_meets : (b : List Instr) (n : ℤ) (f : Evaluated) → Meets b f → Meets (b ++ instr.AddNumber n ∷ []) (operated Add (lone n) f)
  sum_meets b n f mb =
      let same : in_turn Add f (lone n) ≡ operated Add (lone n) f = λ i. record { value = sum_swapped look n f.value i; meets = same_met f.value f.meets i } in
      subst (Meets (b ++ instr.AddNumber n ∷ [])) same (number_taken Add b n f mb)

  product_meets : (b : List Instr) (n : ℤ) (f : Evaluated) → Meets b f → Meets (b ++ instr.MulNumber n ∷ []) (operated Mul (lone n) f)
  product_meets b n f mb =
      let same : in_turn Mul f (lone n) ≡ operated Mul (lone n) f = λ i. record { value = product_swapped look n f.value i; meets = same_met f.value f.meets i } in
      subst (Meets (b ++ instr.MulNumber n ∷ [])) same (number_taken Mul b n f mb)

  operation_meets : (op : BinOp) (a b : List Instr) (e f : Evaluated) → Means look a e.value → Means look b f.value → Meets a e → Meets b f → Meets (operation op a b) (operated op e f)
  operation_meets Add (instr.Number n ∷ []) b e f left right ma mb =
      subst (λ e. Meets (b ++ instr.AddNumber n ∷ []) (operated Add e f)) (is_lone n e left ma) (sum_meets b n f mb)
  operation_meets Mul (instr.Number n ∷ []) b e f left right ma mb =
      subst (λ e. Meets (b ++ instr.MulNumber n ∷ []) (operated Mul e f)) (is_lone n e left ma) (product_meets b n f mb)
  operation_meets op a b e f left right ma mb = between_meets op a b e f right ma mb

  -- a code alone meets what it meets in front of others
  met_when : (code : List Instr) (e : Evaluated) → Meets code e → code_meets look code ≡ e.meets
  met_when code e met =
      ap (λ z. text_from z 0 []) (sym (append-nil code)) ∙ met [] [] ∙ ap (λ z. e.meets || z) (none e.value) ∙ or_nil e.meets where
        none : (r : Result Value ExecFault) → is_ok_and r (λ v. text_from [] 0 (v ∷ [])) ≡ false
        none (Ok v) = refl
        none (Err f) = refl

  module _ (names : List ℕ → ℕ) where
    abbrev known : Expr → Evaluated
    known = evaluated (λ name. look (names name))

    abbrev SameValue : Expr → Type 0
    SameValue e = (known e).value ≡ eval_of (λ name. look (names name)) e

    value_layer : (y : Expr-F ((e : Expr) × SameValue e)) →
        (evaluated_step (λ name. look (names name)) (map-Expr Expr Evaluated known (map-Expr ((e : Expr) × SameValue e) Expr (λ e. e.0) y))).value
        ≡ eval_step (λ name. look (names name)) (map-Expr Expr (Result Value ExecFault) (eval_of (λ name. look (names name))) (map-Expr ((e : Expr) × SameValue e) Expr (λ e. e.0) y))
    value_layer (Num n) = refl
    value_layer (Lit t) = refl
    value_layer (Look name) = refl
    value_layer (Group a) = a.1
    value_layer (Unary op a) = ap (λ r. r >>= unary_on op) a.1
    value_layer (Binary op a b) = λ i. combined op (a.1 i) (b.1 i)
    value_layer (Choose a b c) = λ i. chosen (a.1 i) (b.1 i) (c.1 i)

    -- the value of an evaluation is what the expression gives
    same_value : (e : Expr) → SameValue e
    same_value = ind-Expr SameValue (λ x y is.
        ap (λ (e : Evaluated). e.value) (fold-roll-Expr Evaluated (evaluated_step (λ name. look (names name))) x)
        ∙ subst (λ (z : Expr-F Expr). (evaluated_step (λ name. look (names name)) (map-Expr Expr Evaluated known z)).value ≡ eval_step (λ name. look (names name)) (map-Expr Expr (Result Value ExecFault) (eval_of (λ name. look (names name))) z)) is (value_layer y)
        ∙ sym (fold-roll-Expr (Result Value ExecFault) (eval_step (λ name. look (names name))) x))

    means : (e : Expr) → Means look (code_of names e) (known e).value
    means e = subst (Means look (code_of names e)) (sym (same_value e)) (expr_means look names e)

    abbrev ExprMeets : Expr → Type 0
    ExprMeets e = Meets (code_of names e) (known e)

    -- a layer, where it holds of the parts
    layer_meets : (y : Expr-F ((e : Expr) × ExprMeets e)) →
        Meets (code_step names (map-Expr Expr (List Instr) (code_of names) (map-Expr ((e : Expr) × ExprMeets e) Expr (λ e. e.0) y)))
        (evaluated_step (λ name. look (names name)) (map-Expr Expr Evaluated known (map-Expr ((e : Expr) × ExprMeets e) Expr (λ e. e.0) y)))
    layer_meets (Num n) = number_meets n
    layer_meets (Lit t) = text_meets t
    layer_meets (Look name) = slot_meets (names name)
    layer_meets (Group a) = a.1
    layer_meets (Unary op a) = unary_meets op (code_of names a.0) (known a.0) a.1
    layer_meets (Binary op a b) = operation_meets op (code_of names a.0) (code_of names b.0) (known a.0) (known b.0) (means a.0) (means b.0) a.1 b.1
    layer_meets (Choose a b c) = choice_meet (code_of names a.0) (code_of names b.0) (code_of names c.0) (known a.0) (known b.0) (known c.0) a.1 b.1 c.1

    -- the code of an expression meets a text where the evaluation of the expression does
    code_meets_as : (e : Expr) → ExprMeets e
    code_meets_as = ind-Expr ExprMeets (λ x y is.
        subst (λ code. Meets code (known (roll-Expr x))) (sym (fold-roll-Expr (List Instr) (code_step names) x))
        (subst (Meets (code_step names (map-Expr Expr (List Instr) (code_of names) x))) (sym (fold-roll-Expr Evaluated (evaluated_step (λ name. look (names name))) x))
        (subst (λ (z : Expr-F Expr). Meets (code_step names (map-Expr Expr (List Instr) (code_of names) z)) (evaluated_step (λ name. look (names name)) (map-Expr Expr Evaluated known z))) is (layer_meets y))))

    pub expr_met : (e : Expr) → code_meets look (code_of names e) ≡ expr_meets (λ name. look (names name)) e
    expr_met e = met_when (code_of names e) (known e) (code_meets_as e)

    -- the code of an operator between a slot and an expression
    pub change_met : (op : BinOp) (k : ℕ) (e : Expr) → code_meets look (between op (instr.Slot k ∷ []) (code_of names e)) ≡ operands_meet op (looked_at (look k)) (known e)
    change_met op k e =
        met_when (between op (instr.Slot k ∷ []) (code_of names e)) (operated op (looked_at (look k)) (known e))
        (between_meets op (instr.Slot k ∷ []) (code_of names e) (looked_at (look k)) (known e) (means e) (slot_meets k) (code_meets_as e))
