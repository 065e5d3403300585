-- The code of an expression, in front of any other code, means the expression: its value comes on top of the stack, and its first fault ends all.
use Rattle.std.proofs.Common.{◌≡◌, ℕ, ◌+◌, ℤ, pos, true, false, List, [], ◌∷◌, ◌++◌, length, refl, sym, ap, ◌∙◌, subst, arith, append_assoc, append-nil}
use Rattle.std.proofs.Math.IntN.{+ℤ_comm, *ℤ_comm}
use Rattle.std.specs.Prelude.{Result, Ok, Err, if◌then◌else◌}
use Rattle.spec_script.specs.declared.value.Value.{Value}
use Rattle.spec_script.specs.declared.value.Value.TheVariants.{Int, Text}
use Rattle.spec_script.specs.declared.syntax.UnOp.{UnOp}
use Rattle.spec_script.specs.declared.syntax.BinOp.{BinOp}
use Rattle.spec_script.specs.declared.syntax.BinOp.TheVariants.{Add, Sub, Mul, Div, And, Or, BitAnd, BitOr, BitXor, Compare}
use Rattle.spec_script.specs.declared.syntax.Expr.{Expr, ind-Expr, map-Expr, roll-Expr, fold-roll-Expr}
use Rattle.spec_script.specs.declared.syntax.Expr.TheOpen.{Expr-F, Num, Lit, Look, Group, Unary, Binary, Choose}
use Rattle.spec_script.specs.declared.fault.ExecFault.{ExecFault}
use Rattle.spec_script.specs.Operators.{bounded, int_value, number_in, is_true, truth, unary_on, binary_on, both, either, chosen, in_order, combined}
use Rattle.base_texts.specs.Results.{◌>>=◌}
use Rattle.spec_script.specs.Evaluation.{eval_step, eval_of}
use Rattle.script_code.specs.declared.instr.Instr.{Instr}
use Rattle.script_code.specs.declared.instr.Instr.TheVariants as instr
use Rattle.script_code.specs.Postfixes.{operator, with_number, applied, between, operation, choice_code, code_step, code_of}
use Rattle.script_code.specs.Running.{put, binary_put, told, Step, next, either_step, step_of, does, gives_from, code_value}
use Rattle.script_code.proofs.Standing.{following}

-- both operands, and then the operator
abbrev in_turn : BinOp → List Instr → List Instr → List Instr
in_turn op a b = a ++ applied op b

module _ (look : ℕ → Result Value ExecFault) where
  abbrev gives : List Instr → ℕ → List Value → Result Value ExecFault
  gives = gives_from look

  -- the code, in front of any other, puts this value on top
  abbrev pub Means : List Instr → Result Value ExecFault → Type 0
  Means code value = (rest : List Instr) (stack : List Value) → gives (code ++ rest) 0 stack ≡ (value >>= λ v. gives rest 0 (v ∷ stack))

  -- a place behind a code
  past : (a b : List Instr) (n : ℕ) → gives (a ++ b) (length a + n) ≡ gives b n
  past = following (does look) _ _

  -- what is found is put on top
  found : (r : Result Value ExecFault) (rest : List Instr) (stack : List Value) → (next (put r stack) >>= λ s. gives rest s.0 s.1) ≡ (r >>= λ v. gives rest 0 (v ∷ stack))
  found (Ok v) rest stack = refl
  found (Err f) rest stack = refl

  number_means : (n : ℤ) → Means (instr.Number n ∷ []) (Ok (Int n))
  number_means n rest stack = refl

  text_means : (t : List ℕ) → Means (instr.Text t ∷ []) (Ok (Text t))
  text_means t rest stack = refl

  slot_means : (k : ℕ) → Means (instr.Slot k ∷ []) (look k)
  slot_means k rest stack = found (look k) rest stack

  unary_ends : (op : UnOp) (r : Result Value ExecFault) (rest : List Instr) (stack : List Value) → (r >>= λ x. gives (instr.Unary op ∷ rest) 0 (x ∷ stack)) ≡ ((r >>= unary_on op) >>= λ v. gives rest 0 (v ∷ stack))
  unary_ends op (Ok x) rest stack = found (unary_on op x) rest stack
  unary_ends op (Err f) rest stack = refl

  unary_means : (op : UnOp) (a : List Instr) (ra : Result Value ExecFault) → Means a ra → Means (a ++ instr.Unary op ∷ []) (ra >>= unary_on op)
  unary_means op a ra ma rest stack =
      ap (λ code. gives code 0 stack) (append_assoc a (instr.Unary op ∷ []) rest)
      ∙ ma (instr.Unary op ∷ rest) stack ∙ unary_ends op ra rest stack

  operator_step : (op : BinOp) (stack : List Value) → step_of look (operator op) stack ≡ next (binary_put op stack)
  operator_step Add stack = refl
  operator_step Sub stack = refl
  operator_step Mul stack = refl
  operator_step op stack = refl

  -- a right operand that is taken in, and one on the stack
  taken_in : (op : BinOp) (n : ℤ) (stack : List Value) → step_of look (with_number op n) stack ≡ step_of look (operator op) (Int n ∷ stack)
  taken_in Add n stack = refl
  taken_in Sub n stack = refl
  taken_in Mul n stack = refl
  taken_in op n stack = refl

  abbrev goes_on : List Instr → Result Step ExecFault → Result Value ExecFault
  goes_on rest r = r >>= λ s. gives rest s.0 s.1

  binary_ends : (op : BinOp) (x : Value) (rb : Result Value ExecFault) (rest : List Instr) (stack : List Value) →
      (rb >>= λ y. gives (operator op ∷ rest) 0 (y ∷ x ∷ stack)) ≡ (in_order op (Ok x) rb >>= λ v. gives rest 0 (v ∷ stack))
  binary_ends op x (Ok y) rest stack = ap (goes_on rest) (operator_step op (y ∷ x ∷ stack)) ∙ found (binary_on op x y) rest stack
  binary_ends op x (Err f) rest stack = refl

  binary_goes : (op : BinOp) (b : List Instr) (ra rb : Result Value ExecFault) → Means b rb → (rest : List Instr) (stack : List Value) →
      (ra >>= λ x. gives (b ++ operator op ∷ rest) 0 (x ∷ stack)) ≡ (in_order op ra rb >>= λ v. gives rest 0 (v ∷ stack))
  binary_goes op b (Ok x) rb mb rest stack = mb (operator op ∷ rest) (x ∷ stack) ∙ binary_ends op x rb rest stack
  binary_goes op b (Err f) rb mb rest stack = refl

  number_goes : (op : BinOp) (n : ℤ) (ra rb : Result Value ExecFault) → Means (instr.Number n ∷ []) rb → (rest : List Instr) (stack : List Value) →
      (ra >>= λ x. gives (with_number op n ∷ rest) 0 (x ∷ stack)) ≡ (in_order op ra rb >>= λ v. gives rest 0 (v ∷ stack))
  number_goes op n (Ok x) rb mb rest stack = ap (goes_on rest) (taken_in op n (x ∷ stack)) ∙ binary_goes op (instr.Number n ∷ []) (Ok x) rb mb rest stack
  number_goes op n (Err f) rb mb rest stack = refl

  stacked_means : (op : BinOp) (a b : List Instr) (ra rb : Result Value ExecFault) → Means a ra → Means b rb → Means (a ++ (b ++ operator op ∷ [])) (in_order op ra rb)
  stacked_means op a b ra rb ma mb rest stack =
      ap (λ code. gives code 0 stack) (append_assoc a (b ++ operator op ∷ []) rest ∙ ap (λ z. a ++ z) (append_assoc b (operator op ∷ []) rest))
      ∙ ma (b ++ operator op ∷ rest) stack ∙ binary_goes op b ra rb mb rest stack

  in_turn_means : (op : BinOp) (a b : List Instr) (ra rb : Result Value ExecFault) → Means a ra → Means b rb → Means (in_turn op a b) (in_order op ra rb)
  in_turn_means op a (instr.Number n ∷ []) ra rb ma mb rest stack =
      ap (λ code. gives code 0 stack) (append_assoc a (with_number op n ∷ []) rest)
      ∙ ma (with_number op n ∷ rest) stack ∙ number_goes op n ra rb mb rest stack
  in_turn_means op a b ra rb ma mb rest stack = stacked_means op a b ra rb ma mb rest stack

  -- the truth of the topmost value, as a number
  truth_by : (r : Result ℤ ExecFault) (rest : List Instr) (stack : List Value) →
      (r >>= told stack >>= either_step (λ below. (0, Int (pos 1) ∷ below)) (λ below. (0, Int (pos 0) ∷ below)) >>= λ s. gives rest s.0 s.1)
      ≡ ((r >>= λ y. Ok (Int (truth (is_true y)))) >>= λ v. gives rest 0 (v ∷ stack))
  truth_by (Err f) rest stack = refl
  truth_by (Ok n) rest stack =
      elim (is_true n) as (λ b. (either_step (λ below. (0, Int (pos 1) ∷ below)) (λ below. (0, Int (pos 0) ∷ below)) (b, stack) >>= λ s. gives rest s.0 s.1) ≡ gives rest 0 (Int (truth b) ∷ stack)) [ true ↦ refl | false ↦ refl ]

  truth_ends : (rb : Result Value ExecFault) (rest : List Instr) (stack : List Value) →
      (rb >>= λ y. gives (instr.Truth ∷ rest) 0 (y ∷ stack)) ≡ ((rb >>= number_in >>= λ y. Ok (Int (truth (is_true y)))) >>= λ v. gives rest 0 (v ∷ stack))
  truth_ends (Ok y) rest stack = truth_by (number_in y) rest stack
  truth_ends (Err f) rest stack = refl

  -- A jump by the truth of the topmost value, to what is said where it is true and where it is false
  forks : (r : Result ℤ ExecFault) (one other : List Value → Step) (code : List Instr) (stack : List Value) (yes' no' : Result Value ExecFault) (go : Value → Result Value ExecFault) →
      gives code (one stack).0 (one stack).1 ≡ (yes' >>= go) → gives code (other stack).0 (other stack).1 ≡ (no' >>= go) →
      (r >>= told stack >>= either_step one other >>= λ s. gives code s.0 s.1) ≡ ((r >>= λ x. if is_true x then yes' else no') >>= go)
  forks (Err f) one other code stack yes' no' go on off = refl
  forks (Ok n) one other code stack yes' no' go on off =
      elim (is_true n) as (λ b. (either_step one other (b, stack) >>= λ s. gives code s.0 s.1) ≡ ((if b then yes' else no') >>= go)) [ true ↦ on | false ↦ off ]

  module _ (b : List Instr) (rb : Result Value ExecFault) (mb : Means b rb) (rest : List Instr) (stack : List Value) where
    abbrev counted : Result Value ExecFault
    counted = rb >>= number_in >>= λ y. Ok (Int (truth (is_true y)))

    right_side : gives (b ++ instr.Truth ∷ rest) 0 stack ≡ (counted >>= λ v. gives rest 0 (v ∷ stack))
    right_side = mb (instr.Truth ∷ rest) stack ∙ truth_ends rb rest stack

    passed : (stack : List Value) → gives (b ++ instr.Truth ∷ rest) (length b + 1) stack ≡ gives rest 0 stack
    passed stack = ap (λ (f : List Value → Result Value ExecFault). f stack) (past b (instr.Truth ∷ rest) 1)

    and_goes : (ra : Result Value ExecFault) → (ra >>= λ x. gives (instr.AndThen (length b + 1) ∷ (b ++ instr.Truth ∷ rest)) 0 (x ∷ stack)) ≡ (both ra rb >>= λ v. gives rest 0 (v ∷ stack))
    and_goes (Err f) = refl
    and_goes (Ok x) = forks (number_in x) (λ below. (0, below)) (λ below. (length b + 1, Int (pos 0) ∷ below)) (b ++ instr.Truth ∷ rest) stack counted (Ok (Int (pos 0))) (λ v. gives rest 0 (v ∷ stack)) right_side (passed (Int (pos 0) ∷ stack))

    or_goes : (ra : Result Value ExecFault) → (ra >>= λ x. gives (instr.OrElse (length b + 1) ∷ (b ++ instr.Truth ∷ rest)) 0 (x ∷ stack)) ≡ (either ra rb >>= λ v. gives rest 0 (v ∷ stack))
    or_goes (Err f) = refl
    or_goes (Ok x) = forks (number_in x) (λ below. (length b + 1, Int (pos 1) ∷ below)) (λ below. (0, below)) (b ++ instr.Truth ∷ rest) stack (Ok (Int (pos 1))) counted (λ v. gives rest 0 (v ∷ stack)) (passed (Int (pos 1) ∷ stack)) right_side

  and_means : (a b : List Instr) (ra rb : Result Value ExecFault) → Means a ra → Means b rb → Means (between And a b) (both ra rb)
  and_means a b ra rb ma mb rest stack =
      let i = instr.AndThen (length b + 1) in
      ap (λ code. gives code 0 stack) (append_assoc a (i ∷ (b ++ instr.Truth ∷ [])) rest ∙ ap (λ z. a ++ i ∷ z) (append_assoc b (instr.Truth ∷ []) rest))
      ∙ ma (i ∷ (b ++ instr.Truth ∷ rest)) stack ∙ and_goes b rb mb rest stack ra

  or_means : (a b : List Instr) (ra rb : Result Value ExecFault) → Means a ra → Means b rb → Means (between Or a b) (either ra rb)
  or_means a b ra rb ma mb rest stack =
      let i = instr.OrElse (length b + 1) in
      ap (λ code. gives code 0 stack) (append_assoc a (i ∷ (b ++ instr.Truth ∷ [])) rest ∙ ap (λ z. a ++ i ∷ z) (append_assoc b (instr.Truth ∷ []) rest))
      ∙ ma (i ∷ (b ++ instr.Truth ∷ rest)) stack ∙ or_goes b rb mb rest stack ra

  module _ (b c : List Instr) (rb rc : Result Value ExecFault) (mb : Means b rb) (mc : Means c rc) (rest : List Instr) (stack : List Value) where
    -- the part that is taken where the test is true passes over the other one
    then_side : gives (b ++ instr.Skip (length c) ∷ (c ++ rest)) 0 stack ≡ (rb >>= λ v. gives rest 0 (v ∷ stack))
    then_side =
        let over : gives (c ++ rest) (length c) ≡ gives rest 0 = (let e : length c ≡ length c + 0 = omega arith in ap (gives (c ++ rest)) e ∙ past c rest 0) in
        mb (instr.Skip (length c) ∷ (c ++ rest)) stack ∙ (λ k. rb >>= λ v. over k (v ∷ stack))

    else_side : gives (b ++ instr.Skip (length c) ∷ (c ++ rest)) (length b + 1) stack ≡ (rc >>= λ v. gives rest 0 (v ∷ stack))
    else_side = ap (λ (f : List Value → Result Value ExecFault). f stack) (past b (instr.Skip (length c) ∷ (c ++ rest)) 1) ∙ mc rest stack

    choice_goes : (ra : Result Value ExecFault) → (ra >>= λ x. gives (instr.Unless (length b + 1) ∷ (b ++ instr.Skip (length c) ∷ (c ++ rest))) 0 (x ∷ stack)) ≡ (chosen ra rb rc >>= λ v. gives rest 0 (v ∷ stack))
    choice_goes (Err f) = refl
    choice_goes (Ok x) = forks (number_in x) (λ below. (0, below)) (λ below. (length b + 1, below)) (b ++ instr.Skip (length c) ∷ (c ++ rest)) stack rb rc (λ v. gives rest 0 (v ∷ stack)) then_side else_side

  choice_means : (a b c : List Instr) (ra rb rc : Result Value ExecFault) → Means a ra → Means b rb → Means c rc → Means (choice_code a b c) (chosen ra rb rc)
  choice_means a b c ra rb rc ma mb mc rest stack =
      let i = instr.Unless (length b + 1) in
      let j = instr.Skip (length c) in
      ap (λ code. gives code 0 stack) (append_assoc a (i ∷ (b ++ j ∷ c)) rest ∙ ap (λ z. a ++ i ∷ z) (append_assoc b (j ∷ c) rest))
      ∙ ma (i ∷ (b ++ j ∷ (c ++ rest))) stack ∙ choice_goes b c rb rc mb mc rest stack ra

  pub between_means : (op : BinOp) (a b : List Instr) (ra rb : Result Value ExecFault) → Means a ra → Means b rb → Means (between op a b) (combined op ra rb)
  between_means And a b ra rb ma mb = and_means a b ra rb ma mb
  between_means Or a b ra rb ma mb = or_means a b ra rb ma mb
  between_means Add a b ra rb ma mb = in_turn_means Add a b ra rb ma mb
  between_means Sub a b ra rb ma mb = in_turn_means Sub a b ra rb ma mb
  between_means Mul a b ra rb ma mb = in_turn_means Mul a b ra rb ma mb
  between_means Div a b ra rb ma mb = in_turn_means Div a b ra rb ma mb
  between_means BitAnd a b ra rb ma mb = in_turn_means BitAnd a b ra rb ma mb
  between_means BitOr a b ra rb ma mb = in_turn_means BitOr a b ra rb ma mb
  between_means BitXor a b ra rb ma mb = in_turn_means BitXor a b ra rb ma mb
  between_means (Compare c) a b ra rb ma mb = in_turn_means (Compare c) a b ra rb ma mb

  -- a code alone gives what it means
  pub value_when : (code : List Instr) (r : Result Value ExecFault) → Means code r → code_value look code ≡ r
  value_when code r means =
      ap (λ z. gives z 0 []) (sym (append-nil code)) ∙ means [] [] ∙ whole r where
        whole : (r : Result Value ExecFault) → (r >>= λ v. gives [] 0 (v ∷ [])) ≡ r
        whole (Ok v) = refl
        whole (Err f) = refl

  -- a number on the left and on the right of an operator
  pub sum_swapped : (n : ℤ) (rb : Result Value ExecFault) → in_order Add rb (Ok (Int n)) ≡ in_order Add (Ok (Int n)) rb
  sum_swapped n (Ok (Int m)) = ap (λ z. int_value (bounded z)) (+ℤ_comm m n)
  sum_swapped n (Ok (Text t)) = refl
  sum_swapped n (Err f) = refl

  pub product_swapped : (n : ℤ) (rb : Result Value ExecFault) → in_order Mul rb (Ok (Int n)) ≡ in_order Mul (Ok (Int n)) rb
  product_swapped n (Ok (Int m)) = ap (λ z. int_value (bounded z)) (*ℤ_comm m n)
  product_swapped n (Ok (Text t)) = refl
  product_swapped n (Err f) = refl

  operation_means : (op : BinOp) (a b : List Instr) (ra rb : Result Value ExecFault) → Means a ra → Means b rb → Means (operation op a b) (combined op ra rb)
  operation_means Add (instr.Number n ∷ []) b ra rb ma mb =
      subst (Means (b ++ instr.AddNumber n ∷ [])) (subst (λ r. in_order Add rb r ≡ in_order Add r rb) (value_when (instr.Number n ∷ []) ra ma) (sum_swapped n rb))
      (in_turn_means Add b (instr.Number n ∷ []) rb ra mb ma)
  operation_means Mul (instr.Number n ∷ []) b ra rb ma mb =
      subst (Means (b ++ instr.MulNumber n ∷ [])) (subst (λ r. in_order Mul rb r ≡ in_order Mul r rb) (value_when (instr.Number n ∷ []) ra ma) (product_swapped n rb))
      (in_turn_means Mul b (instr.Number n ∷ []) rb ra mb ma)
  operation_means op a b ra rb ma mb = between_means op a b ra rb ma mb

  module _ (names : List ℕ → ℕ) where
    abbrev eval : Expr → Result Value ExecFault
    eval = eval_of (λ name. look (names name))

    abbrev ExprMeans : Expr → Type 0
    ExprMeans e = Means (code_of names e) (eval e)

    -- a layer, where it holds of the parts
    layer_means : (y : Expr-F ((e : Expr) × ExprMeans e)) →
        Means (code_step names (map-Expr Expr (List Instr) (code_of names) (map-Expr ((e : Expr) × ExprMeans e) Expr (λ e. e.0) y)))
        (eval_step (λ name. look (names name)) (map-Expr Expr (Result Value ExecFault) eval (map-Expr ((e : Expr) × ExprMeans e) Expr (λ e. e.0) y)))
    layer_means (Num n) = number_means n
    layer_means (Lit t) = text_means t
    layer_means (Look name) = slot_means (names name)
    layer_means (Group a) = a.1
    layer_means (Unary op a) = unary_means op (code_of names a.0) (eval a.0) a.1
    layer_means (Binary op a b) = operation_means op (code_of names a.0) (code_of names b.0) (eval a.0) (eval b.0) a.1 b.1
    layer_means (Choose a b c) = choice_means (code_of names a.0) (code_of names b.0) (code_of names c.0) (eval a.0) (eval b.0) (eval c.0) a.1 b.1 c.1

    -- the code of an expression means it
    pub expr_means : (e : Expr) → ExprMeans e
    expr_means = ind-Expr ExprMeans (λ x y is.
        subst (λ code. Means code (eval (roll-Expr x))) (sym (fold-roll-Expr (List Instr) (code_step names) x))
        (subst (λ r. Means (code_step names (map-Expr Expr (List Instr) (code_of names) x)) r) (sym (fold-roll-Expr (Result Value ExecFault) (eval_step (λ name. look (names name))) x))
        (subst (λ (z : Expr-F Expr). Means (code_step names (map-Expr Expr (List Instr) (code_of names) z)) (eval_step (λ name. look (names name)) (map-Expr Expr (Result Value ExecFault) eval z))) is (layer_means y))))

    pub expr_value : (e : Expr) → code_value look (code_of names e) ≡ eval e
    expr_value e = value_when (code_of names e) (eval e) (expr_means e)

    -- the code of an operator between a slot and an expression
    pub change_value : (op : BinOp) (k : ℕ) (e : Expr) → code_value look (between op (instr.Slot k ∷ []) (code_of names e)) ≡ combined op (look k) (eval e)
    change_value op k e =
        value_when (between op (instr.Slot k ∷ []) (code_of names e)) (combined op (look k) (eval e))
        (between_means op (instr.Slot k ∷ []) (code_of names e) (look k) (eval e) (slot_means k) (expr_means e))
