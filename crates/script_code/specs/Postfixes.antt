-- The postfix code of an expression: the codes of its operands, and then what is done of what they leave on the stack.
use Rattle.std.specs.Prelude.{ℕ, ℤ, ◌+◌, List, [], ◌∷◌, ◌++◌, length, Bool, true, false, Option, Some, None}
use Rattle.spec_script.specs.declared.syntax.BinOp.{BinOp}
use Rattle.spec_script.specs.declared.syntax.BinOp.TheVariants.{Add, Sub, Mul, Div, And, Or, BitAnd, BitOr, BitXor, Compare}
use Rattle.spec_script.specs.declared.syntax.Expr.{Expr, fold-Expr}
use Rattle.spec_script.specs.declared.syntax.Expr.TheOpen.{Expr-F, Num, Lit, Look, Group, Unary, Binary, Choose}
use Rattle.script_code.specs.declared.instr.Instr.{Instr}
use Rattle.script_code.specs.declared.instr.Instr.TheVariants as instr

-- what begins the right operand of an operator: a jump, whose length is not known yet
abbrev pub begun : BinOp → List Instr
begun And = instr.AndThen 0 ∷ []
begun Or = instr.OrElse 0 ∷ []
begun Add = []
begun Sub = []
begun Mul = []
begun Div = []
begun BitAnd = []
begun BitOr = []
begun BitXor = []
begun (Compare c) = []

-- whether the right operand of an operator may be passed over
abbrev pub has_jump : BinOp → Bool
has_jump And = true
has_jump Or = true
has_jump Add = false
has_jump Sub = false
has_jump Mul = false
has_jump Div = false
has_jump BitAnd = false
has_jump BitOr = false
has_jump BitXor = false
has_jump (Compare c) = false

-- an operator whose operands are the two topmost values
abbrev pub operator : BinOp → Instr
operator Add = instr.Add
operator Sub = instr.Sub
operator Mul = instr.Mul
operator op = instr.Binary op

-- an operator whose right operand is a number
abbrev pub with_number : BinOp → ℤ → Instr
with_number Add n = instr.AddNumber n
with_number Sub n = instr.SubNumber n
with_number Mul n = instr.MulNumber n
with_number op n = instr.BinaryNumber op n

-- the number that a code puts on top, where it does nothing else
abbrev pub lone_number : List Instr → Option ℤ
lone_number (instr.Number n ∷ []) = Some n
lone_number code = None

-- the right operand of an operator that evaluates both, and the operator, which takes in an operand that is a number
abbrev pub applied : BinOp → List Instr → List Instr
applied op (instr.Number n ∷ []) = with_number op n ∷ []
applied op b = b ++ operator op ∷ []

-- the right operand of an operator, with what is done after it: that of `&&` and `||` is passed over where the left one decides
abbrev pub ended : BinOp → List Instr → List Instr
ended And b = instr.AndThen (length b + 1) ∷ (b ++ instr.Truth ∷ [])
ended Or b = instr.OrElse (length b + 1) ∷ (b ++ instr.Truth ∷ [])
ended op b = applied op b

-- an operator between two operands
abbrev pub between : BinOp → List Instr → List Instr → List Instr
between op a b = a ++ ended op b

-- the left operand of an operator that takes it in, which is a number: `+` and `*` give the same in either order
abbrev pub left_number : BinOp → List Instr → Option ℤ
left_number Add a = lone_number a
left_number Mul a = lone_number a
left_number op a = None

-- an operator in an expression, which takes in a left operand that is a number where it can
abbrev pub operation : BinOp → List Instr → List Instr → List Instr
operation Add (instr.Number n ∷ []) b = b ++ instr.AddNumber n ∷ []
operation Mul (instr.Number n ∷ []) b = b ++ instr.MulNumber n ∷ []
operation op a b = between op a b

-- `? :`: the test, and a part that passes over the other one
abbrev pub choice_code : List Instr → List Instr → List Instr → List Instr
choice_code a b c = a ++ instr.Unless (length b + 1) ∷ (b ++ instr.Skip (length c) ∷ c)

abbrev pub code_step : (List ℕ → ℕ) → Expr-F (List Instr) → List Instr
code_step names (Num n) = instr.Number n ∷ []
code_step names (Lit t) = instr.Text t ∷ []
code_step names (Look name) = instr.Slot (names name) ∷ []
code_step names (Group a) = a
code_step names (Unary op a) = a ++ instr.Unary op ∷ []
code_step names (Binary op a b) = operation op a b
code_step names (Choose a b c) = choice_code a b c

-- the code of an expression, with each name replaced by its slot
abbrev pub code_of : (List ℕ → ℕ) → Expr → List Instr
code_of names = fold-Expr (List Instr) (code_step names)
