-- What postfix code gives, and what it needs.
use Rattle.std.specs.Prelude.{ℕ, ◌+◌, ℤ, pos, Bool, true, false, ◌||◌, if◌then◌else◌, List, [], ◌∷◌, map, Result, Ok, Err}
use Rattle.std.specs.List.{sum_by}
use Rattle.spec_script.specs.declared.value.Value.{Value}
use Rattle.spec_script.specs.declared.value.Value.TheVariants.{Int, Text}
use Rattle.spec_script.specs.declared.syntax.UnOp.{UnOp}
use Rattle.spec_script.specs.declared.syntax.BinOp.{BinOp}
use Rattle.spec_script.specs.declared.syntax.BinOp.TheVariants.{Add, Sub, Mul}
use Rattle.spec_script.specs.declared.fault.ExecFault.{ExecFault}
use Rattle.spec_script.specs.declared.fault.ExecFault.TheVariants.{Mixed}
use Rattle.spec_script.specs.Operators.{number_in, is_true, unary_on, binary_on}
use Rattle.base_texts.specs.Results.{◌>>=◌}
use Rattle.spec_script.specs.Numbers.{greatest}
use Rattle.script_code.specs.declared.instr.Instr.{Instr}
use Rattle.script_code.specs.declared.instr.Instr.TheVariants as instr
use Rattle.script_code.specs.Meeting.{gives_text, is_ok_and}
use Rattle.script_code.specs.Places.{at_place}

-- with the topmost value; a code that fits has one
abbrev pub on_top : {R : Type 0} → (Value → List Value → Result R ExecFault) → List Value → Result R ExecFault
on_top act [] = Err Mixed
on_top act (x ∷ below) = act x below

-- with the two topmost values
abbrev pub on_two : {R : Type 0} → (Value → Value → List Value → Result R ExecFault) → List Value → Result R ExecFault
on_two act [] = Err Mixed
on_two act (y ∷ []) = Err Mixed
on_two act (y ∷ x ∷ below) = act x y below

-- a stack, whose topmost value is the first, with a value on top
abbrev pub put : Result Value ExecFault → List Value → Result (List Value) ExecFault
put found stack = found >>= λ x. Ok (x ∷ stack)

-- the stack after an operator before one operand
abbrev pub unary_put : UnOp → List Value → Result (List Value) ExecFault
unary_put op = on_top (λ x below. put (unary_on op x) below)

-- the stack after an operator between two operands
abbrev pub binary_put : BinOp → List Value → Result (List Value) ExecFault
binary_put op = on_two (λ x y below. put (binary_on op x y) below)

-- whether a number is true, beside a stack
abbrev pub told : List Value → ℤ → Result (Bool × List Value) ExecFault
told stack n = Ok (is_true n, stack)

-- whether the topmost value is true, and the stack without it
abbrev pub truth_taken : List Value → Result (Bool × List Value) ExecFault
truth_taken = on_top (λ x below. number_in x >>= told below)

-- how many instructions one passes over, and the stack that it leaves
abbrev pub Step : Type 0
Step = ℕ × List Value

-- on to the next instruction
abbrev pub next : Result (List Value) ExecFault → Result Step ExecFault
next left = left >>= λ stack. Ok (0, stack)

-- one step from a stack where something is true, and the other where it is false
abbrev pub either_step : (List Value → Step) → (List Value → Step) → Bool × List Value → Result Step ExecFault
either_step one other t = Ok (if t.0 then one t.1 else other t.1)

-- one step where the topmost value is true, and the other where it is false
abbrev pub by_truth : (List Value → Step) → (List Value → Step) → List Value → Result Step ExecFault
by_truth one other stack = truth_taken stack >>= either_step one other

-- how many instructions one passes over where it jumps
abbrev pub jump_of : Instr → ℕ
jump_of (instr.AndThen n) = n
jump_of (instr.OrElse n) = n
jump_of (instr.Unless n) = n
jump_of (instr.Skip n) = n
jump_of i = 0

-- what an instruction does of a stack
abbrev pub step_of : (ℕ → Result Value ExecFault) → Instr → List Value → Result Step ExecFault
step_of look (instr.Number n) = λ stack. Ok (0, Int n ∷ stack)
step_of look (instr.Text t) = λ stack. Ok (0, Text t ∷ stack)
step_of look (instr.Slot k) = λ stack. next (put (look k) stack)
step_of look (instr.Unary op) = λ stack. next (unary_put op stack)
step_of look (instr.Binary op) = λ stack. next (binary_put op stack)
step_of look (instr.BinaryNumber op n) = λ stack. next (binary_put op (Int n ∷ stack))
step_of look instr.Add = λ stack. next (binary_put Add stack)
step_of look instr.Sub = λ stack. next (binary_put Sub stack)
step_of look instr.Mul = λ stack. next (binary_put Mul stack)
step_of look (instr.AddNumber n) = λ stack. next (binary_put Add (Int n ∷ stack))
step_of look (instr.SubNumber n) = λ stack. next (binary_put Sub (Int n ∷ stack))
step_of look (instr.MulNumber n) = λ stack. next (binary_put Mul (Int n ∷ stack))
step_of look (instr.AndThen n) = by_truth (λ below. (0, below)) (λ below. (n, Int (pos 0) ∷ below))
step_of look (instr.OrElse n) = by_truth (λ below. (n, Int (pos 1) ∷ below)) (λ below. (0, below))
step_of look instr.Truth = by_truth (λ below. (0, Int (pos 1) ∷ below)) (λ below. (0, Int (pos 0) ∷ below))
step_of look (instr.Unless n) = by_truth (λ below. (0, below)) (λ below. (n, below))
step_of look (instr.Skip n) = λ stack. Ok (n, stack)

-- what an instruction gives, where the places after it give this
abbrev pub does : (ℕ → Result Value ExecFault) → Instr → (ℕ → List Value → Result Value ExecFault) → List Value → Result Value ExecFault
does look i go stack = step_of look i stack >>= λ s. go s.0 s.1

-- what a code gives from a place on: the topmost value in the end
abbrev pub gives_from : (ℕ → Result Value ExecFault) → List Instr → ℕ → List Value → Result Value ExecFault
gives_from look = at_place (does look) (on_top (λ x below. Ok x)) (λ stack. Err Mixed)

-- what a code gives where the slots give this
abbrev pub code_value : (ℕ → Result Value ExecFault) → List Instr → Result Value ExecFault
code_value look code = gives_from look code 0 []

-- an instruction puts a text on top, a literal or that of a slot
abbrev pub puts_text : (ℕ → Result Value ExecFault) → Instr → Bool
puts_text look (instr.Text t) = true
puts_text look (instr.Slot k) = gives_text (look k)
puts_text look i = false

-- whether an instruction meets a text, or those that are done after it do
abbrev pub meets : (ℕ → Result Value ExecFault) → Instr → (ℕ → List Value → Bool) → List Value → Bool
meets look i go stack = puts_text look i || is_ok_and (step_of look i stack) (λ s. go s.0 s.1)

-- whether a code meets a text from a place on
abbrev pub meets_from : (ℕ → Result Value ExecFault) → List Instr → ℕ → List Value → Bool
meets_from look = at_place (meets look) (λ stack. false) (λ stack. false)

-- whether a code meets a text where the slots give this
abbrev pub code_meets : (ℕ → Result Value ExecFault) → List Instr → Bool
code_meets look code = meets_from look code 0 []

abbrev pub instr_reach : Instr → ℕ
instr_reach (instr.Slot k) = k + 1
instr_reach i = 0

-- how many slots a code needs
abbrev pub code_reach : List Instr → ℕ
code_reach code = greatest (map instr_reach code)

abbrev pub instr_texts : Instr → ℕ
instr_texts (instr.Text t) = 1
instr_texts i = 0

-- how many text literals stand in a code
abbrev pub code_texts : List Instr → ℕ
code_texts code = sum_by instr_texts code
