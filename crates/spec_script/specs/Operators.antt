-- What each operator gives, or the fault that it gives in place of a value.
use Rattle.std.specs.Prelude.{ℕ, ◌+◌, ◌-◌, ◌^◌, nat_le, ℤ, pos, negsuc, ◌+ℤ◌, ◌-ℤ◌, ◌*ℤ◌, neg_ℤ, int_le, int_div, int_rem, Bool, not, ◌&&◌, ◌||◌, if◌then◌else◌, List, ◌++◌, length, Result, Ok, Err}
use Rattle.std.specs.Int.{w64, int_bit_and, int_bit_or, int_bit_xor, int_bit_not}
use Rattle.std.specs.declared.cmp.Ordering.{Ordering}
use Rattle.std.specs.Ordering.{int_cmp, int_eq, nat_cmp, is_eq, is_ne, is_lt, is_le, is_gt, is_ge}
use Rattle.std.specs.Cmp.Lexicographic.{slice_cmp}
use Rattle.spec_script.specs.declared.value.Value.{Value}
use Rattle.spec_script.specs.declared.value.Value.TheVariants.{Int, Text}
use Rattle.spec_script.specs.declared.syntax.UnOp.{UnOp}
use Rattle.spec_script.specs.declared.syntax.UnOp.TheVariants.{Neg, Not, Flip}
use Rattle.spec_script.specs.declared.syntax.BinOp.{BinOp}
use Rattle.spec_script.specs.declared.syntax.BinOp.TheVariants.{Add, Sub, Mul, Div, And, Or, BitAnd, BitOr, BitXor, Compare}
use Rattle.spec_script.specs.declared.syntax.Cmp.{Cmp}
use Rattle.spec_script.specs.declared.syntax.Cmp.TheVariants.{Equal, Differ, Less, AtMost, More, AtLeast}
use Rattle.spec_script.specs.declared.fault.ExecFault.{ExecFault}
use Rattle.spec_script.specs.declared.fault.ExecFault.TheVariants.{Overflow, ZeroDivisor, NotWhole, Mixed, TextTooLong}
use Rattle.base_texts.specs.Results.{◌>>=◌}

-- a number of 64 bits, or an overflow
abbrev pub bounded : ℤ → Result ℤ ExecFault
bounded z = if int_le (negsuc (2 ^ 63 - 1)) z && int_le z (pos (2 ^ 63 - 1)) then Ok z else Err Overflow

-- a truth as a number
abbrev pub truth : Bool → ℤ
truth b = if b then pos 1 else pos 0

-- every number but 0 is true
abbrev pub is_true : ℤ → Bool
is_true x = not (int_eq x (pos 0))

-- the whole quotient: the faults in their order
abbrev pub quotient : ℤ → ℤ → Result ℤ ExecFault
quotient x y =
    if int_eq y (pos 0) then Err ZeroDivisor
    else bounded (int_div x y) >>= λ q. if int_eq (int_rem x y) (pos 0) then Ok q else Err NotWhole

-- whether a comparison holds of two that stand in this order
abbrev pub compares : Cmp → Ordering → Bool
compares Equal order = is_eq order
compares Differ order = is_ne order
compares Less order = is_lt order
compares AtMost order = is_le order
compares More order = is_gt order
compares AtLeast order = is_ge order

-- an operator before a number
abbrev pub on_int : UnOp → ℤ → Result ℤ ExecFault
on_int Neg x = bounded (neg_ℤ x)
on_int Not x = Ok (truth (not (is_true x)))
on_int Flip x = Ok (int_bit_not w64 x)

-- an operator between two numbers that are both evaluated
abbrev pub on_ints : BinOp → ℤ → ℤ → Result ℤ ExecFault
on_ints Add x y = bounded (x +ℤ y)
on_ints Sub x y = bounded (x -ℤ y)
on_ints Mul x y = bounded (x *ℤ y)
on_ints Div x y = quotient x y
on_ints And x y = Ok (truth (is_true x && is_true y))
on_ints Or x y = Ok (truth (is_true x || is_true y))
on_ints BitAnd x y = Ok (int_bit_and w64 x y)
on_ints BitOr x y = Ok (int_bit_or w64 x y)
on_ints BitXor x y = Ok (int_bit_xor w64 x y)
on_ints (Compare c) x y = Ok (truth (compares c (int_cmp x y)))

-- an operator between two texts: they are joined, or compared by their bytes
abbrev pub on_texts : BinOp → List ℕ → List ℕ → Result Value ExecFault
on_texts Add s t = if nat_le (length s + length t) 4096 then Ok (Text (s ++ t)) else Err TextTooLong
on_texts (Compare c) s t = Ok (Int (truth (compares c (slice_cmp nat_cmp s t))))
on_texts Sub s t = Err Mixed
on_texts Mul s t = Err Mixed
on_texts Div s t = Err Mixed
on_texts And s t = Err Mixed
on_texts Or s t = Err Mixed
on_texts BitAnd s t = Err Mixed
on_texts BitOr s t = Err Mixed
on_texts BitXor s t = Err Mixed

-- a number as a value
abbrev pub int_value : Result ℤ ExecFault → Result Value ExecFault
int_value (Ok n) = Ok (Int n)
int_value (Err f) = Err f

-- the number that a value is
abbrev pub number_in : Value → Result ℤ ExecFault
number_in (Int n) = Ok n
number_in (Text t) = Err Mixed

-- an operator before a value
abbrev pub unary_on : UnOp → Value → Result Value ExecFault
unary_on op (Int x) = int_value (on_int op x)
unary_on op (Text t) = Err Mixed

-- an operator between two values
abbrev pub binary_on : BinOp → Value → Value → Result Value ExecFault
binary_on op (Int x) (Int y) = int_value (on_ints op x y)
binary_on op (Text s) (Text t) = on_texts op s t
binary_on op (Int x) (Text t) = Err Mixed
binary_on op (Text s) (Int y) = Err Mixed

-- `&&`: a left that is 0 decides
abbrev pub both : Result Value ExecFault → Result Value ExecFault → Result Value ExecFault
both left right =
    left >>= number_in >>= λ x. if is_true x then (right >>= number_in >>= λ y. Ok (Int (truth (is_true y)))) else Ok (Int (pos 0))

-- `||`: a left that is not 0 decides
abbrev pub either : Result Value ExecFault → Result Value ExecFault → Result Value ExecFault
either left right =
    left >>= number_in >>= λ x. if is_true x then Ok (Int (pos 1)) else (right >>= number_in >>= λ y. Ok (Int (truth (is_true y))))

-- `? :`: the test decides which part counts
abbrev pub chosen : Result Value ExecFault → Result Value ExecFault → Result Value ExecFault → Result Value ExecFault
chosen test then_part else_part = test >>= number_in >>= λ x. if is_true x then then_part else else_part

-- the left operand, then the right one, then the operator
abbrev pub in_order : BinOp → Result Value ExecFault → Result Value ExecFault → Result Value ExecFault
in_order op left right = left >>= λ x. right >>= λ y. binary_on op x y

-- an operator between what its operands give
abbrev pub combined : BinOp → Result Value ExecFault → Result Value ExecFault → Result Value ExecFault
combined And left right = both left right
combined Or left right = either left right
combined Add left right = in_order Add left right
combined Sub left right = in_order Sub left right
combined Mul left right = in_order Mul left right
combined Div left right = in_order Div left right
combined BitAnd left right = in_order BitAnd left right
combined BitOr left right = in_order BitOr left right
combined BitXor left right = in_order BitXor left right
combined (Compare c) left right = in_order (Compare c) left right
