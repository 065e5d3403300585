-- Only an input can be missing from what a row's expression sees.
use Rattle.std.proofs.Common.{◌≡◌, ℕ, ◌+◌, ◌-◌, ◌<◌, ◌≤◌, ◌^◌, true, false, if◌then◌else◌, ◌&&◌, nat_le, ℤ, pos, negsuc, neg_ℤ, ◌+ℤ◌, ◌-ℤ◌, ◌*ℤ◌, int_le, int_div, int_rem, List, length, ◌++◌, get_or, Result, Ok, Err, sym, subst, ap, ◌∙◌, inl, inr, arith}
use Rattle.std.proofs.lemmas.Bool.{cases_lt}
use Rattle.std.specs.Ordering.{int_eq}
use Rattle.spec_script.specs.declared.cells.Seen.{Seen}
use Rattle.spec_script.specs.declared.cells.Seen.TheVariants as seen
use Rattle.spec_script.specs.declared.fault.ExecFault.{ExecFault}
use Rattle.spec_script.specs.declared.fault.ExecFault.TheVariants as exec
use Rattle.spec_script.specs.declared.syntax.BinOp.{BinOp}
use Rattle.spec_script.specs.declared.syntax.BinOp.TheVariants.{Add, Sub, Mul, Div, And, Or, BitAnd, BitOr, BitXor, Compare}
use Rattle.spec_script.specs.declared.syntax.UnOp.{UnOp}
use Rattle.spec_script.specs.declared.syntax.UnOp.TheVariants.{Neg, Not, Flip}
use Rattle.spec_script.specs.declared.syntax.Expr.{Expr, ind-Expr, map-Expr, fold-roll-Expr}
use Rattle.spec_script.specs.declared.syntax.Expr.TheOpen.{Expr-F, Num, Lit, Look, Group, Unary, Binary, Choose}
use Rattle.spec_script.specs.declared.value.Value.{Value}
use Rattle.spec_script.specs.declared.value.Value.TheVariants.{Int, Text}
use Rattle.spec_script.specs.Entries.{look_of, seen_number}
use Rattle.spec_script.specs.Evaluation.{eval_step, eval_of}
use Rattle.base_texts.specs.Results.{◌>>=◌}
use Rattle.spec_script.specs.Operators.{bounded, truth, is_true, quotient, on_int, on_ints, on_texts, int_value, number_in, unary_on, binary_on, both, either, chosen, in_order, combined}
use Rattle.script_code.specs.declared.codes.ExprCode.{ExprCode}
use Rattle.script_code.specs.Codes.{formula}
use Rattle.script_code.specs.Programs.{Formula, formula_of}
use Rattle.script_code.specs.Sources.{reach_step, reach_of}
use Rattle.spec_run.specs.Leaf.{sights}
use Rattle.run_driver.proofs.Sights.{fact_seen}

-- a fault by which a place has no entry says it of one of the first eight
abbrev IsLowFault : ExecFault → Type 0
IsLowFault (exec.NoEntry place) = place < 8
IsLowFault exec.Overflow = Unit {0}
IsLowFault exec.ZeroDivisor = Unit {0}
IsLowFault exec.NotWhole = Unit {0}
IsLowFault exec.Mixed = Unit {0}
IsLowFault exec.TextTooLong = Unit {0}

abbrev IsLow : {A : Type 0} → Result A ExecFault → Type 0
IsLow (Ok x) = Unit {0}
IsLow (Err fault) = IsLowFault fault

then_low : {A B : Type 0} (r : Result A ExecFault) (f : A → Result B ExecFault) → IsLow r → ((x : A) → IsLow (f x)) → IsLow (r >>= f)
then_low (Ok x) f low next = next x
then_low (Err fault) f low next = low

int_value_low : (r : Result ℤ ExecFault) → IsLow r → IsLow (int_value r)
int_value_low (Ok n) low = tt
int_value_low (Err fault) low = low

bounded_low : (z : ℤ) → IsLow (bounded z)
bounded_low z = elim (int_le (negsuc (2 ^ 63 - 1)) z && int_le z (pos (2 ^ 63 - 1))) as (λ b. IsLow {A = ℤ} (if b then Ok z else Err exec.Overflow)) [ true ↦ tt | false ↦ tt ]

whole_low : (x y q : ℤ) → IsLow {A = ℤ} (if int_eq (int_rem x y) (pos 0) then Ok q else Err exec.NotWhole)
whole_low x y q = elim (int_eq (int_rem x y) (pos 0)) as (λ b. IsLow {A = ℤ} (if b then Ok q else Err exec.NotWhole)) [ true ↦ tt | false ↦ tt ]

quotient_low : (x y : ℤ) → IsLow (quotient x y)
quotient_low x y =
    elim (int_eq y (pos 0)) as (λ b. IsLow {A = ℤ} (if b then Err exec.ZeroDivisor else bounded (int_div x y) >>= λ q. if int_eq (int_rem x y) (pos 0) then Ok q else Err exec.NotWhole)) [
      | true ↦ tt
      | false ↦ then_low (bounded (int_div x y)) (λ q. if int_eq (int_rem x y) (pos 0) then Ok q else Err exec.NotWhole) (bounded_low (int_div x y)) (whole_low x y)
    ]

ints_low : (op : BinOp) (x y : ℤ) → IsLow (on_ints op x y)
ints_low Add x y = bounded_low (x +ℤ y)
ints_low Sub x y = bounded_low (x -ℤ y)
ints_low Mul x y = bounded_low (x *ℤ y)
ints_low Div x y = quotient_low x y
ints_low And x y = tt
ints_low Or x y = tt
ints_low BitAnd x y = tt
ints_low BitOr x y = tt
ints_low BitXor x y = tt
ints_low (Compare c) x y = tt

texts_low : (op : BinOp) (s t : List ℕ) → IsLow (on_texts op s t)
texts_low Add s t = elim (nat_le (length s + length t) 4096) as (λ b. IsLow {A = Value} (if b then Ok (Text (s ++ t)) else Err exec.TextTooLong)) [ true ↦ tt | false ↦ tt ]
texts_low Sub s t = tt
texts_low Mul s t = tt
texts_low Div s t = tt
texts_low And s t = tt
texts_low Or s t = tt
texts_low BitAnd s t = tt
texts_low BitOr s t = tt
texts_low BitXor s t = tt
texts_low (Compare c) s t = tt

int_low : (op : UnOp) (x : ℤ) → IsLow (on_int op x)
int_low Neg x = bounded_low (neg_ℤ x)
int_low Not x = tt
int_low Flip x = tt

unary_low : (op : UnOp) (v : Value) → IsLow (unary_on op v)
unary_low op (Int x) = int_value_low (on_int op x) (int_low op x)
unary_low op (Text t) = tt

binary_low : (op : BinOp) (v w : Value) → IsLow (binary_on op v w)
binary_low op (Int x) (Int y) = int_value_low (on_ints op x y) (ints_low op x y)
binary_low op (Text s) (Text t) = texts_low op s t
binary_low op (Int x) (Text t) = tt
binary_low op (Text s) (Int y) = tt

number_low : (v : Value) → IsLow (number_in v)
number_low (Int n) = tt
number_low (Text t) = tt

module _ (left right : Result Value ExecFault) (l : IsLow left) (r : IsLow right) where
  in_order_low : (op : BinOp) → IsLow (in_order op left right)
  in_order_low op = then_low left (λ x. right >>= λ y. binary_on op x y) l (λ x. then_low right (λ y. binary_on op x y) r (λ y. binary_low op x y))

  number_of_left : IsLow (left >>= number_in)
  number_of_left = then_low left number_in l number_low

  truth_of_right : IsLow {A = Value} (right >>= number_in >>= λ y. Ok (Int (truth (is_true y))))
  truth_of_right = then_low (right >>= number_in) (λ y. Ok (Int (truth (is_true y)))) (then_low right number_in r number_low) (λ y. tt)

  both_low : IsLow (both left right)
  both_low =
      then_low (left >>= number_in) (λ x. if is_true x then (right >>= number_in >>= λ y. Ok (Int (truth (is_true y)))) else Ok (Int (pos 0))) number_of_left
      (λ x. elim (is_true x) as (λ b. IsLow {A = Value} (if b then (right >>= number_in >>= λ y. Ok (Int (truth (is_true y)))) else Ok (Int (pos 0)))) [ true ↦ truth_of_right | false ↦ tt ])

  either_low : IsLow (either left right)
  either_low =
      then_low (left >>= number_in) (λ x. if is_true x then Ok (Int (pos 1)) else (right >>= number_in >>= λ y. Ok (Int (truth (is_true y))))) number_of_left
      (λ x. elim (is_true x) as (λ b. IsLow {A = Value} (if b then Ok (Int (pos 1)) else (right >>= number_in >>= λ y. Ok (Int (truth (is_true y)))))) [ true ↦ tt | false ↦ truth_of_right ])

  combined_low : (op : BinOp) → IsLow (combined op left right)
  combined_low Add = in_order_low Add
  combined_low Sub = in_order_low Sub
  combined_low Mul = in_order_low Mul
  combined_low Div = in_order_low Div
  combined_low And = both_low
  combined_low Or = either_low
  combined_low BitAnd = in_order_low BitAnd
  combined_low BitOr = in_order_low BitOr
  combined_low BitXor = in_order_low BitXor
  combined_low (Compare c) = in_order_low (Compare c)

chosen_low : (test first second : Result Value ExecFault) → IsLow test → IsLow first → IsLow second → IsLow (chosen test first second)
chosen_low test first second t a b =
    then_low (test >>= number_in) (λ x. if is_true x then first else second) (then_low test number_in t number_low)
    (λ x. elim (is_true x) as (λ c. IsLow (if c then first else second)) [ true ↦ a | false ↦ b ])

module _ (names : List ℕ → ℕ) (look : ℕ → Result Value ExecFault) (bound : ℕ) (low : (k : ℕ) → k < bound → IsLow (look k)) where
  abbrev GivesLow : Expr → Type 0
  GivesLow e = reach_of names e ≤ bound → IsLow (eval_of (λ name. look (names name)) e)

  -- a node of an expression, where its parts give low faults alone
  low_at : (y : Expr-F ((e : Expr) × GivesLow e)) →
      reach_step names (map-Expr Expr ℕ (reach_of names) (map-Expr ((e : Expr) × GivesLow e) Expr (λ e. e.0) y)) ≤ bound →
      IsLow (eval_step (λ name. look (names name)) (map-Expr Expr (Result Value ExecFault) (eval_of (λ name. look (names name))) (map-Expr ((e : Expr) × GivesLow e) Expr (λ e. e.0) y)))
  low_at (Num n) within = tt
  low_at (Lit t) within = tt
  low_at (Look name) within = low (names name) (omega arith)
  low_at (Group a) within = a.1 within
  low_at (Unary op a) within = then_low (eval_of (λ name. look (names name)) a.0) (unary_on op) (a.1 within) (unary_low op)
  low_at (Binary op a b) within =
      combined_low (eval_of (λ name. look (names name)) a.0) (eval_of (λ name. look (names name)) b.0) (a.1 (omega arith)) (b.1 (omega arith)) op
  low_at (Choose a b c) within =
      chosen_low (eval_of (λ name. look (names name)) a.0) (eval_of (λ name. look (names name)) b.0) (eval_of (λ name. look (names name)) c.0) (a.1 (omega arith)) (b.1 (omega arith)) (c.1 (omega arith))

  gives_low : (e : Expr) → GivesLow e
  gives_low = ind-Expr GivesLow (λ x y is within.
      subst (λ (r : Result Value ExecFault). IsLow r) (sym (fold-roll-Expr (Result Value ExecFault) (eval_step (λ name. look (names name))) x))
      (subst (λ (z : Expr-F Expr). reach_step names (map-Expr Expr ℕ (reach_of names) z) ≤ bound → IsLow (eval_step (λ name. look (names name)) (map-Expr Expr (Result Value ExecFault) (eval_of (λ name. look (names name))) z)))
      is (low_at y) (subst (λ k. k ≤ bound) (fold-roll-Expr ℕ (reach_step names) x) within)))

-- what is seen at a place below 8
seen_low : (k : ℕ) (s : Seen) → k < 8 → IsLow (seen_number k s)
seen_low k (seen.Int n) low = tt
seen_low k seen.Text low = tt
seen_low k seen.Absent low = low

look_low : (inputs : List Seen) (facts : List ℤ) → length inputs ≡ 8 → (k : ℕ) → k < 8 + length facts → IsLow (look_of (sights inputs facts) k)
look_low inputs facts eight k within =
    elim (cases_lt k 8) [
      | inl low ↦ seen_low k (get_or (sights inputs facts) k seen.Absent) low
      | inr following ↦ subst (λ s. IsLow (seen_number k s)) (sym (fact_seen inputs facts k seen.Absent eight following within)) tt
    ]

-- a compiled expression says of no place but an input's that it has no entry
pub only_inputs_missing : (names : List ℕ → ℕ) (e : Expr) (code : ExprCode) → formula code ≡ formula_of names e →
    (inputs : List Seen) (facts : List ℤ) (place : ℕ) → length inputs ≡ 8 → (formula code).reach ≤ 8 + length facts →
    (formula code).value (look_of (sights inputs facts)) ≡ Err (exec.NoEntry place) → place < 8
only_inputs_missing names e code same inputs facts place eight within missing =
    subst (λ (r : Result Value ExecFault). IsLow r) (sym (ap (λ (f : Formula). f.value (look_of (sights inputs facts))) same) ∙ missing)
    (gives_low names (look_of (sights inputs facts)) (8 + length facts) (look_low inputs facts eight) e (subst (λ (f : Formula). f.reach ≤ 8 + length facts) same within))
