-- Whether a run meets a text: a text literal, or an entry that holds a text. Where it meets none, no text is made or copied.
use Rattle.std.specs.Prelude.{ℕ, Bool, true, false, not, ◌&&◌, ◌||◌, if◌then◌else◌, List, [], ◌∷◌, Option, Result, Ok, Err}
use Rattle.spec_script.specs.declared.value.Value.{Value}
use Rattle.spec_script.specs.declared.value.Value.TheVariants.{Int, Text}
use Rattle.spec_script.specs.declared.syntax.BinOp.{BinOp}
use Rattle.spec_script.specs.declared.syntax.BinOp.TheVariants.{And, Or}
use Rattle.spec_script.specs.declared.syntax.Expr.{Expr, fold-Expr, map-Expr}
use Rattle.spec_script.specs.declared.syntax.Expr.TheOpen.{Expr-F, Num, Lit, Look, Group, Unary, Binary, Choose}
use Rattle.spec_script.specs.declared.syntax.Stmt.{Stmt}
use Rattle.spec_script.specs.declared.syntax.Stmt.TheVariants.{Create, Assign, Change, Plain}
use Rattle.spec_script.specs.declared.fault.ExecFault.{ExecFault}
use Rattle.spec_script.specs.Entries.{entry_of}
use Rattle.spec_script.specs.Evaluation.{eval_step, stmt_of}
use Rattle.spec_script.specs.Operators.{is_true, number_in}
use Rattle.base_texts.specs.Results.{◌>>=◌}

-- what is given is a text
abbrev pub gives_text : Result Value ExecFault → Bool
gives_text (Ok (Int n)) = false
gives_text (Ok (Text t)) = true
gives_text (Err f) = false

-- there is no fault, and this holds of what is given
abbrev pub is_ok_and : {A : Type 0} → Result A ExecFault → (A → Bool) → Bool
is_ok_and (Ok x) holds = holds x
is_ok_and (Err f) holds = false

-- what an expression gives, and whether its evaluation meets a text
pub record Evaluated : Type 0 where
  pub value : Result Value ExecFault
  pub meets : Bool

-- an entry is looked at
abbrev pub looked_at : Result Value ExecFault → Evaluated
looked_at found = record { value = found; meets = gives_text found }

-- whether the right operand of an operator is evaluated, by what the left one gives
abbrev pub goes_right : BinOp → Result Value ExecFault → Bool
goes_right And left = is_ok_and (left >>= number_in) is_true
goes_right Or left = is_ok_and (left >>= number_in) (λ x. not (is_true x))
goes_right op left = is_ok_and left (λ _. true)

-- the operands of an operator, as far as they are evaluated
abbrev pub operands_meet : BinOp → Evaluated → Evaluated → Bool
operands_meet op a b = a.meets || (goes_right op a.value && b.meets)

-- the test of a choice, and the part that it takes
abbrev pub choice_meets : Evaluated → Evaluated → Evaluated → Bool
choice_meets a b c = a.meets || is_ok_and (a.value >>= number_in) (λ x. if is_true x then b.meets else c.meets)

abbrev pub meets_step : (List ℕ → Result Value ExecFault) → Expr-F Evaluated → Bool
meets_step look (Num n) = false
meets_step look (Lit t) = true
meets_step look (Look name) = gives_text (look name)
meets_step look (Group a) = a.meets
meets_step look (Unary op a) = a.meets
meets_step look (Binary op a b) = operands_meet op a b
meets_step look (Choose a b c) = choice_meets a b c

abbrev pub evaluated_step : (List ℕ → Result Value ExecFault) → Expr-F Evaluated → Evaluated
evaluated_step look e = record {
  value = eval_step look (map-Expr Evaluated (Result Value ExecFault) (λ part. part.value) e);
  meets = meets_step look e;
}

-- an expression, where the names give this
abbrev pub evaluated : (List ℕ → Result Value ExecFault) → Expr → Evaluated
evaluated look = fold-Expr Evaluated (evaluated_step look)

-- whether the evaluation of an expression meets a text
abbrev pub expr_meets : (List ℕ → Result Value ExecFault) → Expr → Bool
expr_meets look e = (evaluated look e).meets

-- whether a statement meets a text
abbrev pub stmt_meets : (List ℕ → ℕ) → Stmt → List (Option Value) → Bool
stmt_meets names (Create name e) entries = expr_meets (λ n. entry_of entries (names n)) e
stmt_meets names (Assign name e) entries = expr_meets (λ n. entry_of entries (names n)) e
stmt_meets names (Change op name e) entries =
    operands_meet op (looked_at (entry_of entries (names name))) (evaluated (λ n. entry_of entries (names n)) e)
stmt_meets names (Plain e) entries = expr_meets (λ n. entry_of entries (names n)) e

-- whether statements that run one after the other, up to a fault, meet a text
abbrev pub stmts_meet : (List ℕ → ℕ) → List Stmt → List (Option Value) → Bool
stmts_meet names [] entries = false
stmts_meet names (s ∷ rest) entries =
    stmt_meets names s entries || is_ok_and (stmt_of names s entries).answer (λ _. stmts_meet names rest (stmt_of names s entries).entries)
