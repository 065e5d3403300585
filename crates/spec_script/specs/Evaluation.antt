-- The meaning of expressions and scripts, over their names.
use Rattle.std.specs.Prelude.{ℕ, pos, List, [], ◌∷◌, Option, Some, Result, Ok, Err, slice_set}
use Rattle.spec_script.specs.declared.value.Value.{Value}
use Rattle.spec_script.specs.declared.value.Value.TheVariants.{Int, Text}
use Rattle.spec_script.specs.declared.syntax.Expr.{Expr, fold-Expr}
use Rattle.spec_script.specs.declared.syntax.Expr.TheOpen.{Expr-F, Num, Lit, Look, Group, Unary, Binary, Choose}
use Rattle.spec_script.specs.declared.syntax.Stmt.{Stmt}
use Rattle.spec_script.specs.declared.syntax.Stmt.TheVariants.{Create, Assign, Change, Plain}
use Rattle.spec_script.specs.declared.fault.ExecFault.{ExecFault}
use Rattle.spec_script.specs.Operators.{unary_on, combined, chosen}
use Rattle.base_texts.specs.Results.{◌>>=◌}
use Rattle.spec_script.specs.Entries.{entry_of}

-- one level of an expression, of whose parts it is known what they give
abbrev pub eval_step : (List ℕ → Result Value ExecFault) → Expr-F (Result Value ExecFault) → Result Value ExecFault
eval_step look (Num n) = Ok (Int n)
eval_step look (Lit t) = Ok (Text t)
eval_step look (Look name) = look name
eval_step look (Group a) = a
eval_step look (Unary op a) = a >>= unary_on op
eval_step look (Binary op a b) = combined op a b
eval_step look (Choose a b c) = chosen a b c

-- what an expression gives: its value, or the first fault in the order of evaluation
abbrev pub eval_of : (List ℕ → Result Value ExecFault) → Expr → Result Value ExecFault
eval_of look = fold-Expr (Result Value ExecFault) (eval_step look)

-- what a run gives, and the entries that it leaves
pub record Run : Type 0 where
  pub answer : Result Value ExecFault
  pub entries : List (Option Value)

-- a value that is found is written to a slot, and a fault writes nothing
abbrev pub written : ℕ → List (Option Value) → Result Value ExecFault → Run
written slot entries (Ok value) = record { answer = Ok value; entries = slice_set entries slot (Some value) }
written slot entries (Err fault) = record { answer = Err fault; entries = entries }

-- a value that is found, provided that the slot has an entry
abbrev pub if_there : ℕ → List (Option Value) → Result Value ExecFault → Result Value ExecFault
if_there slot entries found = found >>= λ value. entry_of entries slot >>= λ _. Ok value

-- what a statement gives and leaves
abbrev pub stmt_of : (List ℕ → ℕ) → Stmt → List (Option Value) → Run
stmt_of names (Create name e) entries =
    written (names name) entries (eval_of (λ n. entry_of entries (names n)) e)
stmt_of names (Assign name e) entries =
    written (names name) entries (if_there (names name) entries (eval_of (λ n. entry_of entries (names n)) e))
stmt_of names (Change op name e) entries =
    written (names name) entries (if_there (names name) entries (combined op (entry_of entries (names name)) (eval_of (λ n. entry_of entries (names n)) e)))
stmt_of names (Plain e) entries =
    record { answer = eval_of (λ n. entry_of entries (names n)) e; entries = entries }

-- what comes after a statement: nothing after a fault
abbrev pub followed : Result Value ExecFault → List (Option Value) → (Value → List (Option Value) → Run) → Run
followed (Ok value) entries next = next value entries
followed (Err fault) entries next = record { answer = Err fault; entries = entries }

-- one statement after the other; the last value counts
abbrev pub stmts_of : (List ℕ → ℕ) → Value → List Stmt → List (Option Value) → Run
stmts_of names last [] entries = record { answer = Ok last; entries = entries }
stmts_of names last (s ∷ rest) entries =
    followed (stmt_of names s entries).answer (stmt_of names s entries).entries (λ value left. stmts_of names value rest left)

-- what the statements of a script give and leave; there is one at least, so the 0 is never given
abbrev pub exec_of : (List ℕ → ℕ) → List Stmt → List (Option Value) → Run
exec_of names stmts entries = stmts_of names (Int (pos 0)) stmts entries
