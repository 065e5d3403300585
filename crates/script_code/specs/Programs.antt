-- What the code of a script or an expression means: what it gives, and what it needs.
use Rattle.std.specs.Prelude.{ℕ, Bool, List, Option, Result}
use Rattle.spec_script.specs.declared.value.Value.{Value}
use Rattle.spec_script.specs.declared.syntax.Expr.{Expr}
use Rattle.spec_script.specs.declared.syntax.Stmt.{Stmt}
use Rattle.spec_script.specs.declared.fault.ExecFault.{ExecFault}
use Rattle.spec_script.specs.Evaluation.{Run, eval_of, stmt_of, exec_of}
use Rattle.script_code.specs.Meeting.{expr_meets, stmt_meets, stmts_meet}
use Rattle.script_code.specs.Sources.{reach_of}
use Rattle.spec_script.specs.Scripts.{texts_of}

-- the meaning of an expression's code
pub record Formula : Type 0 where
  -- what it gives where the slots give this
  pub value : (ℕ → Result Value ExecFault) → Result Value ExecFault
  -- how many slots it needs
  pub reach : ℕ
  -- how many text literals it has
  pub texts : ℕ
  -- whether it meets a text where the slots give this
  pub meets : (ℕ → Result Value ExecFault) → Bool

-- the meaning of an expression, with its names looked up through slots
abbrev pub formula_of : (List ℕ → ℕ) → Expr → Formula
formula_of names e = record {
  value = λ look. eval_of (λ name. look (names name)) e;
  reach = reach_of names e;
  texts = texts_of e;
  meets = λ look. expr_meets (λ name. look (names name)) e;
}

-- the meaning of a script's code
pub record Program : Type 0 where
  -- what it gives and leaves over these entries
  pub run : List (Option Value) → Run
  -- whether it meets a text over these entries
  pub meets : List (Option Value) → Bool

-- the meaning of a script's statements, with their names looked up through slots
abbrev pub program_of : (List ℕ → ℕ) → List Stmt → Program
program_of names stmts = record {
  run = exec_of names stmts;
  meets = stmts_meet names stmts;
}

-- the meaning of a statement, with its names looked up through slots
abbrev pub statement_of : (List ℕ → ℕ) → Stmt → Program
statement_of names s = record { run = stmt_of names s; meets = stmt_meets names s }
