-- Scripts of arithmetic alone.
use Rattle.std.specs.Prelude.{IsTrue}
use Rattle.spec_script.specs.declared.syntax.BinOp.{BinOp}
use Rattle.spec_script.specs.declared.syntax.Stmt.{Stmt}
use Rattle.spec_script.specs.Grammar.{changes, sign_fits}

-- one of the four operators of arithmetic
abbrev pub IsArithmetic : BinOp → Type 0
IsArithmetic op = IsTrue (changes op)

-- a statement changes an entry by arithmetic alone
abbrev pub ChangesByArithmetic : Stmt → Type 0
ChangesByArithmetic s = IsTrue (sign_fits s)
