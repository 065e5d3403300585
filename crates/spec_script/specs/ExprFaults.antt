-- The fault of a text as one expression.
use Rattle.std.specs.Prelude.{ℕ, List}
use Rattle.spec_script.specs.declared.fault.ScriptFault.{ScriptFault}
use Rattle.spec_script.specs.Grammar.{IsExpr}
use Rattle.spec_script.specs.Reading.{high_expr, Faulty}

-- the text has this fault as an expression
abbrev pub ExprFault : List ℕ → ScriptFault → Type 0
ExprFault text fault = Faulty IsExpr high_expr text fault
