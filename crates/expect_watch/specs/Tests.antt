-- Expressions that are ready, as tests of facts.
use Rattle.std.specs.Prelude.{ℤ, List, Bool, replicate}
use Rattle.spec_script.specs.declared.cells.Seen.TheVariants as seen
use Rattle.run_driver.specs.declared.expression.ReadyExpr.{ReadyExpr}
use Rattle.run_driver.specs.Ready.{ready_test}
use Rattle.spec_expect.specs.Met.{is_yes}

-- whether a ready expression is true of facts, without inputs
abbrev pub is_ready_so : ReadyExpr → List ℤ → Bool
is_ready_so e facts = is_yes (ready_test e (replicate 8 seen.Absent) facts)
