-- An expression that was made ready as that of a condition is a test of facts.
use Rattle.std.proofs.Common.{◌≡◌, ℤ, List, [], ap, sym, ◌∙◌}
use Rattle.std.specs.Prelude.{replicate}
use Rattle.spec_script.specs.declared.cells.Seen.TheVariants as seen
use Rattle.spec_script.specs.declared.syntax.Expr.{Expr}
use Rattle.spec_run.specs.Leaf.{Rule, Test, Tests, place_of, rule_of, test_of}
use Rattle.spec_world.specs.declared.world.Fact.{Fact}
use Rattle.spec_world.specs.declared.world.Row.{Row}
use Rattle.spec_world.specs.declared.world.RowSort.TheVariants as row
use Rattle.run_driver.specs.declared.expression.ReadyExpr.{ReadyExpr}
use Rattle.run_driver.specs.declared.row.ReadyRow.{ReadyRow}
use Rattle.run_driver.specs.declared.sort.ReadySort.TheVariants as sort
use Rattle.run_driver.specs.Ready.{ready_test, ready_way}
use Rattle.run_driver.specs.Rules.{rule}
use Rattle.spec_expect.specs.Met.{is_so, is_yes}
use Rattle.expect_watch.specs.Tests.{is_ready_so}

tests_same : (t u : Test) → Tests t ≡ Tests u → t ≡ u
tests_same t u same = cc

-- the row of a condition that is true where the expression is
abbrev pub condition : Expr → Row
condition e = record { id = []; ports = []; sort = row.When e; needs = []; sets = []; outs = [] }

pub made_test : (names : List Fact) (e : Expr) (made : ReadyRow) (test : ReadyExpr) → rule made ≡ rule_of names (condition e) → made.sort ≡ sort.When test → is_ready_so test ≡ is_so names e
made_test names e made test same sort =
    let way : Tests (ready_test test) ≡ Tests (test_of (place_of [] names) e) = sym (ap ready_way sort) ∙ ap (λ (r : Rule). r.way) same in
    ap (λ (t : Test). (λ (facts : List ℤ). is_yes (t (replicate 8 seen.Absent) facts))) (tests_same (ready_test test) (test_of (place_of [] names) e) way)
