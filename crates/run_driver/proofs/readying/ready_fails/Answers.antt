use Rattle.std.proofs.Common.{◌∙◌, Some, ap, sym}
use Rattle.std.specs.Prelude.{option_map}
use Rattle.spec_run.specs.Leaf.{Test, place_of, test_of}
use Rattle.run_driver.proofs.Tests.{same_test}
use Rattle.run_driver.proofs.readying.ready_fails.Goals as goal

pub returns-in_ok-ready_expr-in-Some-clause-test : goal.returns-in_ok-ready_expr-in-Some-clause-test
returns-in_ok-ready_expr-in-Some-clause-test c =
    let names = c.args.names.now in
    ap (λ (t : Test). Some t) (same_test _ c.in_ok-ready_expr-in-Some.field-0 _ c.in_ok-ready_expr-in-Some.ensures.number)
    ∙ ap (option_map (test_of (place_of names.ports.now names.facts.now))) (sym c.in-Some.is)
