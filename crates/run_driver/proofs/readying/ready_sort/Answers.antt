use Rattle.std.proofs.Common.{◌∙◌, ap, sym}
use Rattle.spec_run.specs.Leaf.{Tests, Waits, place_of, way_of}
use Rattle.run_driver.proofs.Tests.{same_test}
use Rattle.run_driver.proofs.readying.ready_sort.Goals as goal

pub returns-in_ok-ready_expr-in-When-clause-way : goal.returns-in_ok-ready_expr-in-When-clause-way
returns-in_ok-ready_expr-in-When-clause-way c =
    let names = c.args.names.now in
    ap Tests (same_test _ c.in_ok-ready_expr-in-When.field-0 _ c.in_ok-ready_expr-in-When.ensures.number)
    ∙ ap (way_of (place_of names.ports.now names.facts.now)) (sym c.in-When.is)

pub returns-in_ok-ready_expr-in-Gate-clause-way : goal.returns-in_ok-ready_expr-in-Gate-clause-way
returns-in_ok-ready_expr-in-Gate-clause-way c =
    let names = c.args.names.now in
    ap Waits (same_test _ c.in_ok-ready_expr-in-Gate.field-0 _ c.in_ok-ready_expr-in-Gate.ensures.number)
    ∙ ap (way_of (place_of names.ports.now names.facts.now)) (sym c.in-Gate.is)
