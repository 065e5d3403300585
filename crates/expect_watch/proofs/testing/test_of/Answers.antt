use Rattle.std.proofs.Common.{◌∙◌, ap}
use Rattle.spec_run.specs.Leaf.{rule_of}
use Rattle.spec_world.specs.declared.world.Row.{Row}
use Rattle.expect_watch.proofs.Tests.{made_test}
use Rattle.expect_watch.proofs.testing.test_of.Goals as goal

pub returns-in-When-clause-test : goal.returns-in-When-clause-test
returns-in-When-clause-test c =
    made_test c.args.facts.now c.args.expr c.in_ok-made.made c.in-When.test
    (c.in_ok-made.ensures.rule ∙ ap (λ (r : Row). rule_of c.args.facts.now r) c.condition_of-row.ensures) cc
