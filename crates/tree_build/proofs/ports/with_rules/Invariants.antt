use Rattle.std.proofs.Common.{◌≡◌, drop, map}
use Rattle.base_tables.specs.BuiltInRows.{rule_seen}
use Rattle.tree_build.specs.ContentSteps.{with_rules}
use Rattle.tree_build.proofs.ports.with_rules.Given as goal

abbrev pub invariant-loop-rule : goal.invariant-loop-rule
invariant-loop-rule l =
    with_rules l.uid l.attributes l.ports.items (map rule_seen (drop l.rule-index l.rules))
    ≡ with_rules l.uid l.attributes l.fn.ports.items (map rule_seen l.rules)
