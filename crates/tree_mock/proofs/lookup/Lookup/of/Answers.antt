use Rattle.std.proofs.Common.{◌≤◌, length, subst, List}
use Rattle.std.proofs.lemmas.List.{drop_all}
use Rattle.spec_tree_file.specs.declared.mock_rules.Rule.{Rule}
use Rattle.tree_mock.proofs.Fronts.{Begun, completed}
use Rattle.tree_mock.proofs.lookup.Lookup.of.Goals as goal

pub invariant_of-result : goal.invariant_of-result
invariant_of-result c =
    let all = c.args.rules.now.rules in
    let before = c.loop-rule.before.now in
    let fronts = c.loop-rule.fronts.items in
    completed all before fronts (subst (λ (rules : List Rule). Begun all before rules fronts) (drop_all c.loop-rule.rule-index all (subst (λ (rules : List Rule). length rules ≤ c.loop-rule.rule-index) c.list-rule-items.ensures c.loop-rule-test.false)) c.loop-rule.invariant)
