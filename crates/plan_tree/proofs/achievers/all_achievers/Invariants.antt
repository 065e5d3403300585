use Rattle.std.proofs.Common.{◌≡◌, map, take}
use Rattle.plan_tree.specs.declared.rule.Rule.{Rule}
use Rattle.plan_tree.specs.Growth.{achievers_by}
use Rattle.plan_tree.proofs.achievers.all_achievers.Given as goal

abbrev pub invariant-loop-rule : goal.invariant-loop-rule
invariant-loop-rule l = l.all.items ≡ map (λ (rule : Rule). achievers_by l.rules l.templates rule.test) (take l.rule-index l.rules)
