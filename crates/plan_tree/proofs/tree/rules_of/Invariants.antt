use Rattle.std.proofs.Common.{◌≡◌, map, take}
use Rattle.plan_tree.specs.Rules.{rule_of}
use Rattle.plan_tree.proofs.tree.rules_of.Given as goal

abbrev pub invariant-loop-row : goal.invariant-loop-row
invariant-loop-row l = l.rules.items ≡ map rule_of (take l.row-index l.rows)
