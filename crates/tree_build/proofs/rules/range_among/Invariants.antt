use Rattle.std.proofs.Common.{◌≡◌, drop, map}
use Rattle.base_tables.specs.BuiltInRows.{rule_seen}
use Rattle.spec_tree_file.specs.Content.{range_among}
use Rattle.tree_build.proofs.rules.range_among.Given as goal

abbrev pub invariant-loop-rule : goal.invariant-loop-rule
invariant-loop-rule l = range_among (map rule_seen (drop l.rule-index l.rules)) l.name ≡ range_among (map rule_seen l.rules) l.name
