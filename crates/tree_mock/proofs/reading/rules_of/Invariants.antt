use Rattle.std.proofs.Common.{◌≡◌}
use Rattle.serde_json.specs.View.{members_view}
use Rattle.spec_tree_file.specs.RuleFiles.{each, rule_in}
use Rattle.tree_mock.proofs.Eaches.{before}
use Rattle.tree_mock.proofs.reading.rules_of.Given as goal

abbrev pub invariant-loop-pattern : goal.invariant-loop-pattern
invariant-loop-pattern l = before l.rules.items (each rule_in (members_view l.pattern-iterator)) ≡ each rule_in (members_view l.fn.members.entries)
