use Rattle.std.proofs.Common.{◌≡◌}
use Rattle.serde_json.specs.View.{members_view}
use Rattle.spec_tree_file.specs.RuleFiles.{configuration_in, each}
use Rattle.tree_mock.proofs.Eaches.{before}
use Rattle.tree_mock.proofs.reading.configurations_of.Given as goal

abbrev pub invariant-loop-name : goal.invariant-loop-name
invariant-loop-name l = before l.configurations.items (each configuration_in (members_view l.name-iterator)) ≡ each configuration_in (members_view l.fn.members.entries)
