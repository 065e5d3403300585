use Rattle.std.proofs.Common.{◌≡◌, drop}
use Rattle.spec_tree_file.specs.Content.{all_known}
use Rattle.tree_build.specs.Seen.{rules_seen}
use Rattle.tree_build.proofs.rules.all_known.Given as goal

abbrev pub invariant-loop-name : goal.invariant-loop-name
invariant-loop-name l = all_known l.with_code (rules_seen l.rules) (drop l.name-index l.attributes) ≡ all_known l.with_code (rules_seen l.rules) l.attributes
