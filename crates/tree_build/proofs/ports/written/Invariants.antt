use Rattle.std.proofs.Common.{◌≡◌, [], drop}
use Rattle.tree_build.specs.ContentSteps.{with_written}
use Rattle.tree_build.specs.Seen.{rules_seen}
use Rattle.tree_build.proofs.ports.written.Given as goal

abbrev pub invariant-loop-attribute : goal.invariant-loop-attribute
invariant-loop-attribute l =
    with_written l.uid l.with_code (rules_seen l.rules) l.ports.items (drop l.attribute-index l.attributes)
    ≡ with_written l.uid l.with_code (rules_seen l.rules) [] l.attributes
