use Rattle.std.proofs.Common.{◌≡◌, length}
use Rattle.spec_tree_file.specs.Marks.{no_name_twice}
use Rattle.tree_elements.proofs.scan.few_single_names.Given as goal

abbrev pub invariant-names : goal.invariant-names
invariant-names l = no_name_twice l.rest ≡ no_name_twice l.attributes

abbrev pub decreases-names : goal.decreases-names
decreases-names l = length l.rest
