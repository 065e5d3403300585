use Rattle.std.proofs.Common.{◌≡◌, ◌++◌, length}
use Rattle.std.specs.List.{flat_map}
use Rattle.spec_tree.specs.PrintedTree.{escaped_byte}
use Rattle.text_lines.proofs.mark.put_value.Given as goal

abbrev pub invariant-parts : goal.invariant-parts
invariant-parts l = l.out.items ++ flat_map escaped_byte l.rest ≡ l.initial.out.items ++ flat_map escaped_byte l.value

abbrev pub decreases-parts : goal.decreases-parts
decreases-parts l = length l.rest
