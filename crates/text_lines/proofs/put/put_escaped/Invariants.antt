use Rattle.std.proofs.Common.{◌≡◌, ◌++◌, length}
use Rattle.std.specs.List.{flat_map}
use Rattle.spec_output.specs.Lines.{quoted_byte}
use Rattle.text_lines.proofs.put.put_escaped.Given as goal

abbrev pub invariant-parts : goal.invariant-parts
invariant-parts l = l.out.items ++ flat_map quoted_byte l.rest ≡ l.initial.out.items ++ flat_map quoted_byte l.text

abbrev pub decreases-parts : goal.decreases-parts
decreases-parts l = length l.rest
