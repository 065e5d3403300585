use Rattle.std.proofs.Common.{◌≡◌, ◌++◌, map, take}
use Rattle.std.specs.List.{flat_map}
use Rattle.spec_tree.specs.PrintedTree.{attribute_text}
use Rattle.text_lines.proofs.mark.put_attributes.Given as goal

abbrev pub invariant-loop-name : goal.invariant-loop-name
invariant-loop-name l = l.out.items ≡ l.initial.out.items ++ flat_map attribute_text (map (λ a. (a.0.now, a.1.now)) (take l.name-index l.attributes))
