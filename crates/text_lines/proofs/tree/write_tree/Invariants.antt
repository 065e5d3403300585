use Rattle.std.proofs.Common.{◌≤◌, codes, map, take}
use Rattle.std.specs.List.{concat}
use Rattle.spec_tree.specs.PrintedTree.{tree_element}
use Rattle.spec_outside.specs.Appending.{Appended}
use Rattle.spec_outside.specs.Writes.{WroteLines}
use Rattle.text_lines.specs.Trees.{written}
use Rattle.text_lines.proofs.tree.write_tree.Given as goal

abbrev pub invariant-loop-written : goal.invariant-loop-written
invariant-loop-written g l =
    let told = g.K.Sink.written in
    let faults = g.K.Sink.faults in
    record {
      text : Appended (told l.initial.out) (told l.out) (concat (map (λ t. concat (tree_element (written t) (codes "  "))) (take l.written-index l.written-items)));
      count : faults l.fn.out ≤ faults l.out;
      writes : WroteLines g.K.Sink.write_gives l.fn.out l.out;
    }
