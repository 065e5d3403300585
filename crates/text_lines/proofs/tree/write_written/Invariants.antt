use Rattle.std.proofs.Common.{◌≤◌, codes, map, take}
use Rattle.std.specs.List.{concat}
use Rattle.spec_tree.specs.PrintedTree.{printed}
use Rattle.spec_outside.specs.Appending.{Appended}
use Rattle.spec_outside.specs.Writes.{WroteLines}
use Rattle.text_lines.proofs.tree.write_written.Given as goal

abbrev pub invariant-loop-node : goal.invariant-loop-node
invariant-loop-node g l =
    let written = g.K.Sink.written in
    let faults = g.K.Sink.faults in
    record {
      text : Appended (written l.initial.out) (written l.out) (concat (map (λ n. concat ((printed n).lines (codes "    "))) (take l.node-index l.nodes)));
      count : faults l.fn.out ≤ faults l.out;
      writes : WroteLines g.K.Sink.write_gives l.fn.out l.out;
    }
