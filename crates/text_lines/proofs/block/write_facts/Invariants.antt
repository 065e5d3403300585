use Rattle.std.proofs.Common.{◌≤◌, map, take}
use Rattle.std.specs.List.{concat}
use Rattle.spec_output.specs.Lines.{fact_line}
use Rattle.spec_outside.specs.Appending.{Appended}
use Rattle.spec_outside.specs.Writes.{WroteLines}
use Rattle.text_lines.proofs.block.write_facts.Given as goal

abbrev pub invariant-loop-fact : goal.invariant-loop-fact
invariant-loop-fact g l =
    let written = g.K.Sink.written in
    let faults = g.K.Sink.faults in
    record {
      text : Appended (written l.fn.out) (written l.out) (concat (map (fact_line l.names) (take l.fact-index l.facts)));
      count : faults l.fn.out ≤ faults l.out;
      writes : WroteLines g.K.Sink.write_gives l.fn.out l.out;
    }
