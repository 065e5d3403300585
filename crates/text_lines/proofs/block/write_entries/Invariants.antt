use Rattle.std.proofs.Common.{◌≤◌, map, take}
use Rattle.std.specs.List.{concat}
use Rattle.spec_output.specs.Lines.{entry_line}
use Rattle.spec_outside.specs.Appending.{Appended}
use Rattle.spec_outside.specs.Writes.{WroteLines}
use Rattle.text_lines.proofs.block.write_entries.Given as goal

abbrev pub invariant-loop-entry : goal.invariant-loop-entry
invariant-loop-entry g l =
    let written = g.K.Sink.written in
    let faults = g.K.Sink.faults in
    record {
      text : Appended (written l.fn.out) (written l.out) (concat (map (entry_line l.names) (take l.entry-index l.entries)));
      count : faults l.fn.out ≤ faults l.out;
      writes : WroteLines g.K.Sink.write_gives l.fn.out l.out;
    }
