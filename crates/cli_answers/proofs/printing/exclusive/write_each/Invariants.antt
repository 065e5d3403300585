use Rattle.std.proofs.Common.{◌≤◌, map, take}
use Rattle.std.specs.List.{concat}
use Rattle.spec_outside.specs.Appending.{Appended}
use Rattle.spec_outside.specs.Writes.{WroteLines}
use Rattle.spec_program.specs.Exclusives.{pair_line}
use Rattle.cli_answers.proofs.printing.exclusive.write_each.Given as goal

abbrev pub invariant-loop-pair : goal.invariant-loop-pair
invariant-loop-pair g l =
    let written = g.K.Sink.written in
    let faults = g.K.Sink.faults in
    record {
      text : Appended (written l.fn.out) (written l.out) (concat (map pair_line (take l.pair-index l.pairs)));
      count : faults l.fn.out ≤ faults l.out;
      writes : WroteLines g.K.Sink.write_gives l.fn.out l.out;
    }
