use Rattle.std.proofs.Common.{◌≤◌, length}
use Rattle.spec_outside.specs.Writes.{AreLines, WroteLines}
use Rattle.world_ground.specs.Writing.{AreLinesOrNone, IsUnderway}
use Rattle.world_ground.proofs.write.write_ground.Given as goal

abbrev pub invariant-lines : goal.invariant-lines
invariant-lines g l =
    let written = g.K.Sink.written in
    let faults = g.K.Sink.faults in
    record {
      underway : IsUnderway l.g.text l.rest (written l.fn.out) (written l.out);
      count : faults l.fn.out ≤ faults l.out;
      writes : AreLines l.g.text → WroteLines g.K.Sink.write_gives l.fn.out l.out × AreLinesOrNone l.rest;
    }

abbrev pub decreases-lines : goal.decreases-lines
decreases-lines g l = length l.rest
