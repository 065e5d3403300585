use Rattle.std.proofs.Common.{length, take, ◌-◌, ◌≡◌, ◌≤◌}
use Rattle.spec_outside.specs.Appending.{Appended}
use Rattle.base_outside.specs.OutSink.{written_so_far}
use Rattle.base_outside.proofs.out_sink.OutSink.write_turns.Given as goal

abbrev pub invariant-turns : goal.invariant-turns
invariant-turns g l =
    record {
      within : l.at ≤ length l.piece;
      text : Appended (written_so_far l.fn.self) (written_so_far l.self) (take l.at l.piece);
      calm : l.self.faults ≡ l.fn.self.faults;
    }

abbrev pub decreases-turns : goal.decreases-turns
decreases-turns g l = length l.piece - l.at
