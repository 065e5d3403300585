use Rattle.std.proofs.Common.{◌≢◌, ◌≤◌, All, length}
use Rattle.std.specs.Io.KnownBytes.{Consumes}
use Rattle.spec_outside.specs.Lines.{most_line_bytes}
use Rattle.base_outside.proofs.in_lines.read_line.Given as goal

abbrev pub invariant-loop : goal.invariant-loop
invariant-loop g l =
    record {
      consumed : Consumes (g.B.Read.remaining l.fn.reader) (g.B.Read.remaining l.reader) l.room.items;
      unmet : All (λ b. b ≢ 10) l.room.items;
      few : length l.room.items ≤ most_line_bytes;
    }
