use Rattle.std.proofs.Common.{◌≤◌, ◌+◌, ◌-◌, length}
use Rattle.std.specs.Io.KnownBytes.{Consumes}
use Rattle.base_outside.proofs.dir_shelf.read_turns.Given as goal

abbrev pub invariant-turns : goal.invariant-turns
invariant-turns g l =
    record {
      within : length l.room.items ≤ l.limit + 1;
      given : Consumes (g.F.Read.remaining l.fn.file) (g.F.Read.remaining l.file) l.room.items;
    }

abbrev pub decreases-turns : goal.decreases-turns
decreases-turns g l = l.limit + 1 - length l.room.items
