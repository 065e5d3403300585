-- A read is tried again only where it gave nothing.
use Rattle.std.proofs.Common.{◌≡◌, length}
use Rattle.std.specs.Io.KnownBytes.{Keeps}
use Rattle.base_outside.proofs.dir_shelf.read_turn.Given as goal

abbrev pub invariant-loop : goal.invariant-loop
invariant-loop g l = (length l.turn ≡ length l.initial.turn) × Keeps (g.F.Read.remaining l.initial.file) (g.F.Read.remaining l.file)
