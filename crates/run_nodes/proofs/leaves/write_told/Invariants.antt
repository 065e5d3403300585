use Rattle.std.proofs.Common.{◌≡◌, drop, length}
use Rattle.run_nodes.specs.Calls.{told_written}
use Rattle.run_nodes.proofs.leaves.write_told.Given as goal

-- the values still to come, written after those that were written, are all
abbrev pub invariant-loop-place : goal.invariant-loop-place
invariant-loop-place g l = record {
  written : told_written (drop l.place l.names) (drop l.place l.sources) l.told.items l.board ≡ told_written l.names l.sources l.fn.told.items l.fn.board;
  slots : length l.board ≡ length l.fn.board;
}
