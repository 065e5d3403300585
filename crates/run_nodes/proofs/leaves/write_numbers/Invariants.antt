use Rattle.std.proofs.Common.{◌≡◌, drop, length}
use Rattle.run_nodes.specs.Calls.{outputs_written}
use Rattle.run_nodes.proofs.leaves.write_numbers.Given as goal

abbrev pub invariant-loop-place : goal.invariant-loop-place
invariant-loop-place g l = record {
  written : outputs_written (drop l.place l.sources) (drop l.place l.numbers) l.board ≡ outputs_written l.sources l.numbers l.fn.board;
  slots : length l.board ≡ length l.fn.board;
}
