use Rattle.std.proofs.Common.{◌≡◌, ◌+◌, ◌≤◌, drop}
use Rattle.run_arena.specs.Rosters.{leaves_in}
use Rattle.run_arena.proofs.arena.leaf_count.Given as goal

abbrev pub invariant-loop-node : goal.invariant-loop-node
invariant-loop-node l = record {
  few : l.count ≤ l.node-index;
  all : l.count + leaves_in (drop l.node-index l.nodes) ≡ leaves_in l.nodes;
}
