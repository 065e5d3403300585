use Rattle.std.proofs.Common.{◌≡◌, length, drop, replicate}
use Rattle.run_arena.specs.Laying.{next_after}
use Rattle.run_arena.proofs.copying.counts_in.Given as goal

-- the counts so far, with the leaves still to come added, are those of all
abbrev pub invariant-loop-node : goal.invariant-loop-node
invariant-loop-node l = record {
  counts : next_after (drop l.node-index l.nodes) l.counts.items ≡ next_after l.nodes (replicate l.drivers 0);
  places : length l.counts.items ≡ l.drivers;
}
