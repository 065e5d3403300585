use Rattle.std.proofs.Common.{◌≡◌, ◌*◌, ◌<◌, ℕ, get_or, length, take}
use Rattle.run_arena.specs.Rosters.{served}
use Rattle.run_loop.proofs.counts.counts_of.Given as goal

-- the nodes before this one are counted
abbrev pub invariant-loop-node : goal.invariant-loop-node
invariant-loop-node g l = record {
  many : length l.counts.items ≡ length (g.D.Drivers.states l.drivers);
  counts : (place : ℕ) → place < length l.counts.items → get_or l.counts.items place 0 ≡ l.runners * served place (take l.node-index l.nodes);
}
