use Rattle.std.proofs.Common.{◌≡◌, ◌++◌, map, drop}
use Rattle.run_arena.specs.Copying.{node_moved}
use Rattle.run_arena.proofs.copying.move_nodes.Given as goal

-- the nodes so far, followed by those still to come, are all
abbrev pub invariant-loop-node : goal.invariant-loop-node
invariant-loop-node l = l.moved.items ++ map (node_moved l.before l.counts) (drop l.node-index l.nodes) ≡ map (node_moved l.before l.counts) l.nodes
