use Rattle.std.proofs.Common.{◌≡◌, ◌++◌, drop}
use Rattle.run_nodes.specs.Calls.{values_held}
use Rattle.run_nodes.proofs.leaves.copy_values.Given as goal

-- the values so far, followed by those still to come, are all
abbrev pub invariant-loop-source : goal.invariant-loop-source
invariant-loop-source g l = l.values.items ++ values_held l.board (drop l.source-index l.sources) ≡ values_held l.board l.sources
