use Rattle.std.proofs.Common.{◌≡◌, ◌+◌, drop}
use Rattle.run_loop.specs.Runs.{arenas_of, leaves_of}
use Rattle.run_loop.proofs.counts.leaves.Given as goal

-- the leaves counted so far, and those of the runners still to come, are all
abbrev pub invariant-loop-runner : goal.invariant-loop-runner
invariant-loop-runner g l = l.count + leaves_of (drop l.runner-index (arenas_of l.runs)) ≡ leaves_of (arenas_of l.runs)
