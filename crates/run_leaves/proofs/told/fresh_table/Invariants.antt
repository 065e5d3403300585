use Rattle.std.proofs.Common.{◌≡◌, replicate}
use Rattle.spec_run.specs.Leaf.{fresh}
use Rattle.run_leaves.proofs.told.fresh_table.Given as goal

abbrev pub invariant-loop : goal.invariant-loop
invariant-loop l = l.table.items ≡ replicate l.counter fresh
