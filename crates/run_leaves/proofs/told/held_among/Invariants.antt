use Rattle.std.proofs.Common.{◌≡◌, take}
use Rattle.std.specs.Prelude.{count_by}
use Rattle.spec_run.specs.Drivers.{is_held}
use Rattle.run_leaves.proofs.told.held_among.Given as goal

abbrev pub invariant-loop-instance : goal.invariant-loop-instance
invariant-loop-instance l = l.held ≡ count_by is_held (take l.instance-index l.table)
