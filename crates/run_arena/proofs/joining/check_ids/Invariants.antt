use Rattle.std.proofs.Common.{◌≡◌, drop}
use Rattle.spec_run.specs.Joins.{first_missing}
use Rattle.run_arena.specs.Joining.{ids_lent}
use Rattle.run_arena.proofs.joining.check_ids.Given as goal

-- what is missing for the leaves still to come is what is missing for all
abbrev pub invariant-loop-id : goal.invariant-loop-id
invariant-loop-id g l = first_missing l.world.rows (g.D.Drivers.states l.drivers) (ids_lent (drop l.id-index l.ids)) ≡ first_missing l.world.rows (g.D.Drivers.states l.drivers) (ids_lent l.ids)
