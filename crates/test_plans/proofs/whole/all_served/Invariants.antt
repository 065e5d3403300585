use Rattle.std.proofs.Common.{◌≢◌, ℕ, ◌<◌, None, length, get_or, map}
use Rattle.spec_world.specs.declared.world.Row.{Row}
use Rattle.spec_run.specs.Drivers.{kind_of_row, place_of_kind}
use Rattle.test_plans.proofs.whole.all_served.Given as goal

-- the rows so far have a driver each
abbrev pub invariant-loop-row : goal.invariant-loop-row
invariant-loop-row g l = (k : ℕ) (d : Row) → k < l.row-index →
    place_of_kind (map (λ (b : _). (goal.Driver-dyn g (b.vtable, b.value)).state b.value) l.roster) (kind_of_row (get_or l.world.rows k d)) ≢ None
