use Rattle.std.proofs.Common.{◌≡◌}
use Rattle.std.specs.List.{flat_map, range_with_len}
use Rattle.spec_plan.specs.Failing.{at_level}
use Rattle.plan_search.proofs.failing.breadth_first.Given as goal

abbrev pub invariant-loop-level : goal.invariant-loop-level
invariant-loop-level l = l.ordered.items ≡ flat_map (at_level l.places) (range_with_len 0 l.level)
