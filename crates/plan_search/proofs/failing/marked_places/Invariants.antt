use Rattle.std.proofs.Common.{◌≡◌, take}
use Rattle.std.specs.List.{filter}
use Rattle.spec_plan.specs.Failing.{places_from}
use Rattle.plan_search.specs.Marked.{is_marked}
use Rattle.plan_search.proofs.failing.marked_places.Given as goal

abbrev pub invariant-loop-index : goal.invariant-loop-index
invariant-loop-index l = l.places.items ≡ filter (λ c. is_marked l.marks c.uid) (places_from 1 (take l.index l.spots))
