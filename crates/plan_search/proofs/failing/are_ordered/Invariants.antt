use Rattle.std.proofs.Common.{drop}
use Rattle.plan_search.proofs.Rising.{Rising}
use Rattle.plan_search.proofs.failing.are_ordered.Given as goal

-- where the levels still to come do not fall, none do
abbrev pub invariant-loop-place : goal.invariant-loop-place
invariant-loop-place l = Rising l.level (drop l.place-index l.places) → Rising 0 l.places
