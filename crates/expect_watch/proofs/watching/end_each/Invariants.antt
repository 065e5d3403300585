use Rattle.std.proofs.Common.{◌≡◌, ◌++◌, drop, length, map, take}
use Rattle.expect_watch.specs.States.{event_ended}
use Rattle.expect_watch.specs.Valid.{AreFit}
use Rattle.expect_watch.proofs.watching.end_each.Given as goal

abbrev pub invariant-loop-one : goal.invariant-loop-one
invariant-loop-one l = record {
  taken : l.one-items ≡ map (event_ended l.at l.facts) (take l.one-index l.initial.one-items) ++ drop l.one-index l.initial.one-items;
  fit : AreFit (length l.facts) l.one-items;
}
