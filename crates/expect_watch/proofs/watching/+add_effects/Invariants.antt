use Rattle.std.proofs.Common.{◌≡◌, ◌++◌, drop}
use Rattle.std.specs.List.{flat_map}
use Rattle.expect_watch.specs.Begun.{sets_in}
use Rattle.expect_watch.proofs.watching.+add_effects.Given as goal

abbrev pub invariant-loop-child : goal.invariant-loop-child
invariant-loop-child l =
    l.effects.items ++ flat_map (sets_in l.rows) (drop l.child-index l.child-items) ≡ l.initial.effects.items ++ flat_map (sets_in l.rows) l.child-items
