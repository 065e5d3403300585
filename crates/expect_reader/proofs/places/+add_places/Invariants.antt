use Rattle.std.proofs.Common.{◌≡◌, ◌++◌, drop}
use Rattle.std.specs.List.{flat_map}
use Rattle.spec_expect.specs.Leaves.{places_below}
use Rattle.expect_reader.proofs.places.+add_places.Given as goal

abbrev pub invariant-loop-child : goal.invariant-loop-child
invariant-loop-child l =
    l.places.items ++ flat_map (λ t. places_below t l.above) (drop l.child-index l.child-items)
    ≡ l.initial.places.items ++ flat_map (λ t. places_below t l.above) l.child-items
