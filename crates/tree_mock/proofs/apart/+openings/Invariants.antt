use Rattle.std.proofs.Common.{◌≡◌, ◌++◌, map, take}
use Rattle.std.specs.List.{flat_map}
use Rattle.spec_program.specs.ToldApart.{openings}
use Rattle.tree_mock.specs.Seen.{opening_seen}
use Rattle.tree_mock.proofs.apart.+openings.Given as goal

abbrev pub invariant-add_all-loop-term : goal.invariant-add_all-loop-term
invariant-add_all-loop-term l =
    map opening_seen l.found.items ≡ map opening_seen l.fn.found.items ++ flat_map (λ term. openings term l.above) (take l.term-index l.terms)
