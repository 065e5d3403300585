use Rattle.std.proofs.Common.{◌≡◌, ◌++◌, ◌∷◌, drop, false, map}
use Rattle.spec_expect.specs.Leaves.{is_picked}
use Rattle.expect_reader.proofs.leaves.marks_of.Given as goal

abbrev pub invariant-loop-place : goal.invariant-loop-place
invariant-loop-place l = l.marks.items ++ map (is_picked l.pick) (drop l.place-index l.places) ≡ false ∷ map (is_picked l.pick) l.places
