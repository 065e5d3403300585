use Rattle.std.proofs.Common.{◌≡◌, ◌<◌, ℕ, get_or, false}
use Rattle.std.specs.Str.{bytes_eq}
use Rattle.spec_world.specs.declared.world.ToldOut.{ToldOut}
use Rattle.run_nodes.proofs.leaves.place_told.Given as goal

-- none of the values so far was told for the name
abbrev pub invariant-loop-place : goal.invariant-loop-place
invariant-loop-place l = (k : ℕ) (d : ToldOut) → k < l.place → bytes_eq (get_or l.told k d).port l.name ≡ false
