use Rattle.std.proofs.Common.{◌≡◌, drop}
use Rattle.tree_build.specs.ReadSteps.{stray_place}
use Rattle.tree_build.proofs.trees.stray_place.Given as goal

abbrev pub invariant-loop-element : goal.invariant-loop-element
invariant-loop-element l = stray_place (drop l.element-index l.elements) ≡ stray_place l.elements
