use Rattle.std.proofs.Common.{◌≡◌, [], drop}
use Rattle.spec_tree_file.specs.Models.{with_models}
use Rattle.tree_manifest.proofs.read.models_of.Given as goal

abbrev pub invariant-loop-element : goal.invariant-loop-element
invariant-loop-element l = with_models l.manifest (drop l.element-index l.elements) ≡ with_models [] l.elements
