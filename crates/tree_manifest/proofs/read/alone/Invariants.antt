use Rattle.std.proofs.Common.{◌≡◌, drop}
use Rattle.spec_tree_file.specs.Models.{no_second}
use Rattle.tree_manifest.proofs.read.alone.Given as goal

abbrev pub invariant-loop-element : goal.invariant-loop-element
invariant-loop-element l = no_second l.fn.manifest (drop l.element-index l.elements) ≡ no_second l.fn.manifest l.elements
