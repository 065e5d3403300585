use Rattle.std.proofs.Common.{◌≡◌, drop}
use Rattle.spec_tree_file.specs.Models.{models_in}
use Rattle.tree_manifest.proofs.read.manifest_of.Given as goal

abbrev pub invariant-loop-i : goal.invariant-loop-i
invariant-loop-i l = models_in (drop l.i l.children) ≡ models_in l.children
