use Rattle.std.proofs.Common.{◌≡◌, drop}
use Rattle.spec_tree_file.specs.Attributes.{value_of}
use Rattle.tree_manifest.proofs.attributes.attribute.Given as goal

abbrev pub invariant-loop-key : goal.invariant-loop-key
invariant-loop-key l = value_of l.name (drop l.key-index l.attributes) ≡ value_of l.name l.attributes
