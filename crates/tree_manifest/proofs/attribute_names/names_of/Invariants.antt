use Rattle.std.proofs.Common.{take}
use Rattle.tree_manifest.specs.Named.{HaveNames}
use Rattle.tree_manifest.proofs.attribute_names.names_of.Given as goal

abbrev pub invariant-loop-name : goal.invariant-loop-name
invariant-loop-name l = HaveNames l.names.keys (take l.name-index l.attributes)
