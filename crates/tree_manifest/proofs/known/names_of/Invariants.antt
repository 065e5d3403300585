use Rattle.std.proofs.Common.{take}
use Rattle.tree_manifest.specs.Known.{AreNames}
use Rattle.tree_manifest.proofs.known.names_of.Given as goal

abbrev pub invariant-loop-port : goal.invariant-loop-port
invariant-loop-port l = AreNames l.names.keys (take l.port-index l.ports)
