use Rattle.std.proofs.Common.{◌≡◌, ◌++◌, drop}
use Rattle.tree_manifest.specs.Known.{defaults_of, faulty_names}
use Rattle.tree_manifest.proofs.defaults.defaults_of.Given as goal

abbrev pub invariant-loop-port : goal.invariant-loop-port
invariant-loop-port l =
    (l.ports.items ++ defaults_of (drop l.port-index l.model) ≡ defaults_of l.model)
    × (l.faulty.items ++ faulty_names (drop l.port-index l.model) ≡ faulty_names l.model)
