use Rattle.std.proofs.Common.{◌≡◌, drop}
use Rattle.spec_tree_file.specs.Substitutions.{configuration_of}
use Rattle.tree_mock.proofs.nodes.configuration_of.Given as goal

abbrev pub invariant-loop-configuration : goal.invariant-loop-configuration
invariant-loop-configuration l = configuration_of (drop l.configuration-index l.configurations) l.name ≡ configuration_of l.configurations l.name
