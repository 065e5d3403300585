use Rattle.std.proofs.Common.{◌≡◌, drop}
use Rattle.spec_tree_file.specs.Models.{no_ports, with_children}
use Rattle.tree_manifest.proofs.ports.ports_of.Given as goal

abbrev pub invariant-loop-child : goal.invariant-loop-child
invariant-loop-child l = with_children l.ports (drop l.child-index l.children) ≡ with_children no_ports l.children
