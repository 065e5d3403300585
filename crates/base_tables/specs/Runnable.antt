-- Trees that a run can be made of.
use Rattle.std.specs.Prelude.{◌≤◌, IsTrue}
use Rattle.std.specs.List.{AllByRecursion}
use Rattle.spec_tree.specs.declared.term.Kind.{Kind}
use Rattle.spec_tree.specs.declared.term.Kind.TheVariants.{Switch}
use Rattle.spec_tree.specs.declared.term.Tree.{Tree}
use Rattle.spec_tree.specs.BuiltIns.{has_code, takes}
use Rattle.spec_tree.specs.Trees.{ports_fit, CodeFits, GuardsFit, Node, nodes_of, IsWithinLimits}

-- a Switch has 6 cases at most
abbrev pub FewCases : Kind → Type 0
FewCases (Switch cases) = cases ≤ 6
FewCases kind = Unit {0}

-- what a visit needs of a node: the children, the ports and the scripts that its kind asks
pub record NodeRuns (node : Node) : Type 0 where
  pub children : IsTrue (takes node.kind node.children)
  pub cases : FewCases node.kind
  pub ports : IsTrue (ports_fit node.kind node.ports)
  pub code : CodeFits (has_code node.kind) node.code
  pub guards : GuardsFit node.guards

-- A tree can be run where it is within the limits, and each of its nodes has what a visit needs.
pub record IsRunnable (tree : Tree) : Type 0 where
  pub limits : IsWithinLimits tree
  pub fit : AllByRecursion NodeRuns (nodes_of tree.term)
