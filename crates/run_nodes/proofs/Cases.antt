-- A Switch that fits has 6 cases at most.
use Rattle.base_tables.specs.Runnable.{FewCases}
use Rattle.spec_tree.specs.Trees.{Node}
use Rattle.run_arena.specs.Nodes.{IsFit}

-- a node that fits has no more cases than a Switch can
pub few_cases : (node : Node) → IsFit node → FewCases node.kind
unfolding IsFit
few_cases node fit = fit.cases
