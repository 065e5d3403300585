-- What is written of a plan that reaches the goals.
use Rattle.std.specs.Prelude.{◌≤◌, List, ◌++◌, length, map}
use Rattle.std.specs.List.{concat}
use Rattle.spec_tree.specs.Limits.{most_file_bytes}
use Rattle.spec_tree.specs.PrintedTree.{tree_lines}
use Rattle.spec_output.specs.NoNames.{no_names}
use Rattle.spec_plan.specs.declared.ending.End.{End}
use Rattle.spec_plan.specs.declared.ending.End.TheVariants.{Reached}
use Rattle.spec_plan.specs.declared.ending.Step.{Step}
use Rattle.spec_plan.specs.PlanLines.{end_line, step_line}

-- the steps, the end and the tree are no more bytes than a tree file may have
abbrev pub IsShort : List Step → End → Type 0
IsShort steps (Reached tree tick) = length (concat (map step_line steps) ++ (end_line no_names (Reached tree tick) ++ concat (tree_lines tree))) ≤ most_file_bytes
IsShort steps end = Unit {0}
