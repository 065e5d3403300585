use Rattle.std.proofs.Common.{◌≡◌, ◌++◌, drop}
use Rattle.spec_plan.specs.PlanLines.{listed}
use Rattle.cli_answers.proofs.planning.plan_lines.put_names.Given as goal

-- the names so far, followed by those still to come, are all
abbrev pub invariant-loop-name : goal.invariant-loop-name
invariant-loop-name l = l.line.items ++ listed (drop l.name-index l.names) ≡ l.fn.line.items ++ listed l.names
