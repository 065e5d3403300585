use Rattle.std.proofs.Common.{◌≡◌, ◌≤◌, ◌++◌, length, drop}
use Rattle.spec_plan.specs.Templates.{templates_from}
use Rattle.plan_tree.proofs.domain.template.templates.Given as goal

abbrev pub invariant-loop-row : goal.invariant-loop-row
invariant-loop-row l = record {
  counted : l.number ≡ l.row-index;
  few : length l.row-items ≤ 1024;
  so_far : l.found.items ++ templates_from l.row-index (drop l.row-index l.row-items) ≡ templates_from 0 l.row-items;
}
