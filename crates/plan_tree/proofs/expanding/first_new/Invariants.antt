use Rattle.std.proofs.Common.{◌≡◌, drop}
use Rattle.std.specs.List.{find}
use Rattle.plan_tree.specs.Expanded.{is_new}
use Rattle.plan_tree.proofs.expanding.first_new.Given as goal

abbrev pub invariant-loop-template : goal.invariant-loop-template
invariant-loop-template l = find (is_new l.nodes l.tried) (drop l.template-index l.achievers) ≡ find (is_new l.nodes l.tried) l.achievers
