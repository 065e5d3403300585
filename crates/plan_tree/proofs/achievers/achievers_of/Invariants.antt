use Rattle.std.proofs.Common.{◌≡◌, ◌++◌, drop}
use Rattle.std.specs.List.{filter}
use Rattle.plan_tree.specs.Growth.{is_achiever}
use Rattle.plan_tree.proofs.achievers.achievers_of.Given as goal

abbrev pub invariant-loop-template : goal.invariant-loop-template
invariant-loop-template l =
    l.found.items ++ filter (is_achiever l.rules l.test) (drop l.template-index l.templates) ≡ filter (is_achiever l.rules l.test) l.templates
