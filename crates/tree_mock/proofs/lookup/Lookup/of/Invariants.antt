use Rattle.std.proofs.Common.{drop}
use Rattle.tree_mock.proofs.Fronts.{Begun}
use Rattle.tree_mock.proofs.lookup.Lookup.of.Given as goal

abbrev pub invariant-loop-rule : goal.invariant-loop-rule
invariant-loop-rule l = Begun l.fn.rules.rules l.before (drop l.rule-index l.fn.rules.rules) l.fronts.items
