use Rattle.std.proofs.Common.{drop}
use Rattle.tree_mock.specs.Grams.{IsRead}
use Rattle.tree_mock.proofs.Fronts.{Left}
use Rattle.tree_mock.proofs.lookup.Lookup.rule_of.Given as goal

abbrev pub invariant-loop-front : goal.invariant-loop-front
invariant-loop-front l = record {
  left : Left l.fn.self.rules l.path l.known (drop l.front-index l.front-items);
  read : IsRead l.path l.grams;
}
