use Rattle.std.proofs.Common.{◌≡◌, map, take}
use Rattle.spec_tree_file.specs.Substitutions.{replaced}
use Rattle.tree_mock.proofs.substituting.+terms.Given as goal

abbrev pub invariant-all_replaced-loop-term : goal.invariant-all_replaced-loop-term
invariant-all_replaced-loop-term l = l.all.items ≡ map (λ term. replaced l.rules term l.above) (take l.term-index l.terms)
