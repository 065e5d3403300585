use Rattle.std.proofs.Common.{◌++◌, List, sym, subst}
use Rattle.spec_exclusive.specs.declared.pair.Pair.{Pair}
use Rattle.tree_exclusive.specs.Steps.{IsFound}
use Rattle.tree_exclusive.proofs.Walks.{own_pairs}
use Rattle.tree_exclusive.proofs.pairs.add_own.Goals as goal

pub returns-in_ok-add_with-in-len1-up-clause-pairs :
    goal.returns-in_ok-add_with-in-len1-up-clause-pairs
returns-in_ok-add_with-in-len1-up-clause-pairs c pairs was =
    subst (λ (ps : List Pair). IsFound c.add_with.new.found (pairs ++ ps))
    (sym (own_pairs c.args.steps.now c.args.uid c.args.leaves.now c.in-len1-up.len_at_least c.if-leaf-uid.true c.requires.rising))
    (c.in_ok-add_with-in-len1-up.ensures.pairs pairs was)
