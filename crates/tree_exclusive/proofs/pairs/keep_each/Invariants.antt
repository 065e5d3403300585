use Rattle.std.proofs.Common.{◌≡◌, ◌-◌, ◌++◌, map, drop, take, length}
use Rattle.spec_exclusive.specs.Pairs.{pair_of}
use Rattle.tree_exclusive.proofs.pairs.keep_each.Given as goal

-- the pairs so far, followed by those that are still kept, are all
abbrev pub invariant-loop-uid : goal.invariant-loop-uid
invariant-loop-uid l =
    l.pairs.items ++ take (100 - length l.pairs.items) (map (λ u. pair_of l.earlier u l.meeting) (drop l.uid-index l.later))
    ≡ l.fn.pairs.items ++ take (100 - length l.fn.pairs.items) (map (λ u. pair_of l.earlier u l.meeting) l.later)
