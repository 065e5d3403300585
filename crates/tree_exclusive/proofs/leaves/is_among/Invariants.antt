use Rattle.std.proofs.Common.{◌≡◌, drop, nat_eq}
use Rattle.std.specs.List.{list_any}
use Rattle.tree_exclusive.proofs.leaves.is_among.Given as goal

-- it is among those that are left where it is among all
abbrev pub invariant-loop-other : goal.invariant-loop-other
invariant-loop-other l = list_any (nat_eq l.uid) (drop l.other-index l.uids) ≡ list_any (nat_eq l.uid) l.uids
