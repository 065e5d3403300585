use Rattle.std.proofs.Common.{◌≡◌, drop}
use Rattle.spec_exclusive.specs.Pairs.{is_listed}
use Rattle.tree_exclusive.proofs.leaves.is_listed.Given as goal

-- it is among those that are left where it is among all
abbrev pub invariant-loop-listed : goal.invariant-loop-listed
invariant-loop-listed l = is_listed (drop l.listed-index l.ids) l.id ≡ is_listed l.ids l.id
