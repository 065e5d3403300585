use Rattle.std.proofs.Common.{◌≡◌, ◌+◌, ◌++◌, drop}
use Rattle.spec_dead.specs.Dead.{unmarked}
use Rattle.tree_dead.proofs.marking.unmarked.Given as goal

-- the uids so far, followed by those of the marks still to come, are all
abbrev pub invariant-loop-mark : goal.invariant-loop-mark
invariant-loop-mark l = record {
  uid : l.uid ≡ l.mark-index + 1;
  uids : l.uids.items ++ unmarked l.uid (drop l.mark-index l.marks) ≡ unmarked 1 l.marks;
}
