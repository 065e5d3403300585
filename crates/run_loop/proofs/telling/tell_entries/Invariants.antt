use Rattle.std.proofs.Common.{◌≡◌, ◌≤◌, ◌-◌, ◌++◌, length, drop}
use Rattle.spec_run.specs.Run.{changed_entries}
use Rattle.run_loop.proofs.telling.tell_entries.Given as goal

-- the slots still to come give the other changes
abbrev pub invariant-loop-slot : goal.invariant-loop-slot
invariant-loop-slot g l = record {
  within : l.slot ≤ length l.board;
  changes : l.changes.items ++ changed_entries l.runner l.slot (drop l.slot g.P.Past.past) (drop l.slot l.board) ≡ l.fn.changes.items ++ changed_entries l.runner 0 g.P.Past.past l.board;
}

abbrev pub decreases-loop-slot : goal.decreases-loop-slot
decreases-loop-slot g l = length l.board - l.slot
