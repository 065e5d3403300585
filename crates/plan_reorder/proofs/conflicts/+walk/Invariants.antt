use Rattle.std.proofs.Common.{◌+◌, ◌*◌, take}
use Rattle.plan_reorder.proofs.Untouched.{HasAdded}
use Rattle.plan_reorder.proofs.Walked.{HavePassed}
use Rattle.plan_reorder.proofs.conflicts.+walk.Given as goal

abbrev pub decreases-conflict_in : goal.decreases-conflict_in
decreases-conflict_in l = 2 * l.levels

abbrev pub decreases-conflict_at : goal.decreases-conflict_at
decreases-conflict_at l = 2 * l.levels + 1

-- the children that were passed have no conflict, and what their heads read was added
abbrev pub invariant-conflict_in-loop-key : goal.invariant-conflict_in-loop-key
invariant-conflict_in-loop-key l =
    HavePassed l.t l.node (take l.key-index l.keys) l.levels l.read × HasAdded l.t l.node.part (take l.key-index l.keys) l.read l.within
