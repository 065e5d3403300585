use Rattle.std.proofs.Common.{◌≡◌, drop}
use Rattle.plan_reorder.specs.Looked.{first_threat}
use Rattle.plan_reorder.proofs.conflicts.first_threat.Given as goal

abbrev pub invariant-loop-key : goal.invariant-loop-key
invariant-loop-key l = first_threat l.t.rules l.t.nodes l.action (drop l.key-index l.keys) ≡ first_threat l.t.rules l.t.nodes l.action l.keys
