use Rattle.std.proofs.Common.{◌≡◌, ◌≤◌, ◌-◌, ◌++◌, length, take, drop}
use Rattle.spec_run.specs.Run.{changed_from}
use Rattle.run_loop.proofs.telling.tell_facts.Given as goal

-- the facts still to come give the other changes, and those before are told
abbrev pub invariant-loop-first : goal.invariant-loop-first
invariant-loop-first l = record {
  within : l.first ≤ length l.facts;
  changes : l.changes.items ++ changed_from l.first (drop l.first l.fn.told) (drop l.first l.facts) ≡ l.fn.changes.items ++ changed_from 0 l.fn.told l.facts;
  told : l.told ≡ take l.first l.facts ++ drop l.first l.fn.told;
}

abbrev pub decreases-loop-first : goal.decreases-loop-first
decreases-loop-first l = length l.facts - l.first
