use Rattle.std.proofs.Common.{◌≡◌, ◌+◌, ◌++◌, take, drop}
use Rattle.spec_run.specs.Run.{changed_from}
use Rattle.run_loop.proofs.telling.tell_each.Given as goal

-- the facts still to come give the other changes, and those before are told
abbrev pub invariant-loop-place : goal.invariant-loop-place
invariant-loop-place l =
    (l.changes.items ++ changed_from (l.first + l.place) (drop l.place l.fn.told) (drop l.place l.facts) ≡ l.fn.changes.items ++ changed_from l.first l.fn.told l.facts)
    × (l.told ≡ take l.place l.facts ++ drop l.place l.fn.told)
