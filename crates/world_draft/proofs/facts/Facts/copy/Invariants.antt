use Rattle.std.proofs.Common.{◌≡◌, ◌++◌}
use Rattle.std.specs.Map.{values_of}
use Rattle.world_draft.proofs.facts.Facts.copy.Given as goal

-- the facts so far, and those that are left, are all
abbrev pub invariant-loop-fact : goal.invariant-loop-fact
invariant-loop-fact l = l.facts ++ values_of l.fact-iterator ≡ l.self
