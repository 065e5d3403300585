use Rattle.std.proofs.Common.{◌≡◌, ◌≤◌, ◌+◌, ◌*◌, ◌++◌, map}
use Rattle.spec_world_file.specs.WorldFile.{rounds}
use Rattle.world_draft.specs.Rounds.{what_of}
use Rattle.world_draft.proofs.rounds.push_rounds.Given as goal

-- the events so far, and those of the rounds that are left, are all
abbrev pub invariant-rounds : goal.invariant-rounds
invariant-rounds l = record {
  all : l.events.items ++ rounds l.left l.at l.ms (map what_of l.parts) ≡ l.initial.events.items ++ rounds l.fn.count l.fn.first l.ms (map what_of l.parts);
  within : l.at + l.left * l.ms ≤ 9000000000000000000;
}

abbrev pub decreases-rounds : goal.decreases-rounds
decreases-rounds l = l.left
