use Rattle.run_moves.proofs.rounds.go_on.Goals as goal

pub returns-else-is_passed-clause-onward : goal.returns-else-is_passed-clause-onward
returns-else-is_passed-clause-onward c = c.end.ensures.onward _ _
