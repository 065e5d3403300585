use Rattle.run_moves.proofs.rounds.go_to.Goals as goal

pub returns-else-at-n-clause-onward : goal.returns-else-at-n-clause-onward
returns-else-at-n-clause-onward c = c.end.ensures.onward _ _
