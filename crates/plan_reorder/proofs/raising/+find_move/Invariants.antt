use Rattle.plan_reorder.proofs.raising.+find_move.Given as goal

abbrev pub decreases-find_move : goal.decreases-find_move
decreases-find_move l = l.levels
