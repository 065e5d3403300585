use Rattle.plan_reorder.proofs.conflicts.+threat_above.Given as goal

abbrev pub decreases-threat_above : goal.decreases-threat_above
decreases-threat_above l = l.levels
