use Rattle.run_moves.proofs.RecoveryVisits.{attempt_hears, recovery_hears}
use Rattle.run_moves.proofs.whole_visits.recovery_over_a_visit.Goals as goal

pub returns : goal.returns
returns c = record { attempt = attempt_hears; recovery = recovery_hears }
