use Rattle.run_moves.proofs.RateVisits.{period_hears}
use Rattle.run_moves.proofs.decorators.laws.a_period_passes_between_visits.Goals as goal

pub returns : goal.returns
returns c = period_hears
