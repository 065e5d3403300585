use Rattle.run_driver.proofs.Quiet.{none_total, total_none}
use Rattle.run_driver.proofs.roster.hold_nothing.Goals as goal

pub returns : goal.returns
returns g c = (λ none. total_none _ (c.count_none.ensures.0 none), λ none. c.count_none.ensures.1 (none_total _ none))
