use Rattle.run_laws.proofs.Quiet.{rests_hold_nothing}
use Rattle.run_laws.proofs.laws.what_rests_holds_nothing.Goals as goal

pub returns : goal.returns
returns c = rests_hold_nothing
