use Rattle.expect_watch.proofs.Verdicts.{follows_any}
use Rattle.expect_watch.proofs.laws.what_is_lost_is_never_met.Goals as goal

pub returns : goal.returns
returns c = λ names facts e past more over lost. (follows_any names facts e over).stays past more lost
