use Rattle.run_laws.proofs.Keeping.{term_keeps}
use Rattle.run_laws.proofs.laws.a_reset_keeps_the_rules.Goals as goal

pub returns : goal.returns
returns c = λ t. (term_keeps t).reset
