use Rattle.run_laws.proofs.Keeping.{term_halts}
use Rattle.run_laws.proofs.laws.a_halt_keeps_the_rules.Goals as goal

pub returns : goal.returns
returns c = term_halts
