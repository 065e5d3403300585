use Rattle.run_laws.proofs.Runs.{run_steady}
use Rattle.run_laws.proofs.laws.a_run_keeps_the_rules.Goals as goal

pub returns : goal.returns
returns c = run_steady
