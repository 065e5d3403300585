use Rattle.run_laws.proofs.Events.{quench_run_steady}
use Rattle.run_laws.proofs.Quenches.{idle_sound}
use Rattle.run_laws.proofs.laws.a_quench_makes_the_rules.Goals as goal

pub returns : goal.returns
returns c = record { idle = idle_sound; quench = quench_run_steady }
