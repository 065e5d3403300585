use Rattle.run_laws.proofs.Events.{ticked_leaves}
use Rattle.run_laws.proofs.laws.a_tick_keeps_the_rules.Goals as goal

pub returns : goal.returns
returns c = ticked_leaves
