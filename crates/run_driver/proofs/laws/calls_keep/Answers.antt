use Rattle.base_tables.proofs.Calls.{as_many_facts, held_while_running}
use Rattle.run_driver.proofs.laws.calls_keep.Goals as goal

pub returns : goal.returns
returns c = record { held = held_while_running; facts = as_many_facts }
