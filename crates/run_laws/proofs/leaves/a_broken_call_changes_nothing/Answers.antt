use Rattle.run_laws.proofs.LeafCalls.{broken_changes_nothing}
use Rattle.run_laws.proofs.leaves.a_broken_call_changes_nothing.Goals as goal

pub returns : goal.returns
returns c = broken_changes_nothing
