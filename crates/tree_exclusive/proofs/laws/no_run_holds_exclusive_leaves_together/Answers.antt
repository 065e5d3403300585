use Rattle.tree_exclusive.proofs.Exclusive.{all_apart}
use Rattle.tree_exclusive.proofs.laws.no_run_holds_exclusive_leaves_together.Goals as goal

pub returns : goal.returns
returns c = all_apart
