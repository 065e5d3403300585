use Rattle.tree_elements.proofs.Writing.{spelled_stands}
use Rattle.tree_elements.proofs.laws.spelled_elements_can_be_written.Goals as goal

pub returns : goal.returns
returns c = spelled_stands
