use Rattle.tree_elements.proofs.Verdicts.{one}
use Rattle.tree_elements.proofs.laws.one_element.Goals as goal

pub returns : goal.returns
returns c = one
