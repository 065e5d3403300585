use Rattle.tree_elements.proofs.Verdicts.{either, one_fault, not_both}
use Rattle.tree_elements.proofs.laws.element_or_fault.Goals as goal

pub returns : goal.returns
returns c = record { either = either; once = one_fault; not_both = not_both }
