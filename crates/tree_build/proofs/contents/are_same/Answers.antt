use Rattle.tree_build.proofs.SameAttributes.{same_attributes}
use Rattle.tree_build.proofs.contents.are_same.Goals as goal

pub returns : goal.returns
returns c = same_attributes c.args.attributes.now c.args.others.now c.eq.result c.eq.ensures
