use Rattle.std.proofs.Common.{ap, ◌∙◌}
use Rattle.std.specs.Option.{option_copied}
use Rattle.tree_build.proofs.Tables.{tree_of-seen}
use Rattle.tree_build.proofs.trees.tree_of.Goals as goal

pub returns : goal.returns
returns c = ap option_copied (c.copied.ensures ∙ c.get.ensures.value) ∙ tree_of-seen c.args.id.now c.args.trees.now.entries
