use Rattle.std.proofs.Common.{ap, sym, ◌∙◌}
use Rattle.spec_tree.specs.Names.{is_among}
use Rattle.tree_manifest.specs.Known.{is_kept}
use Rattle.tree_manifest.proofs.ports.Ports.new.Goals as goal

pub invariant_of-result : goal.invariant_of-result
invariant_of-result c = λ q. ap (is_kept q) c.new-3.ensures.empty ∙ sym (ap (is_among q) c.new-2.ensures.items)
