use Rattle.std.proofs.Common.{ap, ◌∙◌}
use Rattle.spec_tree_file.specs.declared.models.NodeModel.{NodeModel}
use Rattle.tree_manifest.proofs.PortNames.{has_name}
use Rattle.tree_manifest.proofs.known.KnownModel.has_port.Goals as goal

pub returns : goal.returns
returns c = c.contains.ensures ∙ c.self.invariant.0 c.args.name.now ∙ ap (λ (model : NodeModel). has_name c.args.name.now model.ports) c.self.view_is
