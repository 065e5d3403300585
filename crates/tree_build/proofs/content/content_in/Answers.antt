use Rattle.std.proofs.Common.{Result, ap, ◌∙◌, subst}
use Rattle.base_texts.specs.Stops.{Gives}
use Rattle.spec_tree_file.specs.declared.content.Content.{Content}
use Rattle.spec_tree_file.specs.declared.build_fault.BuildFault.{BuildFault}
use Rattle.spec_tree_file.specs.Content.{Rules, content_by}
use Rattle.tree_build.specs.Seen.{rules_seen}
use Rattle.tree_build.proofs.ContentLaw.{content_same}
use Rattle.tree_build.proofs.content.content_in.Goals as goal

pub returns : goal.returns
returns c =
    let head = c.args.head.now in
    let attributes = c.args.attributes.now in
    subst (λ (said : Result Content BuildFault). Gives c.ruled_in.result said)
    (content_same c.args.uid head.kind head.form (rules_seen c.rules_of-rules.result) attributes
    ∙ ap (λ (rules : Rules). content_by c.args.uid head.kind head.form rules attributes) c.rules_of-rules.ensures)
    c.ruled_in.ensures
