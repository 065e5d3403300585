use Rattle.std.proofs.Common.{ℕ, List, Ok, refl, ap, sym, ◌∙◌}
use Rattle.spec_tree.specs.declared.term.Kind.{Kind}
use Rattle.spec_tree_file.specs.Attributes.{Attributes}
use Rattle.spec_tree_file.specs.Content.{content_in}
use Rattle.spec_tree_file.specs.declared.content.Content.{Content}
use Rattle.spec_tree_file.specs.declared.version.Form.{Form}
use Rattle.tree_build.proofs.AnyUid.{any_uid}
use Rattle.tree_build.proofs.contents.Contents.content.Goals as goal

pub returns-in_ok-shared-in-Some : goal.returns-in_ok-shared-in-Some
returns-in_ok-shared-in-Some c =
    let known = c.in-Some.known.now in
    let models = c.args.self.now in
    let uid = c.args.uid in
    let head = c.args.head.now in
    let attributes = c.args.attributes.now in
    let alike = c.if-is_of.ensures.head refl in
    ap (λ (kind : Kind). content_in uid models kind head.id head.form attributes) (sym alike.0)
    ∙ ap (λ (form : Form). content_in uid models known.head.kind head.id form attributes) (sym alike.1.0)
    ∙ ap (λ (id : List ℕ). content_in uid models known.head.kind id known.head.form attributes) (sym alike.1.1)
    ∙ ap (λ (others : Attributes). content_in uid models known.head.kind known.head.id known.head.form others) (sym (c.if-is_of.ensures.attributes refl))
    ∙ any_uid models known.head.kind known.head.id known.head.form known.attributes.now known.content uid c.in-Some.ensures
    ∙ ap (λ (content : Content). Ok content) (sym (c.in_ok-shared-in-Some.ensures ∙ c.get.ensures))
