use Rattle.std.proofs.Common.{◌≡◌, Option, Some, refl, ap, sym, subst, ◌∙◌}
use Rattle.serde_json.specs.Data.{Data}
use Rattle.serde_json.specs.Read.{read}
use Rattle.serde_json.specs.View.{view}
use Rattle.spec_tree_file.specs.RuleFiles.{json_of}
use Rattle.tree_mock.specs.Asked.{Shows}
use Rattle.tree_mock.proofs.Texts.{json_of-none, json_of-utf8}
use Rattle.tree_mock.proofs.asked.json_in.Goals as goal

pub returns-in_default : goal.returns-in_default
returns-in_default c = (json_of-none c.args.bytes.now (λ utf8. absurd (c.in_default.ensures.cases.0 utf8)), refl)

pub returns-in-Ok-read_text : goal.returns-in-Ok-read_text
returns-in-Ok-read_text c =
    let bytes = c.args.bytes.now in
    let cases = c.in-Ok.ensures.cases in
    let same : read c.in-Ok.text.now ≡ json_of bytes = ap read cases.0 ∙ sym (json_of-utf8 bytes cases.1) in
    subst (λ (o : Option Data). (d : Data) × (o ≡ Some d) × Shows 3 (view c.in-Ok-read_text.value) d) same c.in-Ok-read_text.ensures.ok
