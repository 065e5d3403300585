use Rattle.std.proofs.Common.{codes}
use Rattle.spec_tree.specs.PrintedTree.{attribute_text, script_attribute}
use Rattle.text_lines.proofs.Attributes.{eight_texts}
use Rattle.text_lines.proofs.mark.put_guards.Goals as goal

pub returns : goal.returns
returns c =
    let g = c.args.guards.now in
    let texts = eight_texts attribute_text c.args.out.now.items
    (script_attribute (codes "_failureIf") g.failure_if) (script_attribute (codes "_successIf") g.success_if)
    (script_attribute (codes "_skipIf") g.skip_if) (script_attribute (codes "_while") g.while_true)
    (script_attribute (codes "_onSuccess") g.on_success) (script_attribute (codes "_onFailure") g.on_failure)
    (script_attribute (codes "_post") g.post) (script_attribute (codes "_onHalted") g.on_halted) in
    cc (texts, c.in_ok-put_script.ensures, c.in_ok-put_script-2.ensures, c.in_ok-put_script-3.ensures, c.in_ok-put_script-4.ensures, c.in_ok-put_script-5.ensures, c.in_ok-put_script-6.ensures, c.in_ok-put_script-7.ensures, c.in_ok-put_script-8.ensures)
