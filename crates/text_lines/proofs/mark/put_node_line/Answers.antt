use Rattle.std.proofs.Common.{codes}
use Rattle.spec_tree.specs.PrintedTree.{element_name, node_attributes, opening_text}
use Rattle.spec_tree.specs.declared.term.Term.{out-Term}
use Rattle.text_lines.proofs.Attributes.{line_text}
use Rattle.text_lines.proofs.mark.put_node_line.Goals as goal

pub returns : goal.returns
returns c =
    let node = out-Term c.args.term.now in
    let text = line_text c.args.line.now.items c.args.blanks.now (codes "<") (opening_text (element_name node.kind node.id) (node_attributes node))
    c.args.ending.now (codes "\n") in
    cc (text, c.in_ok-put_bytes.ensures, c.in_ok-put_bytes-2.ensures, c.in_ok-put_node.ensures, c.in_ok-put_bytes-3.ensures, c.in_ok-put_bytes-4.ensures)
