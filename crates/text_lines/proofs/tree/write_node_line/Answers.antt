use Rattle.std.proofs.Common.{◌∙◌}
use Rattle.base_outside.proofs.Writings.{Writes-none, lines-equal}
use Rattle.text_lines.proofs.LineEnds.{mark_lines}
use Rattle.text_lines.proofs.Lines.{alone}
use Rattle.text_lines.proofs.tree.write_node_line.Goals as goal

pub returns-in_err-put_node_line-clause-writes : goal.returns-in_err-put_node_line-clause-writes
returns-in_err-put_node_line-clause-writes g c = Writes-none g.K.Sink.write_gives c.from_residual.result _

pub returns-clause-writes : goal.returns-clause-writes
returns-clause-writes g c =
    c.write_line.ensures.writes (lines-equal _ _ (c.as_slice.ensures.value ∙ alone _ c.clear.ensures.items c.in_ok-put_node_line.ensures) (mark_lines c.args.blanks.now _))
