use Rattle.std.proofs.Common.{◌∙◌}
use Rattle.base_outside.proofs.Writings.{Writes-none, lines-equal}
use Rattle.text_lines.proofs.LineEnds.{mark_lines}
use Rattle.text_lines.proofs.tree.write_end.Goals as goal

pub returns-in_err-line-clause-writes : goal.returns-in_err-line-clause-writes
returns-in_err-line-clause-writes g c = Writes-none g.K.Sink.write_gives c.from_residual.result _

pub returns-clause-writes : goal.returns-clause-writes
returns-clause-writes g c =
    c.write_line.ensures.writes (lines-equal _ _ (c.as_slice.ensures.value ∙ c.in_ok-line.ensures) (mark_lines c.args.blanks.now _))
