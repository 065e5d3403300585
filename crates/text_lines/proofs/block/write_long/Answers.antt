use Rattle.std.proofs.Common.{◌∙◌}
use Rattle.base_outside.proofs.Writings.{Writes-none, lines-equal}
use Rattle.text_lines.proofs.LineEnds.{note_lines}
use Rattle.text_lines.proofs.Lines.{alone}
use Rattle.text_lines.proofs.block.write_long.Goals as goal

pub returns-in_err-put_long-clause-writes : goal.returns-in_err-put_long-clause-writes
returns-in_err-put_long-clause-writes g c = Writes-none g.K.Sink.write_gives c.from_residual.result _

pub returns-clause-writes : goal.returns-clause-writes
returns-clause-writes g c =
    c.write_line.ensures.writes (lines-equal _ _ (c.as_slice.ensures.value ∙ alone _ c.clear.ensures.items c.in_ok-put_long.ensures) (note_lines c.args.names.now c.args.note.now))
