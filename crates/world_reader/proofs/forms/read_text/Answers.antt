use Rattle.std.proofs.Common.{sym, ◌∙◌}
use Rattle.world_lines.proofs.Ascii.{line_once}
use Rattle.world_reader.proofs.forms.read_text.Goals as goal

pub read_line-requires : goal.read_line-requires
read_line-requires c = line_once c.content-text.result.now c.cut.result.1.now c.cut.ensures.rest (sym c.is_line.ensures ∙ c.if-not-is_line.false)
