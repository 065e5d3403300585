use Rattle.world_lines.proofs.Ascii.{line_once}
use Rattle.world_reader.proofs.rows.read_condition.Goals as goal

pub read_when-requires : goal.read_when-requires
read_when-requires c = line_once c.cut.result.1.now c.cut-2.result.1.now c.cut-2.ensures.rest (line_once c.args.text.now c.cut.result.1.now c.cut.ensures.rest c.requires)
