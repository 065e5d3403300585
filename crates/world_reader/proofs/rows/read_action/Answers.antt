use Rattle.world_lines.proofs.Ascii.{line_once}
use Rattle.world_reader.proofs.rows.read_action.Goals as goal

pub read_gate-requires : goal.read_gate-requires
read_gate-requires c = line_once c.cut.result.1.now c.cut-2.result.1.now c.cut-2.ensures.rest (line_once c.args.text.now c.cut.result.1.now c.cut.ensures.rest c.requires)

pub read_timed-requires : goal.read_timed-requires
read_timed-requires c = line_once c.cut.result.1.now c.cut-2.result.1.now c.cut-2.ensures.rest (line_once c.args.text.now c.cut.result.1.now c.cut.ensures.rest c.requires)
