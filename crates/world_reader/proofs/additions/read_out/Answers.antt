use Rattle.world_lines.proofs.Ascii.{line_once}
use Rattle.world_reader.proofs.additions.read_out.Goals as goal

pub numeric-requires : goal.numeric-requires
numeric-requires c = line_once c.cut.result.1.now c.cut-2.result.1.now c.cut-2.ensures.rest (line_once c.args.text.now c.cut.result.1.now c.cut.ensures.rest c.requires)
