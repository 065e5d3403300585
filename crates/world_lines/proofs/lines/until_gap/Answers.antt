use Rattle.std.proofs.Common.{rules}
use Rattle.std.proofs.lemmas.List.{take_all}
use Rattle.world_lines.proofs.lines.until_gap.Goals as goal

pub gap-init : goal.gap-init
gap-init c = search (rules, take_all)
