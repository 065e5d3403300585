use Rattle.std.proofs.Common.{◌≡◌, map, take}
use Rattle.world_lines.specs.Written.{seen_out}
use Rattle.world_draft.proofs.telling.told.Given as goal

abbrev pub invariant-loop-out : goal.invariant-loop-out
invariant-loop-out l = l.told.items ≡ map seen_out (take l.out-index l.outs)
