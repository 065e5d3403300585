use Rattle.std.proofs.Common.{◌≡◌, ◌+◌, drop}
use Rattle.world_ground.specs.Flat.{flat_each}
use Rattle.world_ground.proofs.lines.Lines.add_each.Given as goal

abbrev pub invariant-loop-i : goal.invariant-loop-i
invariant-loop-i l = flat_each l.variable (l.i + 1) (drop l.i l.values) l.lines l.self ≡ flat_each l.variable 1 l.values l.lines l.initial.self
