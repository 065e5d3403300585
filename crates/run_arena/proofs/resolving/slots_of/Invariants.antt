use Rattle.std.proofs.Common.{◌≡◌, map, take}
use Rattle.run_arena.specs.Resolving.{named_slot}
use Rattle.run_arena.proofs.resolving.slots_of.Given as goal

abbrev pub invariant-loop-name : goal.invariant-loop-name
invariant-loop-name g l = l.slots.items ≡ map (named_slot l.setting.tree.now l.scope) (take l.name-index l.names)
