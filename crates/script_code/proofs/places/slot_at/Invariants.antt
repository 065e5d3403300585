use Rattle.std.proofs.Common.{◌≡◌, drop}
use Rattle.script_code.specs.Sources.{slot_of}
use Rattle.script_code.proofs.places.slot_at.Given as goal

abbrev pub invariant-loop-n : goal.invariant-loop-n
invariant-loop-n l = slot_of (drop l.n-index l.slots) l.name ≡ slot_of l.slots l.name
