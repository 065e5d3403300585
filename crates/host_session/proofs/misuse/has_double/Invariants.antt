use Rattle.std.proofs.Common.{◌≡◌, take, drop, []}
use Rattle.spec_world.specs.Worlds.{ports_told}
use Rattle.spec_world_file.specs.WorldFile.{repeats}
use Rattle.host_session.proofs.misuse.has_double.Given as goal

-- an output that stands twice is still to come
abbrev pub invariant-loop-i : goal.invariant-loop-i
invariant-loop-i l = repeats (take l.i (ports_told l.outs)) (drop l.i (ports_told l.outs)) ≡ repeats [] (ports_told l.outs)
