use Rattle.std.proofs.Common.{◌≡◌, [], take, drop}
use Rattle.spec_world_file.specs.WorldFile.{repeats}
use Rattle.world_ground.proofs.sort.repeats.Given as goal

abbrev pub invariant-loop-place : goal.invariant-loop-place
invariant-loop-place l = repeats (take l.place l.names) (drop l.place l.names) ≡ repeats [] l.names
