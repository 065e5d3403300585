use Rattle.std.proofs.Common.{length, ◌≡◌}
use Rattle.spec_world_file.specs.Blocks.{after_marks}
use Rattle.spec_world_file.specs.GroundFile.{is_open}
use Rattle.world_ground.proofs.marks.has_open_variables.Given as goal

abbrev pub invariant-bytes : goal.invariant-bytes
invariant-bytes l = after_marks (is_open l.blocks.items) l.rest ≡ after_marks (is_open l.blocks.items) l.text

abbrev pub decreases-bytes : goal.decreases-bytes
decreases-bytes l = length l.rest
