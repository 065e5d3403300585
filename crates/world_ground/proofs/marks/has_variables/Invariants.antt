use Rattle.std.proofs.Common.{length, ◌≡◌}
use Rattle.spec_world_file.specs.Blocks.{after_marks, is_variable}
use Rattle.world_ground.proofs.marks.has_variables.Given as goal

abbrev pub invariant-bytes : goal.invariant-bytes
invariant-bytes l = after_marks is_variable l.rest ≡ after_marks is_variable l.text

abbrev pub decreases-bytes : goal.decreases-bytes
decreases-bytes l = length l.rest
