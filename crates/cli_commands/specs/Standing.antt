-- The output of a tree that stands for another.
use Rattle.std.specs.Prelude.{◌≡◌, Result}
use Rattle.spec_program.specs.declared.course.Course.{Course}
use Rattle.spec_tree_file.specs.declared.mock_fault.MockFault.{MockFault}
use Rattle.spec_tree.specs.declared.term.Tree.{Tree}
use Rattle.spec_world.specs.declared.world.World.{World}
use Rattle.spec_program.specs.Output.{Ending}
use Rattle.spec_program.specs.Courses.{given}
use Rattle.spec_program.specs.Gives.{standing_output}

-- .. by its script, by the moments of a clock, or as a load
abbrev pub StandingGives : Result Tree MockFault → World → Course → Ending
StandingGives stands world course moments drivers output = output ≡ standing_output stands world (given course moments drivers)
