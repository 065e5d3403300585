-- A tree joined with a world, and its names.
use Rattle.std.specs.Prelude.{◌≡◌, List}
use Rattle.spec_program.specs.declared.course.Course.{Course}
use Rattle.spec_tree.specs.declared.term.Tree.{Tree}
use Rattle.spec_world.specs.declared.world.World.{World}
use Rattle.spec_run.specs.Drivers.{DriverState}
use Rattle.spec_output.specs.Lines.{LineNames, line_names}
use Rattle.spec_outside.specs.Moments.{Moments}
use Rattle.spec_output.specs.NoNames.{no_names}
use Rattle.spec_program.specs.Output.{Output}
use Rattle.spec_program.specs.Courses.{given, joined_output}
use Rattle.spec_run.specs.Joins.{lack_of}
use Rattle.spec_program.specs.declared.course.Course.TheVariants as course

-- the names that the lines of a run need on this course: of a load none is written
abbrev pub names_on : Course → Tree → World → LineNames
names_on course.Script tree world = line_names tree world
names_on (course.Rounds rounds) tree world = line_names tree world
names_on (course.Load leaves) tree world = no_names

-- the output of a tree and a world on this course, at these moments and with these drivers
abbrev pub JoinGives : Tree → World → Course → Moments → List DriverState → Output → Type 0
JoinGives tree world course moments drivers output =
    output ≡ joined_output (lack_of tree world drivers) tree world (given course moments drivers)
