-- What the bytes of files give: the output of a run, and of what is printed of a tree.
use Rattle.std.specs.Prelude.{ℕ, ◌≡◌, List, length, nat_lt, Bool, Option, Result, Ok, Err, MatchBool}
use Rattle.spec_program.specs.declared.course.Course.{Course}
use Rattle.spec_program.specs.declared.print.Print.{Print}
use Rattle.spec_program.specs.declared.tree_fault.TreeFault.{TreeFault}
use Rattle.spec_tree_file.specs.ReadSteps.{go_on}
use Rattle.spec_tree_file.specs.declared.mock_fault.MockFault.{MockFault}
use Rattle.spec_tree_file.specs.RuleFiles.{rules_in}
use Rattle.spec_tree_file.specs.Substitutions.{substitute}
use Rattle.spec_program.specs.Files.{Contents}
use Rattle.spec_program.specs.TreeFiles.{TreeReads}
use Rattle.spec_tree.specs.declared.term.Tree.{Tree}
use Rattle.spec_world.specs.declared.world.World.{World}
use Rattle.spec_world_file.specs.declared.world_fault.WorldFault.{WorldFault}
use Rattle.spec_tree.specs.Limits.{most_file_bytes}
use Rattle.spec_world_file.specs.WorldFile.{ReadsWorld}
use Rattle.spec_program.specs.Output.{AreUncalled, Begun, Output, Ending}
use Rattle.spec_program.specs.RefusalOutputs.{too_long, world_refused, tree_refused, rules_refused}
use Rattle.spec_program.specs.Printed.{print_made, print_output}
use Rattle.spec_program.specs.ToldApart.{told_apart}
use Rattle.spec_program.specs.Courses.{Given, given, joined_output}
use Rattle.spec_run.specs.Joins.{lack_of}
use Rattle.spec_program.specs.declared.course.Course.TheVariants as course
use Rattle.spec_program.specs.declared.file.File.TheVariants as file

-- what may have become of the drivers before an output is known, by the bytes of files
abbrev pub Beginning : Type 1
Beginning = Contents → Begun

abbrev pub BeginsNothing : Beginning
BeginsNothing = λ files. AreUncalled

-- what is run in the place of a tree that was read, if that is a tree within the limits
abbrev pub Standing : Type 0
Standing = Tree → Result Tree MockFault

-- it itself
abbrev pub itself : Standing
itself tree = Ok tree

-- the tree that the rules of these bytes of a rules file make of it
abbrev pub mocked : List ℕ → Standing
mocked rules tree = go_on (substitute tree) (rules_in rules)

-- the tree that they make where its openings are told apart, which a tree file can have
abbrev pub mocked_apart : List ℕ → Standing
mocked_apart rules tree = go_on (λ r. substitute (told_apart r tree) r) (rules_in rules)

-- what is run with a world
abbrev pub standing_output : Result Tree MockFault → World → Given → Output
standing_output (Ok tree) world g = joined_output (lack_of tree world g.drivers) tree world g
standing_output (Err fault) world g = rules_refused fault

-- what is run with what the world file reads as
abbrev pub world_output : Result World WorldFault → Result Tree MockFault → Given → Output
world_output (Ok world) stands g = standing_output stands world g
world_output (Err fault) stands g = world_refused fault

-- the output of a tree over the bytes of a world file
abbrev pub WorldGives : Tree → Standing → List ℕ → Given → Output → Type 0
WorldGives tree stands world g output = (described : Result World WorldFault) × ReadsWorld world described × (output ≡ world_output described (stands tree) g)

-- the output of what a tree file reads as over the bytes of a world file
abbrev pub TreeGives : Result Tree TreeFault → Standing → List ℕ → Given → Output → Type 0
TreeGives (Ok tree) stands world g output = WorldGives tree stands world g output
TreeGives (Err fault) stands world g output = output ≡ tree_refused fault

-- the output of both files, with the main tree that is asked for, if one is
abbrev pub ReadGives : Option (List ℕ) → Standing → List ℕ → List ℕ → Given → Output → Type 0
ReadGives main stands tree world g output = (read : Result Tree TreeFault) × TreeReads main tree read × TreeGives read stands world g output

-- a file of more bytes is too long
abbrev pub is_too_long : List ℕ → Bool
is_too_long bytes = nat_lt most_file_bytes (length bytes)

-- the output of a file that must not be too long, which comes before all else of it
abbrev pub OrTooLong : List ℕ → Output → Output → Type 0 → Type 0
OrTooLong bytes refusal output Given = MatchBool (is_too_long bytes) (output ≡ refusal) Given

-- the output of a run over the bytes of both files
abbrev pub RunGives : Option (List ℕ) → List ℕ → List ℕ → Given → Output → Type 0
RunGives main tree world g output =
    OrTooLong tree (too_long file.Tree) output
    (OrTooLong world (too_long file.World) output (ReadGives main itself tree world g output))

-- the output of a run over the bytes of three files, of the tree that the rules of the third make
abbrev pub MockGives : Option (List ℕ) → List ℕ → List ℕ → List ℕ → Given → Output → Type 0
MockGives main tree world rules g output =
    OrTooLong tree (too_long file.Tree) output
    (OrTooLong world (too_long file.World) output
    (OrTooLong rules (too_long file.Rules) output (ReadGives main (mocked rules) tree world g output)))

-- what moments and drivers have for outputs, over the bytes of files
abbrev pub Giving : Type 1
Giving = Contents → Ending

-- the output of a run of two files on this course
abbrev pub CourseGives : Course → Option (List ℕ) → List ℕ → List ℕ → Ending
CourseGives course main tree world = λ moments drivers. RunGives main tree world (given course moments drivers)

abbrev pub RunsOn : Course → Option (List ℕ) → Giving
RunsOn course main = λ files. CourseGives course main files.tree files.world

-- the output of a run by the world's script of the tree that rules make
abbrev pub ScriptMocks : Option (List ℕ) → List ℕ → List ℕ → List ℕ → Ending
ScriptMocks main tree world rules = λ moments drivers. MockGives main tree world rules (given course.Script moments drivers)

abbrev pub Mocks : Option (List ℕ) → Giving
Mocks main = λ files. ScriptMocks main files.tree files.world files.rules

-- the output of what is printed of a tree, over the bytes of its file
abbrev pub PrintGives : Print → Option (List ℕ) → List ℕ → Output → Type 0
PrintGives print main tree output =
    OrTooLong tree (too_long file.Tree) output
    ((read : Result Tree TreeFault) × TreeReads main tree read × (output ≡ print_output print read))

abbrev pub Prints : Print → Option (List ℕ) → Giving
Prints print main = λ files moments drivers. PrintGives print main files.tree

-- the output of what is printed of the tree that rules make of one that was read
abbrev pub made_output : List ℕ → Result Tree TreeFault → Output
made_output rules (Ok tree) = print_made (mocked_apart rules tree)
made_output rules (Err fault) = tree_refused fault

-- .. over the bytes of both files
abbrev pub MadeGives : Option (List ℕ) → List ℕ → List ℕ → Output → Type 0
MadeGives main tree rules output =
    OrTooLong tree (too_long file.Tree) output
    (OrTooLong rules (too_long file.Rules) output
    ((read : Result Tree TreeFault) × TreeReads main tree read × (output ≡ made_output rules read)))

abbrev pub PrintsMade : Option (List ℕ) → Giving
PrintsMade main = λ files moments drivers. MadeGives main files.tree files.rules
