-- What each command is about: its files, and what they have for its output.
use Rattle.std.specs.Prelude.{ℕ, ◌≡◌, List, [], Option, Some, None}
use Rattle.spec_program.specs.Words.{Command, Tick, Live, Load, Check, Dead, Exclusive, Plan, Mock, MockPrint, Ground, GroundPlan, Expect}
use Rattle.spec_output.specs.LoadTexts.{tree_text, world_text}
use Rattle.spec_run.specs.Drivers.{DriverState}
use Rattle.spec_outside.specs.Moments.{Moments}
use Rattle.spec_program.specs.declared.course.Course.TheVariants as course
use Rattle.spec_program.specs.declared.print.Print.TheVariants as print
use Rattle.spec_program.specs.Exclusives.{Exclusives}
use Rattle.spec_program.specs.Files.{Contents, Named, no_files, tree_alone, tree_and_rules, tree_and_world, tree_world_expect, tree_world_rules, world_alone}
use Rattle.spec_program.specs.Expecting.{Expects}
use Rattle.spec_program.specs.Grounds.{GroundBegins, GroundPlans, Grounds}
use Rattle.spec_program.specs.Gives.{Beginning, BeginsNothing, CourseGives, Giving, Mocks, Prints, PrintsMade, RunsOn}
use Rattle.spec_program.specs.Output.{Output}
use Rattle.spec_program.specs.RefusalOutputs.{words_refused}
use Rattle.spec_program.specs.Plans.{Begins, Plans}
use Rattle.spec_plan.specs.declared.ending.Limits.{Limits}

-- what a command is about: the files that it names, what files, moments and drivers have for its output, and what it may
-- have begun before this is known
pub record Job : Type 1 where
  pub named : Named
  pub gives : Giving
  pub begins : Beginning

-- the job of each command; a load makes both of its files
abbrev pub job_of : Command → Job
job_of (Tick tree world main) = record { named = tree_and_world tree world; gives = RunsOn course.Script main; begins = BeginsNothing }
job_of (Live tree world rounds main) = record { named = tree_and_world tree world; gives = RunsOn (course.Rounds rounds) main; begins = BeginsNothing }
job_of (Load leaves) = record {
  named = no_files;
  gives = λ files. CourseGives (course.Load leaves) None (tree_text leaves) (world_text leaves);
  begins = BeginsNothing;
}
job_of (Check tree main) = record { named = tree_alone tree; gives = Prints print.Whole main; begins = BeginsNothing }
job_of (Dead tree main) = record { named = tree_alone tree; gives = Prints print.Dead main; begins = BeginsNothing }
job_of (Exclusive tree ids main) = record { named = tree_alone tree; gives = Exclusives ids main; begins = BeginsNothing }
job_of (Plan world expand ticks period) =
    let limits : Limits = record { expand = expand; ticks = ticks; period = period } in
    record { named = world_alone world; gives = Plans limits; begins = Begins limits }
job_of (Mock tree world rules main) = record { named = tree_world_rules tree world rules; gives = Mocks main; begins = BeginsNothing }
job_of (MockPrint tree rules main) = record { named = tree_and_rules tree rules; gives = PrintsMade main; begins = BeginsNothing }
job_of (Expect tree world expect main) = record { named = tree_world_expect tree world expect; gives = Expects main; begins = BeginsNothing }
job_of (Ground world) = record { named = world_alone world; gives = Grounds; begins = BeginsNothing }
job_of (GroundPlan world expand ticks period) =
    let limits : Limits = record { expand = expand; ticks = ticks; period = period } in
    record { named = world_alone world; gives = GroundPlans limits; begins = GroundBegins limits }

-- the files that a command names
abbrev pub files_of : Command → Named
files_of command = (job_of command).named

-- the output of a command over these bytes of the files that it names, these moments and these drivers
abbrev pub FilesGive : Command → Giving
FilesGive command = (job_of command).gives

-- what a command may have begun before its output is known
abbrev pub FilesBegin : Command → Beginning
FilesBegin command = (job_of command).begins

-- what a file holds that may be named
abbrev pub held : (List ℕ → List ℕ) → Option (List ℕ) → List ℕ
held holds (Some name) = holds name
held holds None = []

abbrev pub held_by : (List ℕ → List ℕ) → Named → Contents
held_by holds named =
    record { tree = held holds named.tree; world = held holds named.world; rules = held holds named.rules; expect = held holds named.expect }

-- the output of a command over what the files hold; words that are no command are refused
abbrev pub CommandGives : Option Command → (List ℕ → List ℕ) → Moments → List DriverState → Output → Type 0
CommandGives None holds moments drivers output = output ≡ words_refused
CommandGives (Some command) holds moments drivers output = FilesGive command (held_by holds (files_of command)) moments drivers output
