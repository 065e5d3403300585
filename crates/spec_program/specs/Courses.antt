-- What the run of a tree in a world gives.
use Rattle.std.specs.Prelude.{ℕ, List, length, Option, Some, None}
use Rattle.spec_run.specs.declared.join_fault.JoinFault.{JoinFault}
use Rattle.spec_output.specs.Summaries.{load_line}
use Rattle.spec_program.specs.declared.course.Course.{Course}
use Rattle.spec_program.specs.declared.exit.Exit.{Exit}
use Rattle.spec_run.specs.declared.fault.RunFault.{RunFault}
use Rattle.spec_tree.specs.declared.term.Tree.{Tree}
use Rattle.spec_world.specs.declared.world.Event.{Event}
use Rattle.spec_world.specs.declared.world.World.{World}
use Rattle.spec_run.specs.Drivers.{DriverState}
use Rattle.spec_output.specs.Lines.{line_names}
use Rattle.spec_run.specs.Run.{Trace, run_over}
use Rattle.spec_outside.specs.Moments.{Moments}
use Rattle.spec_output.specs.Rounds.{live_events, taken}
use Rattle.spec_output.specs.Texts.{text_of}
use Rattle.spec_program.specs.Output.{Asked, Never, OfRun, Output, Times, UpToFault}
use Rattle.spec_program.specs.RefusalOutputs.{join_refused}
use Rattle.spec_program.specs.declared.course.Course.TheVariants as course
use Rattle.spec_program.specs.declared.exit.Exit.TheVariants as exit

-- a run ends at its first fault, or is done
abbrev pub run_exit : Option RunFault → Exit
run_exit None = exit.Done
run_exit (Some fault) = exit.Fault

-- the events that are run: those of the world's script, or rounds at the moments of a clock
abbrev pub events_by : Course → Moments → World → List Event
events_by course.Script moments world = world.events
events_by (course.Rounds rounds) moments world = live_events world 0 (taken rounds moments)
events_by (course.Load leaves) moments world = world.events

-- what is written of a run: its trace, block by block, or of a load the line that sums it up
abbrev pub bytes_by : Course → Tree → World → Trace → List ℕ
bytes_by course.Script tree world trace = text_of (line_names tree world) trace.blocks
bytes_by (course.Rounds rounds) tree world trace = text_of (line_names tree world) trace.blocks
bytes_by (course.Load leaves) tree world trace = load_line leaves tree (length world.events) trace

-- how often a run asks the clock: once a round, and never for a script
abbrev pub asked_by : Course → Moments → Tree → World → Option RunFault → Asked
asked_by course.Script moments tree world fault = Never
asked_by (course.Rounds rounds) moments tree world None = Times rounds
asked_by (course.Rounds rounds) moments tree world (Some fault) = UpToFault tree world (taken rounds moments)
asked_by (course.Load leaves) moments tree world fault = Never

-- what a run is given beside its files: its events, what is written of its trace, how often it asks the clock, and the
-- drivers
pub record Given : Type 0 where
  pub events : World → List Event
  pub bytes : Tree → World → Trace → List ℕ
  pub asked : Tree → World → Option RunFault → Asked
  pub drivers : List DriverState

abbrev pub given : Course → Moments → List DriverState → Given
given course moments drivers = record { events = events_by course moments; bytes = bytes_by course; asked = asked_by course moments; drivers = drivers }

-- what is written of a run's trace, whose calls the drivers have
abbrev pub traced : Tree → World → Given → Trace → Output
traced tree world g trace = record {
  bytes = g.bytes tree world trace;
  exit = run_exit trace.fault;
  calls = OfRun tree world trace.calls;
  asked = g.asked tree world trace.fault;
}

-- the run of a tree in a world
abbrev pub run_output : Tree → World → Given → Output
run_output tree world g = traced tree world g (run_over tree world (g.events world))

-- a tree and a world run where every leaf has a row and a driver; else the first that lacks one is told
abbrev pub joined_output : Option JoinFault → Tree → World → Given → Output
joined_output None tree world g = run_output tree world g
joined_output (Some fault) tree world g = join_refused fault
