-- The output of a run of which something is expected.
use Rattle.std.specs.Prelude.{ℕ, ◌≡◌, List, nat_eq, if◌then◌else◌, Option, Some, None, Result, Ok, Err}
use Rattle.spec_run.specs.declared.fault.RunFault.{RunFault}
use Rattle.spec_run.specs.declared.join_fault.JoinFault.{JoinFault}
use Rattle.spec_run.specs.Drivers.{DriverState}
use Rattle.spec_run.specs.Joins.{lack_of}
use Rattle.spec_run.specs.Run.{Trace, run}
use Rattle.spec_run.specs.Served.{Setup}
use Rattle.spec_tree.specs.declared.term.Tree.{Tree}
use Rattle.spec_world.specs.declared.world.World.{World}
use Rattle.spec_world_file.specs.declared.world_fault.WorldFault.{WorldFault}
use Rattle.spec_world_file.specs.WorldFile.{ReadsWorld}
use Rattle.spec_expect.specs.declared.expect_fault.ExpectFault.{ExpectFault}
use Rattle.spec_expect.specs.declared.expectation.Expected.{Expected}
use Rattle.spec_expect.specs.ExpectFile.{ReadsExpected}
use Rattle.spec_expect.specs.Told.{told_of}
use Rattle.spec_expect.specs.Verdicts.{failed}
use Rattle.spec_program.specs.declared.exit.Exit.{Exit}
use Rattle.spec_program.specs.declared.exit.Exit.TheVariants as exit
use Rattle.spec_program.specs.declared.file.File.TheVariants as file
use Rattle.spec_program.specs.declared.tree_fault.TreeFault.{TreeFault}
use Rattle.spec_program.specs.Gives.{Giving, OrTooLong}
use Rattle.spec_program.specs.Output.{Ending, Never, OfRun, Output}
use Rattle.spec_program.specs.RefusalOutputs.{expect_refused, join_refused, too_long, tree_refused, world_refused}
use Rattle.spec_program.specs.TreeFiles.{TreeReads}

-- ---- The output

abbrev pub expect_exit : Option RunFault → ℕ → Exit
expect_exit (Some fault) failed = exit.Fault
expect_exit None failed = if nat_eq failed 0 then exit.Done else exit.Unmet

-- what is written of a run of which this is expected: the line of each expectation in order, and the last one
abbrev pub expecting : List Expected → Setup → Trace → Output
expecting expected of trace = record {
  bytes = told_of of expected trace;
  exit = expect_exit trace.fault (failed of trace.blocks expected);
  calls = OfRun of.tree of.world trace.calls;
  asked = Never;
}

-- by what the file of expectations reads as
abbrev pub expect_output : Result (List Expected) ExpectFault → Setup → Output
expect_output (Ok expected) of = expecting expected of (run of.tree of.world)
expect_output (Err fault) of = expect_refused fault

-- a tree and a world that fit together, and the bytes of a file of expectations
abbrev pub FileExpects : Setup → List ℕ → Output → Type 0
FileExpects of expect output =
    (read : Result (List Expected) ExpectFault) × ReadsExpected of.tree of.world expect read × (output ≡ expect_output read of)

-- where every leaf has a row and a driver; else the first that lacks one is told
abbrev pub JoinExpects : Option JoinFault → Setup → List ℕ → Output → Type 0
JoinExpects None of expect output = FileExpects of expect output
JoinExpects (Some fault) of expect output = output ≡ join_refused fault

abbrev pub setup : Tree → World → Setup
setup tree world = record { tree = tree; world = world }

abbrev pub WorldExpects : Result World WorldFault → Tree → List ℕ → List DriverState → Output → Type 0
WorldExpects (Ok world) tree expect drivers output = JoinExpects (lack_of tree world drivers) (setup tree world) expect output
WorldExpects (Err fault) tree expect drivers output = output ≡ world_refused fault

abbrev pub TreeExpects : Result Tree TreeFault → List ℕ → List ℕ → List DriverState → Output → Type 0
TreeExpects (Ok tree) world expect drivers output =
    (described : Result World WorldFault) × ReadsWorld world described × WorldExpects described tree expect drivers output
TreeExpects (Err fault) world expect drivers output = output ≡ tree_refused fault

-- the output over the bytes of the three files
abbrev pub ExpectGives : Option (List ℕ) → List ℕ → List ℕ → List ℕ → Ending
ExpectGives main tree world expect moments drivers output =
    OrTooLong tree (too_long file.Tree) output
    (OrTooLong world (too_long file.World) output
    (OrTooLong expect (too_long file.Expect) output
    ((read : Result Tree TreeFault) × TreeReads main tree read × TreeExpects read world expect drivers output)))

abbrev pub Expects : Option (List ℕ) → Giving
Expects main = λ files. ExpectGives main files.tree files.world files.expect
