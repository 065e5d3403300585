-- What a run gives that was joined, of which something is expected.
use Rattle.std.specs.Prelude.{List, Result, Ok, Err}
use Rattle.spec_run.specs.Drivers.{DriverState}
use Rattle.spec_run.specs.Run.{run}
use Rattle.spec_run.specs.Served.{Setup}
use Rattle.spec_expect.specs.declared.expectation.Expected.{Expected}
use Rattle.spec_program.specs.declared.exit.Exit.{Exit}
use Rattle.spec_program.specs.declared.exit.Exit.TheVariants as exit
use Rattle.spec_program.specs.Answers.{Gave, Side, side}
use Rattle.spec_program.specs.Expecting.{expecting}
use Rattle.run_loop.specs.declared.runs.Runs.{Runs}
use Rattle.run_loop.specs.Begun.{AreBegun}
use Rattle.text_lines.specs.declared.stop.TextStop.{TextStop}
use Rattle.text_lines.specs.declared.stop.TextStop.TheVariants as text_stop
use Rattle.text_trace.specs.declared.expecting.run.Expecting.{Expecting}
use Rattle.text_trace.specs.declared.expecting.run.Expecting.TheVariants.{Met, Unmet, Faulted}

-- the exit of a run that came out so
abbrev pub expect_exit_of : Result Expecting TextStop → Exit
expect_exit_of (Ok Met) = exit.Done
expect_exit_of (Ok Unmet) = exit.Unmet
expect_exit_of (Ok Faulted) = exit.Fault
expect_exit_of (Err text_stop.WriteFault) = exit.Write
expect_exit_of (Err text_stop.NoMemory) = exit.Memory

-- the output of a run of which this is expected was given, over whatever drivers were prepared for it
abbrev pub ExpectGave : Setup → List Expected → Runs → Exit → Side → Side → Type 0
ExpectGave of expected runs result old new = (before : List DriverState) → AreBegun of.tree of.world before old.drivers runs →
    Gave (expecting expected of (run of.tree of.world)) result (side old.written old.faults old.clock before) new
